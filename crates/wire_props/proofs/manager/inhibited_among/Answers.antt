use Rattle.std.proofs.Common.{◌≡◌, ◌∙◌, ◌||◌, ◌+◌, ◌<◌, ℕ, Bool, true, false, List, length, get_or, drop, refl, ap, sym}
use Rattle.std.proofs.lemmas.List.{drop_more}
use Rattle.login_base.specs.declared.ids.LockNo.{LockNo}
use Rattle.login_model.specs.declared.fact.Fact.{Fact}
use Rattle.login_model.specs.declared.fact.Key.TheVariants.{Lock}
use Rattle.login_model.specs.declared.lock.Inhibited.{Inhibited}
use Rattle.login_model.specs.declared.lock.LockMode.{LockMode}
use Rattle.login_model.specs.Facts.{inhibited_in}
use Rattle.login_model.specs.Properties.{either_inhibited, inhibited_among}
use Rattle.login_model.specs.Trail.{Trail, value}
use Rattle.wire_props.proofs.manager.inhibited_among.Goals as goal

-- which of three words are held up first does not matter
any : (a b c : Bool) → ((a || b) || c) ≡ (a || (b || c))
any true b c = refl
any false b c = refl

either-assoc : (a b c : Inhibited) → either_inhibited (either_inhibited a b) c ≡ either_inhibited a (either_inhibited b c)
either-assoc a b c =
    rw (
      any a.shutdown b.shutdown c.shutdown,
      any a.sleep b.sleep c.sleep,
      any a.idle b.idle c.idle,
      any a.handle_power_key b.handle_power_key c.handle_power_key,
      any a.handle_suspend_key b.handle_suspend_key c.handle_suspend_key,
      any a.handle_hibernate_key b.handle_hibernate_key c.handle_hibernate_key,
      any a.handle_lid_switch b.handle_lid_switch c.handle_lid_switch,
    )
    refl

-- one more lock, and the rest
one_more : (t : Trail) (mode : LockMode) (before held after all : Inhibited) (f : Fact) (ls : List LockNo) (i : ℕ) (d : LockNo) → i < length ls
    → f ≡ value t (Lock (get_or ls i d)) → held ≡ inhibited_in mode f → after ≡ either_inhibited before held
    → either_inhibited before (inhibited_among t mode (drop i ls)) ≡ all → either_inhibited after (inhibited_among t mode (drop (i + 1) ls)) ≡ all
one_more t mode before held after all f ls i d below fact is both rest =
    ap (λ x. either_inhibited x (inhibited_among t mode (drop (i + 1) ls))) both
    ∙ (either-assoc before held (inhibited_among t mode (drop (i + 1) ls))
    ∙ (ap (λ x. either_inhibited before (either_inhibited x (inhibited_among t mode (drop (i + 1) ls)))) (is ∙ ap (inhibited_in mode) fact)
    ∙ (ap (λ xs. either_inhibited before (inhibited_among t mode xs)) (sym (drop_more ls i d below))
    ∙ rest)))

pub loop-lock-preserved : goal.loop-lock-preserved
loop-lock-preserved g c =
    one_more (g.F.Look.trail c.args.facts.now) c.args.mode c.loop-lock.inhibited c.inhibited.result c.or-inhibited.result _ c.fact.result.now c.args.locks.now c.loop-lock.lock-index _
    c.loop-lock-test.true c.fact.ensures c.inhibited.ensures c.or-inhibited.ensures c.loop-lock.invariant
