-- The rules of a lock whose words were read.
use Rattle.std.proofs.Common.{◌≡◌, ◌&&◌, ◌++◌, ap, sym, refl, Bool, true, false, cond, List, [], ◌∷◌, Option, Some, None}
use Rattle.std.specs.Option.{is_some, unwrap_or}
use Rattle.login_base.specs.declared.ids.ConnId.{ConnId}
use Rattle.login_model.specs.Locks.{is_what, mode_of, what_of}
use Rattle.login_model.specs.Policy.{bad_arguments, delay_not_offered, first_broken, inhibit_rules, lock_in_progress, too_many_locks, word_rules}
use Rattle.login_model.specs.Trail.{Trail}
use Rattle.login_model.specs.Words.{mode_named}
use Rattle.login_model.specs.declared.call.Inhibition.{Inhibition}
use Rattle.login_model.specs.declared.lock.Inhibited.{Inhibited}
use Rattle.login_model.specs.declared.lock.LockMode.{LockMode}
use Rattle.login_model.specs.declared.lock.LockMode.TheVariants.{Block}
use Rattle.login_model.specs.declared.rule.Rule.{Rule}
use Rattle.login_model.specs.declared.setup.Setup.{Setup}

-- those behind the first two
abbrev pub held : Setup → Trail → ConnId → LockMode → Inhibited → List (Option Rule)
held U t c mode what = word_rules U t c mode what ++ lock_in_progress t what ∷ too_many_locks U t ∷ []

read-so : (b : Bool) (x y : Inhibited) → cond b (Some x) None ≡ Some y → (b ≡ true) × (x ≡ y)
read-so true x y e = (refl, cc)
read-so false x y e = cc

pub asked : (U : Setup) (t : Trail) (c : ConnId) (x : Inhibition) (mode : LockMode) (what : Inhibited) → cond (is_what x.what) (Some (what_of x.what)) None ≡ Some what → mode_named x.mode ≡ Some mode
    → first_broken (delay_not_offered mode what ∷ held U t c mode what) ≡ first_broken (inhibit_rules U t c x)
unfolding mode_of
asked U t c x mode what e f =
    let w = read-so (is_what x.what) (what_of x.what) what e in
    let m : mode_of x.mode ≡ mode = ap (λ (o : Option LockMode). unwrap_or o Block) f in
    let is : true ≡ is_some (mode_named x.mode) = sym (ap is_some f) in
    let so : true ≡ is_what x.what = sym w.0 in
    let named : what ≡ what_of x.what = sym w.1 in
    let how : mode ≡ mode_of x.mode = sym m in
    (λ i. first_broken (bad_arguments (so i && is i) ∷ delay_not_offered (how i) (named i) ∷ held U t c (how i) (named i)))
