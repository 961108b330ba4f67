-- The turn that fetches the mail of a link, and the writing of it.
use Rattle.std.proofs.Common.{◌≡◌, ℕ, ◌<◌, List, [], ◌++◌, Option, Some, None, Result, Ok, Err, refl, ap, sym, ◌∙◌, append-nil, subst}
use Rattle.login_base.specs.declared.memory.NoMemory.{NoMemory}
use Rattle.login_edge.specs.Exchanges.{Exchange}
use Rattle.login_edge.specs.Hearing.{SaysAll}
use Rattle.login_edge.specs.declared.writing.WriteEnd.TheVariants as write
use Rattle.login_model.specs.Stopping.{stop_from}
use Rattle.login_model.specs.declared.mark.Entry.{Entry}
use Rattle.login_model.specs.declared.setup.Setup.{Setup}
use Rattle.desk.specs.History.{entries, of_who}
use Rattle.desk.specs.Passes.{TakesTurn}
use Rattle.desk.specs.declared.view.View.{View}
use Rattle.login_office.specs.Hearing.{TellerState}
use Rattle.login_office.specs.declared.end.LinkEnd.{LinkEnd}
use Rattle.login_office.specs.declared.end.LinkEnd.TheVariants as end
use Rattle.link_serve.specs.inner.Acting.{FetchGives, Fetched}
use Rattle.link_serve.specs.Owners.{entry_who}
use Rattle.link_serve.specs.Turned.{Acts}
use Rattle.link_serve.specs.declared.acts.Mail.{Mail}
use Rattle.link_serve.specs.inner.Standing.{Says, Stops}
use Rattle.link_serve.specs.inner.Turning.{Tells, moment}
use Rattle.link_serve.proofs.Passing.{turned-quiet}
use Rattle.link_serve.proofs.Telling.{tell-cut, tell-done, tell-none}

-- the pass has taken a turn without an entry of its own, in which a teller fetched its mail
pub record HasFetched (teller after : TellerState) (v w : View Setup Entry) (mail : Result Mail NoMemory) : Type 0 where
  pub before : List Entry
  pub acts : Acts v w before []
  pub gives : FetchGives teller before after mail

pub has-fetched : (teller after : TellerState) (mail : Result Mail NoMemory) (held : Option TellerState) (v w : View Setup Entry)
    → TakesTurn entry_who (λ (U : Setup) (old new : List Entry). Fetched held old new (Some (after, mail))) v w → held ≡ Some teller
    → (0 < w.who → of_who entry_who w.who (entries w.seen) ≡ w.mine) → HasFetched teller after v w mail
has-fetched teller after mail held v w t is mine =
    let other : TellerState = t.acted.1.0 in
    let both : Some other ≡ Some teller = sym t.acted.1.1 ∙ is in
    let same : other ≡ teller = cc in
    record {
      before = entries (v.seen ++ t.more);
      acts = turned-quiet v w t mine t.acted.0;
      gives = subst (λ (x : TellerState). FetchGives x (entries (v.seen ++ t.more)) after mail) same t.acted.1.2;
    }

-- an act that was made once has its teller
pub never-made : (teller : TellerState) (held : Option TellerState) (v w : View Setup Entry) → TakesTurn entry_who (λ (U : Setup) (old new : List Entry). Fetched held old new None) v w → held ≡ Some teller → ⊥
never-made teller held v w t is = let both : Some teller ≡ None = sym is ∙ t.acted.1 in let never : ⊥ = cc in never

module _ (teller after : TellerState) (v w : View Setup Entry) (talk : Option (List Exchange)) (left : Option (List ℕ)) (faults : ℕ) where
  -- there was no memory for the mail
  pub mail-missing : (mail : Result Mail NoMemory) → HasFetched teller after v w mail → Tells teller (moment v talk left faults) (moment w talk left faults) (Err end.NoMemory)
  mail-missing mail h u start text made told s = tell-none u start (moment v talk left faults) (moment w talk left faults) teller text made told h.before s h.acts refl refl refl

  module _ (mail : Mail) (h : HasFetched teller after v w (Ok mail)) (talk-now : Option (List Exchange)) (left-now : Option (List ℕ)) (faults-now : ℕ) (same : left-now ≡ left)
      (text : List ℕ) (is : text ≡ mail.bytes) where
    -- it was written
    pub mail-told : Says talk talk-now faults faults-now text (Ok tt) → Tells teller (moment v talk left faults) (moment w talk-now left-now faults-now) (Ok (after, mail.stop))
    mail-told say u start heard made told s = (
      tell-done u start (moment v talk left faults) (moment w talk-now left-now faults-now) teller after heard mail.bytes made told h.before s h.acts h.gives.0 (subst (SaysAll talk talk-now write.Done) is say.0) same say.1,
      h.gives.1 ∙ ap (stop_from 1) (sym (h.acts.seen_is ∙ append-nil h.before)),
    )

    -- its writing failed
    pub mail-cut : (e : LinkEnd) → Says talk talk-now faults faults-now text (Err e) → Tells teller (moment v talk left faults) (moment w talk-now left-now faults-now) (Err e)
    mail-cut e say u start heard made told s =
        subst (Stops u start (moment w talk-now left-now faults-now)) (sym say.2)
        (tell-cut u start (moment v talk left faults) (moment w talk-now left-now faults-now) teller after heard mail.bytes made told h.before s h.acts h.gives.0 (subst (SaysAll talk talk-now write.Fault) is say.0) same say.1)
