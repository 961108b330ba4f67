-- What a core makes at its desk, and what it keeps.
use Rattle.std.proofs.Common.{◌≡◌, ℕ, ◌≤◌, List, [], ◌∷◌, ◌++◌, length, Option, Some, None, Result, Ok, Err, Bool, true, false, refl, ap, sym, ◌∙◌, append_assoc, append-nil, subst, ⊎_elim}
use Rattle.std.specs.Option.{IsSome}
use Rattle.login_base.specs.declared.ids.ConnId.{ConnId}
use Rattle.login_core.specs.Fullness.{always_fits}
use Rattle.login_core.specs.State.{Appends, CoreState, IsSame, RoomGives, refusal}
use Rattle.login_core.specs.declared.state.Refused.{Refused}
use Rattle.login_core.specs.declared.state.Refused.TheVariants as refused
use Rattle.login_laws.specs.Lawful.{IsLawful}
use Rattle.login_model.specs.Conf.{IsAllowed}
use Rattle.login_model.specs.Full.{full, mark_count}
use Rattle.login_model.specs.Legal.{IsAsked, IsLegal, IsLegalAfter, IsLegalEntry, IsPlaced, trail_of}
use Rattle.login_model.specs.Limits.{entries_limit, marks_limit}
use Rattle.login_model.specs.Reading.{is_granted}
use Rattle.login_model.specs.Setups.{IsSetup}
use Rattle.login_model.specs.Stopping.{stopped}
use Rattle.login_model.specs.Where.{is_connected}
use Rattle.login_model.specs.declared.fullness.Fullness.{Fullness}
use Rattle.login_model.specs.declared.event.Event.{Event}
use Rattle.login_model.specs.declared.event.Event.TheVariants.{Disconnect}
use Rattle.login_model.specs.declared.mark.Entry.{Entry}
use Rattle.login_model.specs.declared.setup.Setup.{Setup}
use Rattle.wire_out.specs.Conditions.{IsMailable}
use Rattle.link_serve.specs.inner.Acting.{Closes, ClosesBy, StepsNow}
use Rattle.link_serve.specs.Owners.{entries_of, is_open}
use Rattle.link_serve.specs.declared.acts.Made.{Made}
use Rattle.link_serve.specs.inner.Inside.{IsAtDesk}
use Rattle.link_serve.proofs.WhoIsConnected.{connected-is-open}

-- the last entry of a legal journal is legal behind the others
legal-last : (U : Setup) (past before : List Entry) (e : Entry) → IsLegalAfter U past (before ++ e ∷ []) → IsLegalEntry U (past ++ before) e
legal-last U past [] e l = subst (λ (z : List Entry). IsLegalEntry U z e) (sym (append-nil past)) l.0
legal-last U past (x ∷ xs) e l = subst (λ (z : List Entry). IsLegalEntry U z e) (append_assoc past (x ∷ []) xs) (legal-last U (past ++ x ∷ []) xs e l.1)

-- ---- an event is stepped

not-stopped : (s : Option ℕ) (f : Option Fullness) → refusal s f ≡ None → IsSome s → ⊥
not-stopped (Some n) f room s = let k : ⊥ = cc in k
not-stopped None f room s = let k : false ≡ true = s in cc

-- an event that room was made for may come next
pub may-come : (old ready : CoreState) (e : Event) → IsSame old ready → refusal (stopped old.journal e) (full old.setup old.journal e) ≡ None → IsAsked old.journal e → IsPlaced ready.journal e
may-come old ready e same room asked =
    subst (λ (j : List Entry). IsPlaced j e) (sym same.journal)
    (⊎_elim (λ p. p) (λ s. absurd (not-stopped (stopped old.journal e) (full old.setup old.journal e) room s)) asked)

pub one-made : (old ready new : CoreState) (entry : Entry) (e : Event) (made : Made) → IsSame old ready → refusal (stopped old.journal e) (full old.setup old.journal e) ≡ None → Appends ready entry new → entry.event ≡ e
    → IsLawful ready.setup (ready.journal ++ entry ∷ []) → made.granted ≡ is_granted entry.verdict → StepsNow e old new (Ok made)
one-made old ready new entry e made same room after is lawful verdict = (
  after.setup ∙ same.setup,
  record {
    entry = entry;
    appended = after.journal ∙ ap (λ (j : List Entry). j ++ entry ∷ []) same.journal;
    event_is = is;
    legal = legal-last old.setup [] old.journal entry
        (subst (λ (j : List Entry). IsLegal old.setup (j ++ entry ∷ [])) same.journal (subst (λ (U : Setup). IsLegal U (ready.journal ++ entry ∷ [])) same.setup lawful.legal));
    verdict_is = verdict;
    room = room;
  },
)

pub none-made : (old ready : CoreState) (e : Event) (why : Refused) → IsSame old ready → RoomGives old ready e (Err why) → (why ≡ refused.NoMemory → always_fits e ≡ false) → StepsNow e old ready (Err why)
none-made old ready e refused.NoMemory same gives kept = (same.setup, (same.journal, gives, λ t. let never : true ≡ false = sym t ∙ kept refl in cc))
none-made old ready e (refused.Full count) same gives kept = (same.setup, (same.journal, gives))
none-made old ready e (refused.Stopped n) same gives kept = (same.setup, (same.journal, gives))

-- ---- a connection is closed

pub closed-one : (old new : CoreState) (c : ConnId) (entry : Entry) → IsAtDesk old → is_connected (trail_of old.journal) c ≡ true → Appends old entry new → entry.event ≡ Disconnect c → Closes c old new
closed-one old new c entry at on after is = (
  after.setup,
  subst (λ (b : Bool). ClosesBy b c old.journal new.journal) (sym (sym (connected-is-open old.setup old.journal c at.legal) ∙ on))
      (record { entry = entry; appended = after.journal; event_is = is }),
)

pub closed-none : (core : CoreState) (c : ConnId) → IsAtDesk core → is_connected (trail_of core.journal) c ≡ false → Closes c core core
closed-none core c at off = (refl, subst (λ (b : Bool). ClosesBy b c core.journal core.journal) (sym (sym (connected-is-open core.setup core.journal c at.legal) ∙ off)) refl)

-- ---- what stays

pub at-desk-same : (old new : CoreState) → IsSame old new → IsAtDesk old → IsAtDesk new
at-desk-same old new same at = record {
  set_up = subst IsSetup (sym same.setup) at.set_up;
  allowed = subst (λ (U : Setup). IsAllowed U.conf) (sym same.setup) at.allowed;
  legal = subst (IsLegal new.setup) (sym same.journal) (subst (λ (U : Setup). IsLegal U old.journal) (sym same.setup) at.legal);
}

pub at-desk-more : (old new : CoreState) (entry : Entry) → Appends old entry new → IsLawful old.setup (old.journal ++ entry ∷ []) → IsAtDesk old → IsAtDesk new
at-desk-more old new entry after lawful at = record {
  set_up = subst IsSetup (sym after.setup) at.set_up;
  allowed = subst (λ (U : Setup). IsAllowed U.conf) (sym after.setup) at.allowed;
  legal = subst (IsLegal new.setup) (sym after.journal) (subst (λ (U : Setup). IsLegal U (old.journal ++ entry ∷ [])) (sym after.setup) lawful.legal);
}

pub mailable : (core : CoreState) → IsAtDesk core → length core.journal ≤ entries_limit → mark_count core.journal ≤ marks_limit → IsMailable core.journal
mailable core at entries marks = record { setup = core.setup; set_up = at.set_up; allowed = at.allowed; legal = at.legal; entries = entries; marks = marks }

pub at-desk-first : (core : CoreState) (U : Setup) → core.setup ≡ U → core.journal ≡ [] → IsSetup U → IsAllowed U.conf → IsAtDesk core
at-desk-first core U setup journal set-up allowed = record {
  set_up = subst IsSetup (sym setup) set-up;
  allowed = subst (λ (V : Setup). IsAllowed V.conf) (sym setup) allowed;
  legal = subst (IsLegal core.setup) (sym journal) tt;
}
