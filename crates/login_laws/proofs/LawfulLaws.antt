-- Every legal journal is lawful.
use Rattle.std.proofs.Common.{◌≡◌, List, [], ◌∷◌, ◌++◌, sym, ◌∙◌, subst}
use Rattle.login_model.specs.Direct.{direct}
use Rattle.login_model.specs.Legal.{IsLegal, IsLegalAfter, IsLegalEntry, IsPlaced, trail_of}
use Rattle.login_model.specs.Policy.{verdict}
use Rattle.login_model.specs.declared.event.Event.{Event}
use Rattle.login_model.specs.declared.mark.Entry.{Entry}
use Rattle.login_model.specs.declared.rule.Verdict.TheVariants.{Granted}
use Rattle.login_model.specs.declared.setup.Setup.{Setup}
use Rattle.login_laws.specs.Guarded.{IsGuarded}
use Rattle.login_laws.specs.Lawful.{LegalIsLawful}
use Rattle.login_laws.specs.Sound.{Awaits, IsSoundBetween}
use Rattle.login_laws.proofs.Accords.{good-sound, sound-good}
use Rattle.login_laws.proofs.GuardedLaws.{guarded}
use Rattle.login_laws.proofs.PoweredLaws.{append-none, append-one, powered}
use Rattle.login_laws.proofs.SoundLaws.{good-direct, sound-journal}
use Rattle.login_laws.proofs.SwitchedLaws.{switched}
use Rattle.login_laws.proofs.WorkingLaws.{works}

-- a front of what is legal is legal
front-after : (U : Setup) (past before later : List Entry) → IsLegalAfter U past (before ++ later) → IsLegalAfter U past before
front-after U past [] later l = tt
front-after U past (x ∷ xs) later l = (l.0, front-after U (past ++ x ∷ []) xs later l.1)

pub front : (U : Setup) (journal before later : List Entry) → journal ≡ before ++ later → IsLegal U journal → IsLegal U before
front U journal before later e l = (let P : List Entry → Type 0 = IsLegal U in front-after U [] before later (subst P e l))

-- and so is each entry, behind those before it
entry-after : (U : Setup) (past before : List Entry) (e : Entry) (later : List Entry) → IsLegalAfter U past (before ++ e ∷ later) → IsLegalEntry U (past ++ before) e
entry-after U past [] e later l = (let P : List Entry → Type 0 = λ xs. IsLegalEntry U xs e in subst P (sym (append-none past)) l.0)
entry-after U past (x ∷ xs) e later l = (let P : List Entry → Type 0 = λ ys. IsLegalEntry U ys e in subst P (append-one past x xs) (entry-after U (past ++ x ∷ []) xs e later l.1))

entry : (U : Setup) (journal before : List Entry) (e : Entry) (later : List Entry) → journal ≡ before ++ e ∷ later → IsLegal U journal → IsLegalEntry U before e
entry U journal before e later p l = (let P : List Entry → Type 0 = IsLegal U in entry-after U [] before e later (subst P p l))

-- what a granted event makes by itself, in place behind a legal journal, is sound between
granted-between : (U : Setup) (before : List Entry) (e : Event) → IsLegal U before → IsPlaced before e → verdict U (trail_of before) e ≡ Granted → IsSoundBetween U (direct U e (trail_of before))
granted-between U before e l p v =
    let t = trail_of before in
    sound-good (direct U e t) (good-direct U before e p v (good-sound t (sound-journal U before l).between))

between : (U : Setup) (before : List Entry) (e : Entry) → IsLegal U before → IsLegalEntry U before e → e.verdict ≡ Granted → IsSoundBetween U (direct U e.event (trail_of before))
between U before e l m v = granted-between U before e.event l m.placed (sym m.verdict_is ∙ v)

-- so each pause that it leaves awaited is that of a live handle of seat0's active session
pub granted-awaits : (U : Setup) (before : List Entry) (e : Event) → IsLegal U before → IsPlaced before e → verdict U (trail_of before) e ≡ Granted → Awaits (direct U e (trail_of before))
granted-awaits U before e l p v = (granted-between U before e l p v).awaits

guarded-before : (U : Setup) (journal before later : List Entry) → journal ≡ before ++ later → IsLegal U journal → IsGuarded (trail_of before)
guarded-before U journal before later p l = guarded (trail_of before) (good-sound (trail_of before) (sound-journal U before (front U journal before later p l)).between)

pub legal-is-lawful : LegalIsLawful
legal-is-lawful U journal l = record {
  legal = l;
  sound = λ before later p. sound-journal U before (front U journal before later p l);
  between = λ before e later p. between U before e (front U journal before (e ∷ later) p l) (entry U journal before e later p l);
  guarded = λ before later p. guarded-before U journal before later p l;
  works = λ before later p. works U (trail_of before) (guarded-before U journal before later p l);
  switching = λ before e later p. switched U before e (front U journal before (e ∷ later) p l) (entry U journal before e later p l);
  powered = λ before e later p. powered U before e (front U journal before (e ∷ later) p l) (entry U journal before e later p l);
}
