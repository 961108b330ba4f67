-- Every front of a legal journal is named, and no more are there than may be.
use Rattle.std.proofs.Common.{◌≡◌, ◌≤◌, List, [], ◌∷◌, ◌++◌, length, refl, sym, ◌∙◌, subst, arith}
use Rattle.login_model.specs.Legal.{IsLegalAfter, IsLegalEntry, after_all, stepped, trail_of}
use Rattle.login_model.specs.Limits.{devices_limit}
use Rattle.login_model.specs.Names.{names}
use Rattle.login_model.specs.Trail.{Trail}
use Rattle.login_model.specs.Where.{devices, locks, sessions}
use Rattle.login_model.specs.declared.mark.Entry.{Entry}
use Rattle.login_model.specs.declared.setup.Setup.{Setup}
use Rattle.login_laws.specs.Named.{AreNamed, LegalIsNamed}
use Rattle.login_laws.proofs.LawfulLaws.{front}
use Rattle.login_laws.proofs.NamedCounts.{seats-few, users-few}
use Rattle.login_laws.proofs.NamedLimits.{devices-from, devices-step, locks-from, locks-step}
use Rattle.login_laws.proofs.NamedMarks.{entry-named}
use Rattle.login_laws.proofs.NamedSessions.{sessions-step}
use Rattle.login_laws.proofs.SoundLaws.{after-more, sound-journal}

-- what each entry keeps
record Kept (U : Setup) (t : Trail) : Type 0 where
  named : AreNamed U t
  devices : length (devices t) ≤ devices_limit
  sessions : length (sessions t) ≤ U.conf.sessions_max
  locks : length (locks t) ≤ U.conf.inhibitors_max

kept-entry : (U : Setup) (before : List Entry) (e : Entry) → IsLegalEntry U before e → Kept U (trail_of before) → Kept U (trail_of (before ++ e ∷ []))
kept-entry U before e l k =
    let t = trail_of before in
    let u = stepped U e.verdict e.event t in
    let same : trail_of (before ++ e ∷ []) ≡ u = after-more [] before e ∙ l.marks_are in
    let D : Trail → Type 0 = λ z. length (devices z) ≤ devices_limit in
    let S : Trail → Type 0 = λ z. length (sessions z) ≤ U.conf.sessions_max in
    let L : Trail → Type 0 = λ z. length (locks z) ≤ U.conf.inhibitors_max in
    record {
      named = entry-named U before e l k.named;
      devices = subst D (sym same) (devices-step U e.event e.verdict t u l.verdict_is refl (devices-from U before e.event e.verdict l.verdict_is l.placed k.named) k.devices);
      sessions = subst S (sym same) (sessions-step U e.event e.verdict t l.verdict_is k.sessions);
      locks = subst L (sym same) (locks-step U e.event e.verdict t u l.verdict_is refl (locks-from U before e.event e.verdict l.verdict_is l.placed k.named) k.locks);
    }

kept-after : (U : Setup) (before es : List Entry) → IsLegalAfter U before es → Kept U (trail_of before) → Kept U (after_all (trail_of before) es)
kept-after U before [] l k = k
kept-after U before (e ∷ es) l k =
    let P : Trail → Type 0 = λ t. Kept U (after_all t es) in
    subst P (after-more [] before e) (kept-after U (before ++ e ∷ []) es l.1 (kept-entry U before e l.0 k))

kept-start : (U : Setup) → Kept U []
unfolding devices sessions locks names
kept-start U = record { named = tt; devices = omega arith; sessions = omega arith; locks = omega arith }

pub legal-is-named : LegalIsNamed
legal-is-named U before later u l =
    let p = front U (before ++ later) before later refl l in
    let t = trail_of before in
    let k = kept-after U [] before p (kept-start U) in
    let d = k.devices in
    let s = seats-few t (sound-journal U before p).between.seats in
    let w = users-few U t k.named in
    let m = u.most in
    record {
      marks = k.named;
      few = record { sessions = k.sessions; locks = k.locks; seats = omega arith; users = omega arith };
    }
