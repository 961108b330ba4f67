-- The ends of connections, one after the other, share the need before them.
use Rattle.std.proofs.Common.{◌≡◌, ◌+◌, ◌≤◌, true, List, [], ◌∷◌, ◌++◌, length, refl, ap, ◌∙◌, subst, arith}
use Rattle.login_base.specs.declared.ids.ConnId.{ConnId}
use Rattle.login_model.specs.Full.{mark_count}
use Rattle.login_model.specs.Legal.{IsLegalAfter, IsLegalEntry, IsPlaced, stepped, trail_of}
use Rattle.login_model.specs.Policy.{verdict}
use Rattle.login_model.specs.Trail.{Trail, after}
use Rattle.login_model.specs.Where.{is_connected}
use Rattle.login_model.specs.declared.event.Event.{Event}
use Rattle.login_model.specs.declared.event.Event.TheVariants.{Disconnect}
use Rattle.login_model.specs.declared.mark.Entry.{Entry}
use Rattle.login_model.specs.declared.rule.Verdict.TheVariants.{Granted}
use Rattle.login_model.specs.declared.setup.Setup.{Setup}
use Rattle.login_laws.specs.Need.{AreEnds, EndsShareNeed, IsDisconnect, need}
use Rattle.login_laws.specs.Sound.{IsSound}
use Rattle.login_laws.proofs.JournalLaws.{length-after}
use Rattle.login_laws.proofs.NeedLaws.{ends}
use Rattle.login_laws.proofs.SoundLaws.{after-more, sound-entry, sound-journal}

granted : (U : Setup) (t : Trail) (c : ConnId) → verdict U t (Disconnect c) ≡ Granted
unfolding verdict
granted U t c = refl

-- what one end leaves
pub record IsEnd (U : Setup) (before : List Entry) (e : Entry) (c : ConnId) : Type 0 where
  pub here : is_connected (trail_of before) c ≡ true
  pub made : after (trail_of before) e.marks ≡ stepped U Granted (Disconnect c) (trail_of before)
  pub next : trail_of (before ++ e ∷ []) ≡ stepped U Granted (Disconnect c) (trail_of before)

pub end-is : (U : Setup) (before : List Entry) (e : Entry) (c : ConnId) → e.event ≡ Disconnect c → IsLegalEntry U before e → IsEnd U before e c
end-is U before e c is l =
    let t = trail_of before in
    let P : Event → Type 0 = λ v. IsPlaced before v in
    let v = l.verdict_is ∙ ap (verdict U t) is ∙ granted U t c in
    let made : after t e.marks ≡ stepped U Granted (Disconnect c) t = l.marks_are ∙ (λ i. stepped U (v i) (is i) t) in
    record { here = (subst P is l.placed).0; made = made; next = after-more [] before e ∙ made }

-- the marks of one end are taken from the need
end-pays : (U : Setup) (before : List Entry) (e : Entry) (v : Event) → e.event ≡ v → IsDisconnect v → IsSound U (trail_of before) → IsLegalEntry U before e
    → length e.marks + need (trail_of (before ++ e ∷ [])) ≤ need (trail_of before)
end-pays U before e (Disconnect c) is d s l =
    let t = trail_of before in
    let i = end-is U before e c is l in
    let n = ap need i.next in
    let m = ap length i.made in
    let k = length-after t e.marks in
    let h = ends U t c s i.here in
    omega arith
end-pays U before e _ is d s l = absurd d

shared : (U : Setup) (before es : List Entry) → IsSound U (trail_of before) → IsLegalAfter U before es → AreEnds es → mark_count es ≤ need (trail_of before)
shared U before [] s l a = omega arith
shared U before (e ∷ es) s l a =
    let pays = end-pays U before e e.event refl a.0 s l.0 in
    let rest = shared U (before ++ e ∷ []) es (sound-entry U before e l.0 s) l.1 a.1 in
    omega arith

pub ends-share-need : EndsShareNeed
ends-share-need U before es l m a = shared U before es (sound-journal U before l) m a
