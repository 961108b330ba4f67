-- A session that closes keeps its texts.
use Rattle.std.proofs.Common.{◌≡◌, ℕ, Bool, true, false, cond, Option, Some, None, List, refl, sym, ◌∙◌, subst}
use Rattle.std.specs.Str.{bytes_eq}
use Rattle.login_base.specs.declared.ids.SessId.{SessId}
use Rattle.login_model.specs.declared.fact.Key.TheVariants as key
use Rattle.login_model.specs.declared.fact.Fact.{Fact}
use Rattle.login_model.specs.declared.fact.Fact.TheVariants as fact
use Rattle.login_model.specs.declared.mark.Whom.TheVariants.{All}
use Rattle.login_model.specs.declared.mark.Notice.TheVariants.{Active}
use Rattle.login_model.specs.declared.session.Phase.{Phase}
use Rattle.login_model.specs.declared.session.Phase.TheVariants.{Closing}
use Rattle.login_model.specs.declared.session.SessionTexts.{SessionTexts}
use Rattle.login_model.specs.Start.{seat0}
use Rattle.login_model.specs.Trail.{Trail, value, put}
use Rattle.login_model.specs.Where.{is_open, is_active, seat_of_session}
use Rattle.login_model.specs.Procedure.{if_some, in_phase, leave_seat, release, set_phase, shut, vacate}
use Rattle.login_model.proofs.Values.{upd-same, value-put}
use Rattle.login_core.specs.declared.room.copies.Copies.{Copies}
use Rattle.login_core.specs.inner.Texts.{HasTexts, AreCopies}
use Rattle.switch_core.proofs.Frames.{put-other, keeps-say}
use Rattle.login_core.proofs.Released.{keeps-release}

-- a session has its texts still
abbrev Keep : SessId → Trail → Trail → Type 0
Keep s t u = (x : SessionTexts) → HasTexts (value t (key.Sess s)) x → HasTexts (value u (key.Sess s)) x

-- where its fact is the same
keep-fact : (s : SessId) (t u : Trail) → value u (key.Sess s) ≡ value t (key.Sess s) → Keep s t u
keep-fact s t u e x h = let P : Fact → Type 0 = λ f. HasTexts f x in subst P (sym e) h

phase-texts : (p : Phase) (f : Fact) (x : SessionTexts) → HasTexts f x → HasTexts (in_phase p f) x
phase-texts p (fact.Session y) x h = h
phase-texts p _ x h = absurd h

keep-phase : (s : SessId) (p : Phase) (t : Trail) → Keep s t (set_phase s p t)
keep-phase s p t x h =
    let f = in_phase p (value t (key.Sess s)) in
    let P : Fact → Type 0 = λ f. HasTexts f x in
    subst P (sym (value-put (key.Sess s) (key.Sess s) f t ∙ upd-same (key.Sess s) f (value t))) (phase-texts p (value t (key.Sess s)) x h)

keep-if : (s : SessId) (b : Bool) (t u v : Trail) → Keep s t u → Keep s t v → Keep s t (cond b u v)
keep-if s true t u v a c = a
keep-if s false t u v a c = c

keep-leave : (s : SessId) (seat : List ℕ) (t : Trail) → Keep s t (leave_seat s seat t)
keep-leave s seat t x h =
    let v = vacate seat t in
    keep-fact s v (leave_seat s seat t) ((keeps-say (λ k. false) All (Active seat (Some s) None) v).facts (key.Sess s) refl) x
    (keep-if s (bytes_eq seat seat0) t t (put (key.Act seat) fact.Absent t) (λ y g. g) (keep-fact s t (put (key.Act seat) fact.Absent t) (put-other (key.Act seat) fact.Absent t (key.Sess s) refl)) x h)

keep-left : (s : SessId) (o : Option (List ℕ)) (t : Trail) → Keep s t (if_some (leave_seat s) o t)
keep-left s None t x h = h
keep-left s (Some seat) t x h = keep-leave s seat t x h

keep-shut : (s : SessId) (t : Trail) → Keep s t (shut s t)
unfolding shut
keep-shut s t =
    let o = cond (is_active t s) (seat_of_session t s) None in
    let r = release s t in
    let p = set_phase s Closing r in
    keep-if s (is_open t s) t (if_some (leave_seat s) o p) t
    (λ x h. keep-left s o p x (keep-phase s Closing r x (keep-fact s t r ((keeps-release s t).facts (key.Sess s) refl) x h)))
    (λ x h. h)

-- so copies of its texts are copies after it closed
pub closed-copies : (s : SessId) (t u : Trail) (c : Copies) → u ≡ shut s t → AreCopies (value t (key.Sess s)) c → AreCopies (value u (key.Sess s)) c
closed-copies s t u c e h =
    let P : Trail → Type 0 = λ v. AreCopies (value v (key.Sess s)) c in
    subst P (sym e) (record { mark = keep-shut s t c.mark h.mark; fact = keep-shut s t c.fact h.fact })
