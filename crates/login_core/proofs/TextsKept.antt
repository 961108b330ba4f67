-- The copies of texts stay those of their sessions.
use Rattle.std.proofs.Common.{ℕ, ◌≡◌, ◌==◌, Bool, true, false, Option, Some, None, List, refl, sym, ◌∙◌, subst}
use Rattle.login_base.specs.declared.ids.SessId.{SessId}
use Rattle.login_model.proofs.MadeWith.{texts_in}
use Rattle.login_model.specs.Trail.{Trail, value}
use Rattle.login_model.specs.Where.{is_open, is_session}
use Rattle.login_model.specs.declared.call.Creation.{Creation}
use Rattle.login_model.specs.declared.fact.Fact.{Fact}
use Rattle.login_model.specs.declared.fact.Fact.TheVariants as fact
use Rattle.login_model.specs.declared.fact.Key.TheVariants.{Sess}
use Rattle.login_model.specs.declared.session.SessionTexts.{SessionTexts}
use Rattle.login_laws.proofs.Comings.{SessionComes}
use Rattle.login_model.proofs.Keys.{same-session}
use Rattle.login_laws.proofs.Tame.{Later}
use Rattle.login_model.proofs.Values.{same-refl}
use Rattle.login_core.specs.declared.room.copies.Copies.{Copies}
use Rattle.login_core.specs.declared.room.texts.Texts.{Texts}
use Rattle.login_core.specs.Ready.{AreOf}
use Rattle.login_core.specs.inner.Spares.{AreClosing, AreGoing, HaveCopies, HaveTexts, copies_in}
use Rattle.login_model.specs.Creating.{session_texts}
use Rattle.login_core.specs.inner.Texts.{AreSome, HasTexts}

none-some : {A : Type 0} (x : A) → None ≡ Some x → ⊥
none-some x e = cc

some-one : (x y : SessionTexts) → Some x ≡ Some y → x ≡ y
some-one x y e = cc

has-along : (f g : Fact) (x : SessionTexts) → texts_in g ≡ texts_in f → HasTexts f x → HasTexts g x
has-along (fact.Session a) (fact.Session b) x e h = h ∙ sym (some-one b.texts a.texts e)
has-along (fact.Session a) _ x e h = absurd (none-some a.texts e)
has-along _ g x e h = absurd h

pub some-along : (f g : Fact) (c : Option Copies) → texts_in g ≡ texts_in f → AreSome f c → AreSome g c
some-along f g None e h = h
some-along f g (Some c) e h = record { mark = has-along f g c.mark e h.mark; fact = has-along f g c.fact e h.fact }

-- each session comes later in its life
abbrev pub AllLater : Trail → Trail → Type 0
AllLater t u = (s : SessId) → Later (value t (Sess s)) (value u (Sess s))

copies-later : (there : Trail → SessId → Bool) (spares : List (ℕ × Copies)) (t u : Trail) → AllLater t u → ((s : SessId) → there u s ≡ true → there t s ≡ true) → HaveCopies there spares t → HaveCopies there spares u
copies-later there spares t u p back h = record { each = λ s e. some-along (value t (Sess s)) (value u (Sess s)) (copies_in spares s) (p s).texts (h.each s (back s e)) }

pub closing-later : (spares : List (ℕ × Copies)) (t u : Trail) → AllLater t u → AreClosing spares t → AreClosing spares u
closing-later spares t u p h = copies-later is_open spares t u p (λ s e. (p s).opened e) h

pub going-later : (spares : List (ℕ × Copies)) (t u : Trail) → AllLater t u → AreGoing spares t → AreGoing spares u
going-later spares t u p h = copies-later is_session spares t u p (λ s e. (p s).here e) h

-- a change that makes no session leaves the copies fitting
pub texts-later : (x : Texts) (t u : Trail) → AllLater t u → HaveTexts x t → HaveTexts x u
texts-later x t u p h = record {
  closing = closing-later x.closing.items t u p h.closing;
  gone = going-later x.gone.items t u p h.gone;
}

-- ---- a session that is created

has-texts : (f : Fact) (x y : SessionTexts) → texts_in f ≡ Some y → x ≡ y → HasTexts f x
has-texts (fact.Session a) x y e h = h ∙ sym (some-one a.texts y e)
has-texts _ x y e h = absurd (none-some y e)

of-created : (x : Creation) (f : Fact) (c : Copies) → texts_in f ≡ Some (session_texts x) → AreOf x c → AreSome f (Some c)
of-created x f c e h = record { mark = has-texts f c.mark (session_texts x) e h.mark; fact = has-texts f c.fact (session_texts x) e h.fact }

-- there are the copies of the session, and those of the others are as before
pub record Keeps (s : SessId) (c : Copies) (old new : List (ℕ × Copies)) : Type 0 where
  pub own : copies_in new s ≡ Some c
  pub others : (r : SessId) → (r.0 == s.0) ≡ false → copies_in new r ≡ copies_in old r

flip : (a b : SessId) (e : (a.0 == b.0) ≡ false) → (b.0 == a.0) ≡ false
flip a b e = not-same (b.0 == a.0) refl
  where
    not-same : (q : Bool) → (b.0 == a.0) ≡ q → q ≡ false
    not-same false h = refl
    not-same true h =
        let P : SessId → Type 0 = λ z. (a.0 == z.0) ≡ false in
        let z : b ≡ a = same-session b a h in
        let n : (a.0 == a.0) ≡ false = subst P z e in
        absurd (let y : true ≡ false = sym (same-refl a.0) ∙ n in cc)

copies-at : (there : Trail → SessId → Bool) (x : Creation) (s : SessId) (c : Copies) (old new : List (ℕ × Copies)) (t u : Trail) → AreOf x c → Keeps s c old new → SessionComes s (session_texts x) t u
    → ((r : SessId) → Later (value t (Sess r)) (value u (Sess r)) → there u r ≡ true → there t r ≡ true) → HaveCopies there old t
    → (r : SessId) → there u r ≡ true → (b : Bool) → (r.0 == s.0) ≡ b → AreSome (value u (Sess r)) (copies_in new r)
copies-at there x s c old new t u o k p back h r e true b =
    let P : SessId → Type 0 = λ z. AreSome (value u (Sess z)) (copies_in new z) in
    let Q : Option Copies → Type 0 = AreSome (value u (Sess s)) in
    subst P (sym (same-session r s b)) (subst Q (sym k.own) (of-created x (value u (Sess s)) c p.own o))
copies-at there x s c old new t u o k p back h r e false b =
    let Q : Option Copies → Type 0 = AreSome (value u (Sess r)) in
    let l = p.others r (flip r s b) in
    subst Q (sym (k.others r b)) (some-along (value t (Sess r)) (value u (Sess r)) (copies_in old r) l.texts (h.each r (back r l e)))

copies-come : (there : Trail → SessId → Bool) (x : Creation) (s : SessId) (c : Copies) (old new : List (ℕ × Copies)) (t u : Trail) → AreOf x c → Keeps s c old new → SessionComes s (session_texts x) t u
    → ((r : SessId) → Later (value t (Sess r)) (value u (Sess r)) → there u r ≡ true → there t r ≡ true) → HaveCopies there old t → HaveCopies there new u
copies-come there x s c old new t u o k p back h = record { each = λ r e. copies-at there x s c old new t u o k p back h r e (r.0 == s.0) refl }

pub texts-comes : (x : Creation) (s : SessId) (a b : Copies) (old new : Texts) (t u : Trail) → SessionComes s (session_texts x) t u → AreOf x a → AreOf x b
    → Keeps s a old.closing.items new.closing.items → Keeps s b old.gone.items new.gone.items → HaveTexts old t → HaveTexts new u
texts-comes x s a b old new t u p oa ob ka kb h = record {
  closing = copies-come is_open x s a old.closing.items new.closing.items t u oa ka p (λ r l e. l.opened e) h.closing;
  gone = copies-come is_session x s b old.gone.items new.gone.items t u ob kb p (λ r l e. l.here e) h.gone;
}
