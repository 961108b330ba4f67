-- The places of the open sessions on a seat.
use Rattle.std.proofs.Common.{◌≡◌, ◌&&◌, ℕ, nat_lt, Bool, true, false, cond, List, [], ◌∷◌, filter, map, refl, ap, sym, ◌∙◌, subst, inl, inr}
use Rattle.std.specs.Str.{bytes_eq}
use Rattle.login_base.specs.declared.ids.SessId.{SessId}
use Rattle.login_model.specs.declared.fact.Key.TheVariants.{Sess}
use Rattle.login_model.specs.Names.{names, insert, session_lt, session_in}
use Rattle.login_model.specs.Start.{seat0}
use Rattle.login_model.specs.Trail.{Trail, value}
use Rattle.login_model.specs.Where.{is_session, is_open, is_on_seat, sessions, sessions_on}
use Rattle.login_model.specs.Turning.{open_on, open_terminals, terminals, vt_in}
use Rattle.login_model.proofs.Keys.{same-bytes}
use Rattle.login_model.proofs.InOrder.{IsIn, Ascending, in-insert, insert-keeps, insert-came, insert-ascending, filter-ascending, sessions-enumerated}
use Rattle.login_core.specs.inner.Places.{is_open_on, number_of, place_of, places}
use Rattle.login_model.proofs.NameLaws.{number_order}

-- they are the places of those that are on the seat and open
two-tests : (q : SessId → Bool) (b : Bool) (s : SessId) (xs ys : List SessId) → xs ≡ filter q ys → cond (b && q s) (s ∷ xs) xs ≡ filter q (cond b (s ∷ ys) ys)
two-tests q true s xs ys e = ap (λ (zs : List SessId). cond (q s) (s ∷ zs) zs) e
two-tests q false s xs ys e = e

both-tests : (p q : SessId → Bool) (ss : List SessId) → filter (λ s. p s && q s) ss ≡ filter q (filter p ss)
both-tests p q [] = refl
both-tests p q (s ∷ ss) = two-tests q (p s) s (filter (λ s. p s && q s) ss) (filter p ss) (both-tests p q ss)

pub open-is : (t : Trail) (seat : List ℕ) → filter (is_open_on t seat) (sessions t) ≡ open_on t seat
unfolding sessions_on
open-is t seat = both-tests (is_on_seat t seat) (is_open t) (sessions t)

-- the terminals of sessions
abbrev pub vt : Trail → SessId → ℕ
vt t s = vt_in (value t (Sess s))

pub terminals-in : (t : Trail) (ss : List SessId) (a : ℕ) → IsIn a (map (vt t) ss) → IsIn a (terminals t ss)
unfolding terminals
terminals-in t [] a i = i
terminals-in t (s ∷ ss) a (inl e) =
    (let P : ℕ → Type 0 = λ n. IsIn n (insert nat_lt (vt t s) (terminals t ss)) in subst P (sym e) (in-insert nat_lt number_order (vt t s) (terminals t ss)))
terminals-in t (s ∷ ss) a (inr i) = insert-keeps nat_lt a (vt t s) (terminals t ss) (terminals-in t ss a i)

pub terminals-came : (t : Trail) (ss : List SessId) (a : ℕ) → IsIn a (terminals t ss) → IsIn a (map (vt t) ss)
unfolding terminals
terminals-came t [] a i = i
terminals-came t (s ∷ ss) a i = elim (insert-came nat_lt a (vt t s) (terminals t ss) i) [ inl e ↦ inl e | inr j ↦ inr (terminals-came t ss a j) ]

pub terminals-ascending : (t : Trail) (ss : List SessId) → Ascending nat_lt (terminals t ss)
unfolding terminals
terminals-ascending t [] = tt
terminals-ascending t (s ∷ ss) = insert-ascending nat_lt number_order (vt t s) (terminals t ss) (terminals-ascending t ss)

-- the numbers of sessions
number-in : (ss : List SessId) (x : SessId) → ((y : SessId) → IsIn y ss → session_lt x y ≡ true) → (n : ℕ) → IsIn n (map number_of ss) → nat_lt x.0 n ≡ true
number-in [] x f n i = absurd i
number-in (s ∷ ss) x f n (inl e) = ap (nat_lt x.0) e ∙ f s (inl refl)
number-in (s ∷ ss) x f n (inr i) = number-in ss x (λ y j. f y (inr j)) n i

numbers-ascending : (ss : List SessId) → Ascending session_lt ss → Ascending nat_lt (map number_of ss)
numbers-ascending [] a = tt
numbers-ascending (s ∷ ss) a = (number-in ss s a.0, numbers-ascending ss a.1)

open-ascending : (t : Trail) (seat : List ℕ) → Ascending session_lt (open_on t seat)
unfolding sessions_on sessions
open-ascending t seat =
    filter-ascending session_lt (is_open t) (sessions_on t seat)
    (filter-ascending session_lt (is_on_seat t seat) (sessions t) (filter-ascending session_lt (is_session t) (names session_lt session_in t) (sessions-enumerated t).ascending))

-- the places on a seat are ascending, and those of its open sessions
pub record ArePlaces (t : Trail) (seat xs : List ℕ) (place : SessId → ℕ) : Type 0 where
  pub ascending : Ascending nat_lt xs
  pub has : (a : ℕ) → IsIn a (map place (open_on t seat)) → IsIn a xs
  pub came : (a : ℕ) → IsIn a xs → IsIn a (map place (open_on t seat))

are-terminals : (t : Trail) (seat : List ℕ) → seat ≡ seat0 → ArePlaces t seat (open_terminals t) (vt t)
are-terminals t seat e =
    let P : List ℕ → Type 0 = λ z. ArePlaces t z (open_terminals t) (vt t) in
    subst P (sym e) (record { ascending = terminals-ascending t (open_on t seat0); has = terminals-in t (open_on t seat0); came = terminals-came t (open_on t seat0) })

are-numbers : (t : Trail) (seat : List ℕ) → ArePlaces t seat (map number_of (open_on t seat)) number_of
are-numbers t seat = record { ascending = numbers-ascending (open_on t seat) (open-ascending t seat); has = λ a i. i; came = λ a i. i }

places-by : (t : Trail) (seat : List ℕ) (b : Bool) → bytes_eq seat seat0 ≡ b → ArePlaces t seat (cond b (open_terminals t) (map number_of (open_on t seat))) (λ s. cond b (vt t s) (number_of s))
places-by t seat true e = are-terminals t seat (same-bytes seat seat0 e)
places-by t seat false e = are-numbers t seat

pub are-places : (t : Trail) (seat : List ℕ) → ArePlaces t seat (places t seat) (place_of t seat)
are-places t seat = places-by t seat (bytes_eq seat seat0) refl
