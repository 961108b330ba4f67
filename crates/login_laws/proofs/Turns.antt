-- A session is brought to its seat, or the next one is.
use Rattle.std.proofs.Common.{◌≡◌, ℕ, ◌==◌, ◌&&◌, nat_lt, Bool, true, false, cond, Option, Some, None, List, [], ◌∷◌, refl, ap, sym, ◌∙◌, subst, inl, inr}
use Rattle.std.specs.Option.{option_or}
use Rattle.std.specs.Str.{bytes_eq}
use Rattle.login_base.specs.declared.ids.SessId.{SessId}
use Rattle.login_model.specs.Start.{seat0}
use Rattle.login_model.specs.Trail.{Trail, value}
use Rattle.login_model.specs.Fresh.{is_open_fact}
use Rattle.login_model.specs.Names.{session_lt}
use Rattle.login_model.specs.Where.{active_on, current_vt, is_this_number, is_on_terminal, is_open, is_seat0, is_this_seat, seat_in_fact, seat_of_session, sessions_on}
use Rattle.login_model.specs.Policy.{is_vt}
use Rattle.login_model.specs.Procedure.{front, if_some}
use Rattle.login_model.specs.Switching.{request}
use Rattle.login_model.specs.Direct.{activate, activate_on}
use Rattle.login_model.specs.Turning.{first_above, first_of, last_below, last_of, next_around, open_on, open_terminals, previous_around, terminals, turn_to_next, turn_to_previous, vt_in}
use Rattle.login_model.specs.declared.fact.Key.TheVariants.{Sess}
use Rattle.login_model.specs.declared.fact.Fact.{Fact}
use Rattle.login_model.specs.declared.fact.Fact.TheVariants.{Number, Session}
use Rattle.login_model.proofs.Keys.{same-bytes}
use Rattle.login_model.proofs.InOrder.{IsIn, filter-gives, filter-in, insert-came}
use Rattle.login_model.proofs.Values.{bytes-refl, same-refl}
use Rattle.login_laws.proofs.Holds.{Exempt, Opened, OnSeat}
use Rattle.login_laws.proofs.Loops.{of-sessions_on}
use Rattle.login_laws.proofs.Giving.{Good}
use Rattle.login_laws.proofs.SeatMoves.{good-front}
use Rattle.login_laws.proofs.Requests.{good-request}

-- ---- the next one is one of the list

some-one : {A : Type 0} (x y : A) → Some x ≡ Some y → y ≡ x
some-one x y e = cc

above-step : {A : Type 0} (b : Bool) (x y : A) (o : Option A) (xs : List A) → cond b (Some x) o ≡ Some y → (o ≡ Some y → IsIn y xs) → IsIn y (x ∷ xs)
above-step true x y o xs e f = inl (some-one x y e)
above-step false x y o xs e f = inr (f e)

first_above-in : {A : Type 0} (lt : A → A → Bool) (place y : A) (xs : List A) → first_above lt place xs ≡ Some y → IsIn y xs
first_above-in lt place y [] e = cc
first_above-in lt place y (x ∷ xs) e = above-step (lt place x) x y (first_above lt place xs) xs e (first_above-in lt place y xs)

first_of-in : {A : Type 0} (y : A) (xs : List A) → first_of xs ≡ Some y → IsIn y xs
first_of-in y [] e = cc
first_of-in y (x ∷ xs) e = inl (some-one x y e)

or-in : {A : Type 0} (o p : Option A) (y : A) (xs : List A) → option_or o p ≡ Some y → (o ≡ Some y → IsIn y xs) → (p ≡ Some y → IsIn y xs) → IsIn y xs
or-in None p y xs e f g = g e
or-in (Some x) p y xs e f g = f e

here-in : {A : Type 0} (b : Bool) (x y : A) (xs : List A) → cond b (Some x) None ≡ Some y → IsIn y (x ∷ xs)
here-in true x y xs e = inl (some-one x y e)
here-in false x y xs e = cc

last_below-in : {A : Type 0} (lt : A → A → Bool) (place y : A) (xs : List A) → last_below lt place xs ≡ Some y → IsIn y xs
last_below-in lt place y [] e = cc
last_below-in {A} lt place y (x ∷ xs) e =
    or-in (last_below lt place xs) (cond (lt x place) (Some x) None) y (x ∷ xs) e (λ p. inr (last_below-in lt place y xs p)) (λ p. here-in (lt x place) x y xs p)

last_of-in : {A : Type 0} (y : A) (xs : List A) → last_of xs ≡ Some y → IsIn y xs
last_of-in y [] e = cc
last_of-in y (x ∷ xs) e = or-in (last_of xs) (Some x) y (x ∷ xs) e (λ p. inr (last_of-in y xs p)) (λ p. inl (some-one x y p))

-- a choice from a list
abbrev pub Chooses : {A : Type 0} → (Option A → List A → Option A) → Type 0
Chooses {A} f = (o : Option A) (xs : List A) (y : A) → f o xs ≡ Some y → IsIn y xs

next-chooses : {A : Type 0} (lt : A → A → Bool) → Chooses (next_around lt)
next-chooses lt None xs y e = first_of-in y xs e
next-chooses lt (Some place) xs y e = or-in (first_above lt place xs) (first_of xs) y xs e (first_above-in lt place y xs) (first_of-in y xs)

previous-chooses : {A : Type 0} (lt : A → A → Bool) → Chooses (previous_around lt)
previous-chooses lt None xs y e = last_of-in y xs e
previous-chooses lt (Some place) xs y e = or-in (last_below lt place xs) (last_of xs) y xs e (last_below-in lt place y xs) (last_of-in y xs)

-- ---- terminals of open sessions

-- an open session of seat0 is on its terminal
pub on-own : (x : Fact) → is_open_fact x ≡ true → is_seat0 (seat_in_fact x) ≡ true → is_on_terminal (Number (vt_in x)) x ≡ true
on-own (Session x) o e =
    ap (λ (b : Bool). b && is_seat0 x.seat && is_this_number x.vt (Number x.vt)) o ∙ ap (λ (b : Bool). b && (x.vt == x.vt)) e ∙ same-refl x.vt
on-own _ o e = cc

pub own-vt : (out : Exempt) (t : Trail) (s : SessId) → Good out t → Opened (value t) s → is_seat0 (seat_of_session t s) ≡ true → is_vt (vt_in (value t (Sess s))) ≡ true
own-vt out t s g o e = g.holds.terminals.1 s (vt_in (value t (Sess s))) (on-own (value t (Sess s)) o e)

-- who is on a seat
this-seat : (seat : List ℕ) (o : Option (List ℕ)) → is_this_seat seat o ≡ true → o ≡ Some seat
this-seat seat None e = cc
this-seat seat (Some name) e = ap Some (same-bytes name seat e)

open-on : (t : Trail) (seat : List ℕ) (s : SessId) → IsIn s (open_on t seat) → Opened (value t) s × OnSeat (value t) s seat
open-on t seat s i =
    (filter-gives (is_open t) s (sessions_on t seat) i, this-seat seat (seat_of_session t s) (of-sessions_on t seat s (filter-in (is_open t) s (sessions_on t seat) i)))

-- a terminal of the list is that of one of the sessions
terminal-of : (t : Trail) (ss : List SessId) (P : ℕ → Type 0) → ((s : SessId) → IsIn s ss → P (vt_in (value t (Sess s)))) → (v : ℕ) → IsIn v (terminals t ss) → P v
unfolding terminals
terminal-of t [] P f v i = absurd i
terminal-of t (s ∷ ss) P f v i =
    elim (insert-came nat_lt v (vt_in (value t (Sess s))) (terminals t ss) i) [
      | inl e ↦ subst P (sym e) (f s (inl refl))
      | inr j ↦ terminal-of t ss P (λ r k. f r (inr k)) v j
    ]

seat0-is : (o : Option (List ℕ)) → o ≡ Some seat0 → is_seat0 o ≡ true
seat0-is o e = ap is_seat0 e ∙ bytes-refl seat0

pub open-terminal : (out : Exempt) (t : Trail) (v : ℕ) → Good out t → IsIn v (open_terminals t) → is_vt v ≡ true
open-terminal out t v g i = terminal-of t (open_on t seat0) (λ n. is_vt n ≡ true)
    (λ s j. (let w = open-on t seat0 s j in own-vt out t s g w.0 (seat0-is (seat_of_session t s) w.1))) v i

-- ---- bringing a session to its seat

activate-by : (b : Bool) (out : Exempt) (seat : List ℕ) (s : SessId) (t : Trail) → bytes_eq seat seat0 ≡ b → Opened (value t) s → OnSeat (value t) s seat → Good out t
    → Good out (cond b (request (vt_in (value t (Sess s))) t) (front seat s t))
activate-by true out seat s t e o on g = good-request out (vt_in (value t (Sess s))) t (own-vt out t s g o (ap is_seat0 on ∙ e)) g
activate-by false out seat s t e o on g = good-front out seat s t e o on g

activate-on : (seat : Option (List ℕ)) (out : Exempt) (s : SessId) (t : Trail) → Opened (value t) s → seat_of_session t s ≡ seat → Good out t → Good out (activate_on seat s t)
activate-on None out s t o on g = g
activate-on (Some seat) out s t o on g = activate-by (bytes_eq seat seat0) out seat s t refl o on g

pub good-activate : (out : Exempt) (s : SessId) (t : Trail) → Opened (value t) s → Good out t → Good out (activate s t)
unfolding activate
good-activate out s t o g = activate-on (seat_of_session t s) out s t o refl g

-- ---- turning

request-some : (o : Option ℕ) (out : Exempt) (t : Trail) → ((v : ℕ) → o ≡ Some v → is_vt v ≡ true) → Good out t → Good out (if_some request o t)
request-some None out t f g = g
request-some (Some v) out t f g = good-request out v t (f v refl) g

front-some : (o : Option SessId) (out : Exempt) (seat : List ℕ) (t : Trail) → bytes_eq seat seat0 ≡ false → ((s : SessId) → o ≡ Some s → Opened (value t) s × OnSeat (value t) s seat) → Good out t
    → Good out (if_some (front seat) o t)
front-some None out seat t n f g = g
front-some (Some s) out seat t n f g = (let w = f s refl in good-front out seat s t n w.0 w.1 g)

turn-by : (b : Bool) (terminal : Option ℕ → List ℕ → Option ℕ) (session : Option SessId → List SessId → Option SessId) → Chooses terminal → Chooses session
    → (out : Exempt) (seat : List ℕ) (t : Trail) → bytes_eq seat seat0 ≡ b → Good out t
    → Good out (cond b (if_some request (terminal (Some (current_vt t)) (open_terminals t)) t) (if_some (front seat) (session (active_on t seat) (open_on t seat)) t))
turn-by true terminal session c d out seat t e g =
    request-some (terminal (Some (current_vt t)) (open_terminals t)) out t (λ v p. open-terminal out t v g (c (Some (current_vt t)) (open_terminals t) v p)) g
turn-by false terminal session c d out seat t e g =
    front-some (session (active_on t seat) (open_on t seat)) out seat t e (λ s p. open-on t seat s (d (active_on t seat) (open_on t seat) s p)) g

pub good-next : (out : Exempt) (seat : List ℕ) (t : Trail) → Good out t → Good out (turn_to_next seat t)
unfolding turn_to_next
good-next out seat t g = turn-by (bytes_eq seat seat0) (next_around nat_lt) (next_around session_lt) (next-chooses nat_lt) (next-chooses session_lt) out seat t refl g

pub good-previous : (out : Exempt) (seat : List ℕ) (t : Trail) → Good out t → Good out (turn_to_previous seat t)
unfolding turn_to_previous
good-previous out seat t g = turn-by (bytes_eq seat seat0) (previous_around nat_lt) (previous_around session_lt) (previous-chooses nat_lt) (previous-chooses session_lt) out seat t refl g
