-- A seat turns to the place that is found.
use Rattle.std.proofs.Common.{◌≡◌, ℕ, nat_lt, Bool, true, false, cond, Option, Some, None, List, [], ◌∷◌, map, refl, ap, ◌∙◌}
use Rattle.std.specs.Option.{option_or, option_map}
use Rattle.std.specs.Str.{bytes_eq}
use Rattle.login_base.specs.declared.ids.SessId.{SessId}
use Rattle.login_model.specs.Names.{session_lt}
use Rattle.login_model.specs.Start.{seat0}
use Rattle.login_model.specs.Trail.{Trail}
use Rattle.login_model.specs.Where.{current_vt, active_on}
use Rattle.login_model.specs.Procedure.{if_some, front}
use Rattle.login_model.specs.Switching.{request}
use Rattle.login_model.specs.Turning.{first_of, first_above, last_of, last_below, next_around, previous_around, open_on, open_terminals, turn_to_next, turn_to_previous}
use Rattle.login_core.specs.declared.turning.Way.{Way}
use Rattle.login_core.specs.declared.turning.Way.TheVariants.{Next, Previous}
use Rattle.login_core.specs.inner.Places.{around, number_of, places, current_place, turn_to_place, turn_to}

-- the numbers of sessions are in the order of the sessions
or-number : (o p : Option SessId) → option_or (option_map number_of o) (option_map number_of p) ≡ option_map number_of (option_or o p)
or-number None p = refl
or-number (Some s) p = refl

if-number : (b : Bool) (s : SessId) (o : Option SessId) → cond b (Some (number_of s)) (option_map number_of o) ≡ option_map number_of (cond b (Some s) o)
if-number true s o = refl
if-number false s o = refl

first-number : (ss : List SessId) → first_of (map number_of ss) ≡ option_map number_of (first_of ss)
first-number [] = refl
first-number (s ∷ ss) = refl

above-number : (p : SessId) (ss : List SessId) → first_above nat_lt (number_of p) (map number_of ss) ≡ option_map number_of (first_above session_lt p ss)
above-number p [] = refl
above-number p (s ∷ ss) = ap (λ (o : Option ℕ). cond (session_lt p s) (Some (number_of s)) o) (above-number p ss) ∙ if-number (session_lt p s) s (first_above session_lt p ss)

last-number : (ss : List SessId) → last_of (map number_of ss) ≡ option_map number_of (last_of ss)
last-number [] = refl
last-number (s ∷ ss) = ap (λ (o : Option ℕ). option_or o (Some (number_of s))) (last-number ss) ∙ or-number (last_of ss) (Some s)

below-number : (p : SessId) (ss : List SessId) → last_below nat_lt (number_of p) (map number_of ss) ≡ option_map number_of (last_below session_lt p ss)
below-number p [] = refl
below-number p (s ∷ ss) =
    ap (λ (o : Option ℕ). option_or o (cond (session_lt s p) (Some (number_of s)) None)) (below-number p ss)
    ∙ ap (λ (o : Option ℕ). option_or (option_map number_of (last_below session_lt p ss)) o) (if-number (session_lt s p) s None)
    ∙ or-number (last_below session_lt p ss) (cond (session_lt s p) (Some s) None)

next-number : (o : Option SessId) (ss : List SessId) → next_around nat_lt (option_map number_of o) (map number_of ss) ≡ option_map number_of (next_around session_lt o ss)
next-number None ss = first-number ss
next-number (Some p) ss =
    ap (λ (o : Option ℕ). option_or o (first_of (map number_of ss))) (above-number p ss)
    ∙ ap (option_or (option_map number_of (first_above session_lt p ss))) (first-number ss)
    ∙ or-number (first_above session_lt p ss) (first_of ss)

previous-number : (o : Option SessId) (ss : List SessId) → previous_around nat_lt (option_map number_of o) (map number_of ss) ≡ option_map number_of (previous_around session_lt o ss)
previous-number None ss = last-number ss
previous-number (Some p) ss =
    ap (λ (o : Option ℕ). option_or o (last_of (map number_of ss))) (below-number p ss)
    ∙ ap (option_or (option_map number_of (last_below session_lt p ss))) (last-number ss)
    ∙ or-number (last_below session_lt p ss) (last_of ss)

-- to the session of a number, or to the terminal of a number
abbrev go : Bool → List ℕ → ℕ → Trail → Trail
go b seat n t = cond b (request n t) (front seat (record { 0 = n }) t)

fronted : (seat : List ℕ) (o : Option SessId) (t : Trail) → if_some (go false seat) (option_map number_of o) t ≡ if_some (front seat) o t
fronted seat None t = refl
fronted seat (Some s) t = refl

requested : (seat : List ℕ) (o : Option ℕ) (t : Trail) → if_some (go true seat) o t ≡ if_some request o t
requested seat None t = refl
requested seat (Some n) t = refl

next-by : (b : Bool) (seat : List ℕ) (t : Trail)
    → if_some (go b seat) (next_around nat_lt (cond b (Some (current_vt t)) (option_map number_of (active_on t seat))) (cond b (open_terminals t) (map number_of (open_on t seat)))) t
    ≡ cond b (if_some request (next_around nat_lt (Some (current_vt t)) (open_terminals t)) t) (if_some (front seat) (next_around session_lt (active_on t seat) (open_on t seat)) t)
next-by true seat t = requested seat (next_around nat_lt (Some (current_vt t)) (open_terminals t)) t
next-by false seat t =
    ap (λ (o : Option ℕ). if_some (go false seat) o t) (next-number (active_on t seat) (open_on t seat)) ∙ fronted seat (next_around session_lt (active_on t seat) (open_on t seat)) t

previous-by : (b : Bool) (seat : List ℕ) (t : Trail)
    → if_some (go b seat) (previous_around nat_lt (cond b (Some (current_vt t)) (option_map number_of (active_on t seat))) (cond b (open_terminals t) (map number_of (open_on t seat)))) t
    ≡ cond b (if_some request (previous_around nat_lt (Some (current_vt t)) (open_terminals t)) t) (if_some (front seat) (previous_around session_lt (active_on t seat) (open_on t seat)) t)
previous-by true seat t = requested seat (previous_around nat_lt (Some (current_vt t)) (open_terminals t)) t
previous-by false seat t =
    ap (λ (o : Option ℕ). if_some (go false seat) o t) (previous-number (active_on t seat) (open_on t seat)) ∙ fronted seat (previous_around session_lt (active_on t seat) (open_on t seat)) t

pub turned : (w : Way) (seat : List ℕ) (t : Trail) → if_some (turn_to_place seat) (around w (current_place t seat) (places t seat)) t ≡ turn_to w seat t
unfolding turn_to_next turn_to_previous
turned Next seat t = next-by (bytes_eq seat seat0) seat t
turned Previous seat t = previous-by (bytes_eq seat seat0) seat t
