-- Laws of the links that a listener tells.
use Rattle.std.proofs.Common.{◌≡◌, ◌≢◌, ℕ, ◌+◌, ◌-◌, ◌<◌, List, [], ◌∷◌, ◌++◌, Option, Some, None, zero, suc, length, refl, ap, subst, ◌∙◌, arith, IfSome}
use Rattle.std.specs.Option.{option_map}
use Rattle.std.specs.List.{slice_get}
use Rattle.login_base.specs.declared.ids.Uid.{Uid}
use Rattle.login_edge.specs.Register.{Arrived, Register, accepted, given_back, back_behind, IsOut}
use Rattle.login_edge.specs.declared.listener.Accepted.{Accepted}
use Rattle.login_edge.specs.declared.listener.Accepted.TheVariants.{Came, Quiet, Closed, Failed}

slice_get-snoc : {X : Type 0} (xs : List X) (x : X) → slice_get (xs ++ x ∷ []) (length xs) ≡ Some x
slice_get-snoc [] x = refl
slice_get-snoc (y ∷ ys) x = slice_get-snoc ys x

slice_get-front : {X : Type 0} (xs ys : List X) (k : ℕ) (x : X) → slice_get xs k ≡ Some x → slice_get (xs ++ ys) k ≡ Some x
slice_get-front [] ys k x e = absurd (grind (arith, e))
slice_get-front (y ∷ xs) ys zero x e = e
slice_get-front (y ∷ xs) ys (suc k) x e = slice_get-front xs ys k x e

slice_get-back_behind : {L : Type 0} (n k : ℕ) (link : L) (xs : List (Arrived L)) → n ≢ k → slice_get (back_behind n link xs) k ≡ slice_get xs k
slice_get-back_behind n k link [] apart = refl
slice_get-back_behind zero zero link (a ∷ xs) apart = absurd (apart refl)
slice_get-back_behind zero (suc k) link (a ∷ xs) apart = refl
slice_get-back_behind (suc n) zero link (a ∷ xs) apart = refl
slice_get-back_behind (suc n) (suc k) link (a ∷ xs) apart = slice_get-back_behind n k link xs (λ e. apart (ap suc e))

-- a link that comes is out
pub came-is-out : {L : Type 0} (told : Option (Register L)) (before : ℕ) (link : L) (uid : Uid) → IfSome told (λ r. length r.links ≡ before)
    → IfSome (option_map (accepted (Came link uid)) told) (λ r. IsOut (before + 1) r.links)
came-is-out None before link uid e = tt
came-is-out {L = L} (Some r) before link uid e =
    let a : Arrived L = record { link = link; uid = uid.0; back = None } in
    record {
      arrived = a;
      first = omega arith;
      came = subst (λ (n : ℕ). slice_get (r.links ++ a ∷ []) n ≡ Some a) (omega (arith, e)) (slice_get-snoc r.links a);
      out = refl;
    }

out-more : {L : Type 0} (c : ℕ) (xs ys : List (Arrived L)) → IsOut c xs → IsOut c (xs ++ ys)
out-more c xs ys o = record { arrived = o.arrived; first = o.first; came = slice_get-front xs ys (c - 1) o.arrived o.came; out = o.out }

-- what is out stays out whatever the listener answers
pub stays-out : {L : Type 0} (told : Option (Register L)) (c : ℕ) (answer : Accepted L) → IfSome told (λ r. IsOut c r.links)
    → IfSome (option_map (accepted answer) told) (λ r. IsOut c r.links)
stays-out None c answer o = tt
stays-out (Some r) c (Came link uid) o = out-more c r.links _ o
stays-out (Some r) c Quiet o = o
stays-out (Some r) c Closed o = o
stays-out (Some r) c Failed o = o

-- what is out stays out when another link is given back
pub stays-out-of : {L : Type 0} (told : Option (Register L)) (c d : ℕ) (link : L) → 0 < d → d ≢ c → IfSome told (λ r. IsOut c r.links)
    → IfSome (option_map (given_back d link) told) (λ r. IsOut c r.links)
stays-out-of None c d link first apart o = tt
stays-out-of (Some r) c d link first apart o =
    record {
      arrived = o.arrived;
      first = o.first;
      came = slice_get-back_behind (d - 1) (c - 1) link r.links (λ e. apart (omega (arith, e, first, o.first))) ∙ o.came;
      out = o.out;
    }
