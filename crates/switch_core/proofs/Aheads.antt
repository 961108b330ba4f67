-- Facts with one more mark behind them.
use Rattle.std.proofs.Common.{◌≡◌, ◌+◌, ◌<◌, ◌≤◌, ℕ, List, [], ◌∷◌, ◌++◌, false, length, take, drop, ap, sym, subst, ◌∙◌, add-one, arith}
use Rattle.std.specs.List.{AllByRecursion}
use Rattle.login_base.specs.Room.{Room}
use Rattle.login_laws.proofs.JournalLaws.{length-after}
use Rattle.login_model.specs.Same.{same_fact}
use Rattle.login_model.specs.Trail.{Trail, after, put, value}
use Rattle.login_model.specs.declared.fact.Fact.{Fact}
use Rattle.login_model.specs.declared.fact.Key.{Key}
use Rattle.login_model.specs.declared.mark.Mark.{Mark}
use Rattle.login_model.specs.declared.mark.Mark.TheVariants.{Set, Say}
use Rattle.login_model.specs.declared.mark.Notice.{Notice}
use Rattle.login_model.specs.declared.mark.Whom.{Whom}
use Rattle.switch_core.specs.inner.Ahead.{AheadState, Fits, IsAhead, beginning, tell, with_trail}
use Rattle.login_table.specs.Appended.{Appends, SetsPlain}
use Rattle.login_table.proofs.Appending.{after-more, plain-more, put-made}
use Rattle.switch_core.proofs.Behind.{drop-all, drop-more, length-drop, length-more, take-all, take-drop, take-more}

-- what these parts are seen as
abbrev pub seen : Trail → List Mark → ℕ → ℕ → AheadState
seen t ms from limit = record { before = t; kept = take from ms; trail = after t (drop from ms); reach = length t + limit }

-- with one mark more
pub seen-more : (t : Trail) (ms ns : List Mark) (from limit : ℕ) (x : Mark) (a : AheadState) → seen t ms from limit ≡ a → from ≤ length ms → ns ≡ ms ++ x ∷ [] → seen t ns from limit ≡ with_trail a (x ∷ a.trail)
seen-more t ms ns from limit x a v l e =
    ap (λ (xs : List Mark). seen t xs from limit) e
    ∙ ap (λ (ks : List Mark). let r : AheadState = record { before = t; kept = ks; trail = after t (drop from (ms ++ x ∷ [])); reach = length t + limit } in r) (take-more from ms x l)
    ∙ ap (with_trail (seen t ms from limit)) (ap (after t) (drop-more from ms x l) ∙ after-more t (drop from ms) x)
    ∙ ap (λ (b : AheadState). with_trail b (x ∷ b.trail)) v

-- a setting that is made wants one mark, and so does a notice
pub one-more : (k : Key) (x : Fact) (a : AheadState) → same_fact (value a.trail k) x ≡ false → Fits (put k x) a → length a.trail + 1 ≤ a.reach
one-more k x a other room = let e = ap length (put-made k x a.trail other) in let f : length (Set k x ∷ a.trail) ≡ length a.trail + 1 = sym (add-one (length a.trail)) in omega arith

pub said-room : (w : Whom) (n : Notice) (a : AheadState) → Fits (tell w n) a → length a.trail + 1 ≤ a.reach
said-room w n a room = let f : length (Say w n ∷ a.trail) ≡ length a.trail + 1 = sym (add-one (length a.trail)) in omega arith

-- there is room for one mark more
pub room-inside : (t : Trail) (out : Room Mark) (from limit : ℕ) (a : AheadState) → IsAhead out from limit → seen t out.items from limit ≡ a → length a.trail + 1 ≤ a.reach → 0 < out.spare
room-inside t out from limit a i v h =
    let n = ap (λ (b : AheadState). length b.trail) v in
    let r = ap (λ (b : AheadState). b.reach) v in
    let l = length-after t (drop from out.items) in
    let d = length-drop from out.items i.within in
    let f = i.fits in
    omega arith

pub ahead-more : (out new : Room Mark) (from limit : ℕ) (x : Mark) → IsAhead out from limit → new.items ≡ out.items ++ x ∷ [] → out.spare ≤ new.spare + 1 → SetsPlain x → IsAhead new from limit
ahead-more out new from limit x i e s p =
    let n = ap length e ∙ length-more out.items x in
    let w = i.within in
    let f = i.fits in
    record {
      within = omega arith;
      fits = omega arith;
      plain = subst (AllByRecursion SetsPlain) (sym (ap (drop from) e ∙ drop-more from out.items x i.within)) (plain-more (drop from out.items) x i.plain p);
    }

-- the list has what was appended at its end
pub appended : (t : Trail) (ms : List Mark) (from limit : ℕ) (a : AheadState) → AllByRecursion SetsPlain (drop from ms) → seen t ms from limit ≡ a → Appends (λ u. a.trail) a.before a.kept ms
appended t ms from limit a p v = record {
  plain = p;
  marks = drop from ms;
  items = take-drop from ms ∙ ap (λ (b : AheadState). b.kept ++ drop from ms) v;
  same = ap (λ (u : Trail). after u (drop from ms)) (sym (ap (λ (b : AheadState). b.before) v)) ∙ ap (λ (b : AheadState). b.trail) v;
}

-- there is room for what else there may be
pub room-left : (t : Trail) (out : Room Mark) (from limit : ℕ) (a : AheadState) → IsAhead out from limit → seen t out.items from limit ≡ a → a.reach ≤ length a.trail + out.spare
room-left t out from limit a i v =
    let n = ap (λ (b : AheadState). length b.trail) v in
    let r = ap (λ (b : AheadState). b.reach) v in
    let l = length-after t (drop from out.items) in
    let d = length-drop from out.items i.within in
    let f = i.fits in
    omega arith

-- at the beginning
pub begun-ahead : (room start : Room Mark) (from : ℕ) → from ≡ length room.items → start ≡ room → IsAhead room from start.spare
begun-ahead room start from e q = record {
  within = omega arith;
  fits = (let s = ap (λ (r : Room Mark). r.spare) q in omega arith);
  plain = subst (AllByRecursion SetsPlain) (sym (ap (λ (n : ℕ). drop n room.items) e ∙ drop-all room.items)) tt;
}

pub begun : (t : Trail) (room start : Room Mark) (from : ℕ) → from ≡ length room.items → start ≡ room → seen t room.items from start.spare ≡ beginning t room
begun t room start from e q =
    ap (λ (r : Room Mark). seen t room.items from r.spare) q
    ∙ ap (λ (n : ℕ). seen t room.items n room.spare) e
    ∙ ap (λ (ks : List Mark). let r : AheadState = record { before = t; kept = ks; trail = after t (drop (length room.items) room.items); reach = length t + room.spare } in r) (take-all room.items)
    ∙ ap (λ (ds : List Mark). let r : AheadState = record { before = t; kept = room.items; trail = after t ds; reach = length t + room.spare } in r) (drop-all room.items)
