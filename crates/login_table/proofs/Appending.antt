-- Marks at the end of a list, and those of procedures.
use Rattle.std.proofs.Common.{◌≡◌, ◌+◌, ◌<◌, ◌≤◌, ℕ, Bool, true, false, cond, List, [], ◌∷◌, ◌++◌, append_assoc, append-nil, add-one, length, refl, ap, sym, ◌∙◌, arith}
use Rattle.std.specs.List.{AllByRecursion}
use Rattle.login_model.specs.Same.{same_fact}
use Rattle.login_model.specs.Trail.{Trail, after, put, value}
use Rattle.login_model.specs.declared.fact.Fact.{Fact}
use Rattle.login_model.specs.declared.fact.Key.{Key}
use Rattle.login_model.specs.declared.mark.Mark.{Mark}
use Rattle.login_model.specs.declared.mark.Mark.TheVariants.{Say, Set}
use Rattle.login_model.specs.declared.mark.Notice.{Notice}
use Rattle.login_model.specs.declared.mark.Whom.{Whom}
use Rattle.login_table.specs.Appended.{Appends, HasRoom, IsPlain, LeavesRoom, SetsPlain}

-- ---- one mark more

pub after-more : (t : Trail) (ms : List Mark) (m : Mark) → after t (ms ++ m ∷ []) ≡ m ∷ after t ms
after-more t [] m = refl
after-more t (n ∷ ns) m = after-more (n ∷ t) ns m

pub plain-more : (ms : List Mark) (m : Mark) → AllByRecursion SetsPlain ms → SetsPlain m → AllByRecursion SetsPlain (ms ++ m ∷ [])
plain-more [] m a p = (p, tt)
plain-more (n ∷ ns) m a p = (a.0, plain-more ns m a.1 p)

-- a setting that is left out, and one that is made
pub put-same : (k : Key) (x : Fact) (t : Trail) → same_fact (value t k) x ≡ true → put k x t ≡ t
unfolding put
put-same k x t e = ap (λ (b : Bool). cond b t (Set k x ∷ t)) e

pub put-made : (k : Key) (x : Fact) (t : Trail) → same_fact (value t k) x ≡ false → put k x t ≡ Set k x ∷ t
unfolding put
put-made k x t e = ap (λ (b : Bool). cond b t (Set k x ∷ t)) e

-- ---- procedures that are one, and one that makes no marks

pub appends-as : (f g : Trail → Trail) (t : Trail) (old new : List Mark) → f t ≡ g t → Appends f t old new → Appends g t old new
appends-as f g t old new e w = record { marks = w.marks; items = w.items; same = w.same ∙ e; plain = w.plain }

pub appends-none : (f : Trail → Trail) (t : Trail) (old : List Mark) → f t ≡ t → Appends f t old old
appends-none f t old e = record { marks = []; items = sym (append-nil old); same = sym e; plain = tt }

pub room-none : (f : Trail → Trail) (t : Trail) (spare : ℕ) → f t ≡ t → LeavesRoom f t spare spare
room-none f t spare e = let n = ap length e in omega arith

pub room-as : (f g : Trail → Trail) (t : Trail) (old new : ℕ) → f t ≡ g t → LeavesRoom f t old new → LeavesRoom g t old new
room-as f g t old new e w = let n = ap length e in omega arith

pub has-room-as : (f g : Trail → Trail) (t : Trail) (spare : ℕ) → f t ≡ g t → HasRoom g t spare → HasRoom f t spare
has-room-as f g t spare e w = let n = ap length e in omega arith

-- ---- a setting

pub appends-set : (k : Key) (x : Fact) (t : Trail) (old new : List Mark) → same_fact (value t k) x ≡ false → IsPlain x → new ≡ old ++ Set k x ∷ [] → Appends (put k x) t old new
appends-set k x t old new other plain e = record { marks = Set k x ∷ []; items = e; same = sym (put-made k x t other); plain = (plain, tt) }

pub spare-set : (k : Key) (x : Fact) (t : Trail) (spare : ℕ) → same_fact (value t k) x ≡ false → HasRoom (put k x) t spare → 0 < spare
spare-set k x t spare other h =
    let n = ap length (put-made k x t other) in
    let o : length (Set k x ∷ t) ≡ length t + 1 = sym (add-one (length t)) in
    omega arith

pub room-set : (k : Key) (x : Fact) (t : Trail) (old new : ℕ) → same_fact (value t k) x ≡ false → old ≤ new + 1 → LeavesRoom (put k x) t old new
room-set k x t old new other s =
    let n = ap length (put-made k x t other) in
    let o : length (Set k x ∷ t) ≡ length t + 1 = sym (add-one (length t)) in
    omega arith

-- ---- a notice behind a procedure

pub appends-said : (f g : Trail → Trail) (w : Whom) (n : Notice) (t : Trail) (old mid new : List Mark) → Say w n ∷ f t ≡ g t → Appends f t old mid → new ≡ mid ++ Say w n ∷ [] → Appends g t old new
appends-said f g w n t old mid new q a e = record {
  marks = a.marks ++ Say w n ∷ [];
  items = e ∙ ap (λ (ms : List Mark). ms ++ Say w n ∷ []) a.items ∙ append_assoc old a.marks (Say w n ∷ []);
  same = after-more t a.marks (Say w n) ∙ ap (λ (u : Trail). Say w n ∷ u) a.same ∙ q;
  plain = plain-more a.marks (Say w n) a.plain tt;
}

pub has-room-said : (f g : Trail → Trail) (w : Whom) (n : Notice) (t : Trail) (spare : ℕ) → Say w n ∷ f t ≡ g t → HasRoom g t spare → HasRoom f t spare
has-room-said f g w n t spare q h =
    let l = ap length q in
    let o : length (Say w n ∷ f t) ≡ length (f t) + 1 = sym (add-one (length (f t))) in
    omega arith

pub spare-said : (f g : Trail → Trail) (w : Whom) (n : Notice) (t : Trail) (old mid : ℕ) → Say w n ∷ f t ≡ g t → HasRoom g t old → LeavesRoom f t old mid → 0 < mid
spare-said f g w n t old mid q h r =
    let l = ap length q in
    let o : length (Say w n ∷ f t) ≡ length (f t) + 1 = sym (add-one (length (f t))) in
    omega arith

pub room-said : (f g : Trail → Trail) (w : Whom) (n : Notice) (t : Trail) (old mid new : ℕ) → Say w n ∷ f t ≡ g t → LeavesRoom f t old mid → mid ≤ new + 1 → LeavesRoom g t old new
room-said f g w n t old mid new q r s =
    let l = ap length q in
    let o : length (Say w n ∷ f t) ≡ length (f t) + 1 = sym (add-one (length (f t))) in
    omega arith
