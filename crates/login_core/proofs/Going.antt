-- Going over the names of a kind in order while marks are made.
use Rattle.std.proofs.Common.{◌≡◌, ◌+◌, ◌<◌, Bool, true, Option, Some, None, List, ◌∷◌, length, ap, sym, ◌∙◌, arith, add-one}
use Rattle.login_model.specs.Trail.{Trail}
use Rattle.login_model.specs.Names.{IsNext}
use Rattle.login_model.specs.Procedure.{each}
use Rattle.login_laws.proofs.Widens.{Widens, each-widens}
use Rattle.login_model.proofs.InOrder.{Enumerates, rest, rest-none, rest-next, rest-stays}
use Rattle.login_laws.specs.Amounts.{amount}
use Rattle.login_core.specs.inner.Draft.{DraftState, Fits, limit, marked_by, with_trail}
use Rattle.switch_core.proofs.Going.{each-more, each-none}

-- the names of a kind that are there, which a list has
pub record Tour (A : Type 0) : Type 0 where
  pub lt : A → A → Bool
  pub there : Trail → A → Bool
  pub list : Trail → List A
  pub whole : (t : Trail) → Enumerates lt (there t) (list t)

-- those above a name
abbrev pub left : {A : Type 0} → Tour A → Trail → Option A → List A
left k t above = rest k.lt (k.there t) (k.list t) above

-- f of a name leaves the names above alone
abbrev pub KeepsAbove : {A : Type 0} → Tour A → (A → Trail → Trail) → Type 0
KeepsAbove {A} k f = (d e : A) (t : Trail) → k.lt d e ≡ true → k.there (f d t) e ≡ k.there t e

-- f only adds marks and keys
abbrev pub Adds : {A : Type 0} → (A → Trail → Trail) → Type 0
Adds {A} f = (d : A) (t : Trail) → Widens t (f d t)

-- f of those that are left, from now, is f of all, from the start
abbrev pub Going : {A : Type 0} → Tour A → (A → Trail → Trail) → List A → Option A → DraftState → DraftState → Type 0
Going {A} k f all above start now = marked_by (λ t. each f (left k t above) t) now ≡ marked_by (each f all) start

pub going-start : {A : Type 0} (k : Tour A) (f : A → Trail → Trail) (all : List A) (m : DraftState) → left k m.trail None ≡ all → Going k f all None m m
going-start {A} k f all m e = ap (λ (xs : List A). marked_by (each f xs) m) e

-- the first of those that are left, and the others, which are the same after f
going-next : {A : Type 0} (k : Tour A) (f : A → Trail → Trail) (above : Option A) (d : A) (now next : DraftState) → KeepsAbove k f → next ≡ marked_by (f d) now → IsNext k.lt (k.there now.trail) above (Some d)
    → left k now.trail above ≡ d ∷ left k next.trail (Some d)
going-next {A} k f above d now next keeps e n =
    let t = now.trail in
    rest-next k.lt (k.there t) (k.list t) (k.whole t) above d n
    ∙ ap (λ (ds : List A). d ∷ ds)
    (sym (rest-stays k.lt (k.there (f d t)) (k.there t) (k.list (f d t)) (k.list t) (k.whole (f d t)) (k.whole t) d (λ x l. keeps d x t l))
    ∙ ap (λ (m : DraftState). left k m.trail (Some d)) (sym e))

-- one more than are left
more : {A : Type 0} (x : A) (xs ys : List A) → ys ≡ x ∷ xs → length ys ≡ length xs + 1
more x xs ys e = ap length e ∙ sym (add-one (length xs))

pub going-less : {A : Type 0} (k : Tour A) (f : A → Trail → Trail) (above : Option A) (d : A) (now next : DraftState) → KeepsAbove k f → next ≡ marked_by (f d) now → IsNext k.lt (k.there now.trail) above (Some d)
    → length (left k next.trail (Some d)) < length (left k now.trail above)
going-less k f above d now next keeps e n =
    let m = more d (left k next.trail (Some d)) (left k now.trail above) (going-next k f above d now next keeps e n) in
    omega arith

-- the next one's marks are among all
pub going-room : {A : Type 0} (k : Tour A) (f : A → Trail → Trail) (all : List A) (above : Option A) (d : A) (start now : DraftState) → Adds f → Going k f all above start now
    → IsNext k.lt (k.there now.trail) above (Some d) → Fits (each f all) start → Fits (f d) now
going-room {A} k f all above d start now widens g n h = λ r. (
    let t = now.trail in
    let ds = rest k.lt (k.there t) (k.list t) (Some d) in
    let w = rest-next k.lt (k.there t) (k.list t) (k.whole t) above d n in
    let e : amount r (each f ds (f d t)) ≡ amount r (each f all start.trail) =
    ap (amount r) (sym (each-more f d ds t) ∙ sym (ap (λ (xs : List A). each f xs t) w)) ∙ ap (λ (m : DraftState). amount r m.trail) g in
    let b = each-widens f widens ds (f d t) r in
    let j : limit r now ≡ limit r start = ap (limit r) g in
    let i = h r in
    omega arith
    )

pub going-step : {A : Type 0} (k : Tour A) (f : A → Trail → Trail) (all : List A) (above : Option A) (d : A) (start now next : DraftState) → KeepsAbove k f → Going k f all above start now
    → next ≡ marked_by (f d) now → IsNext k.lt (k.there now.trail) above (Some d) → Going k f all (Some d) start next
going-step {A} k f all above d start now next keeps g e n =
    let ds = left k next.trail (Some d) in
    let w = going-next k f above d now next keeps e n in
    ap (marked_by (each f ds)) e ∙ ap (with_trail now) (sym (each-more f d ds now.trail) ∙ sym (ap (λ (xs : List A). each f xs now.trail) w)) ∙ g

-- at the end none is left
pub going-end : {A : Type 0} (k : Tour A) (f : A → Trail → Trail) (all : List A) (above : Option A) (start now : DraftState) → Going k f all above start now → IsNext k.lt (k.there now.trail) above None
    → now ≡ marked_by (each f all) start
going-end {A} k f all above start now g n =
    let t = now.trail in
    let w = rest-none k.lt (k.there t) (k.list t) (k.whole t) above n in
    sym (ap (with_trail now) (ap (λ (xs : List A). each f xs t) w ∙ each-none f t)) ∙ g
