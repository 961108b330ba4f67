-- What is left of a tour, and those of its names that meet a test.
use Rattle.std.proofs.Common.{◌≡◌, ◌<◌, Bool, true, Option, Some, List, filter, length, ap, sym, ◌∙◌, arith, add-one}
use Rattle.login_model.specs.Names.{IsNext}
use Rattle.login_model.specs.Trail.{Trail}
use Rattle.login_model.proofs.InOrder.{Enumerates, rest-next, same-ascending, filter-ascending, filter-gives, filter-keeps}
use Rattle.login_core.proofs.Going.{Tour, left}

-- fewer are left above the next name
pub fewer : {A : Type 0} (k : Tour A) (t : Trail) (above : Option A) (a : A) → IsNext k.lt (k.there t) above (Some a) → length (left k t (Some a)) < length (left k t above)
fewer {A} k t above a n =
    let w = rest-next k.lt (k.there t) (k.list t) (k.whole t) above a n in
    let e = ap length w ∙ sym (add-one (length (left k t (Some a)))) in
    omega arith

-- those of a list that meet a test are enumerated where all are
pub among : {A : Type 0} (lt : A → A → Bool) (there wanted : A → Bool) (xs : List A) → ((a : A) → wanted a ≡ true → there a ≡ true) → Enumerates lt there xs → Enumerates lt wanted (filter there xs)
among lt there wanted xs w n = record {
  order = n.order;
  ascending = filter-ascending lt there xs n.ascending;
  complete = λ a e. filter-keeps there a xs (w a e) (n.complete a (w a e));
}

-- the same names are left where the same ones are there
pub left-same : {A : Type 0} (k : Tour A) (t u : Trail) → ((a : A) → k.there u a ≡ k.there t a) → filter (k.there u) (k.list u) ≡ filter (k.there t) (k.list t)
left-same k t u same =
    let m = k.whole u in
    let n = k.whole t in
    same-ascending k.lt n.order (filter (k.there u) (k.list u)) (filter (k.there t) (k.list t)) (filter-ascending k.lt (k.there u) (k.list u) m.ascending) (filter-ascending k.lt (k.there t) (k.list t) n.ascending)
    (λ a i. (let e = sym (same a) ∙ filter-gives (k.there u) a (k.list u) i in filter-keeps (k.there t) a (k.list t) e (n.complete a e)))
    (λ a i. (let e = same a ∙ filter-gives (k.there t) a (k.list t) i in filter-keeps (k.there u) a (k.list u) e (m.complete a e)))
