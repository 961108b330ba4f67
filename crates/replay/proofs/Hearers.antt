-- Whom something may have to be said to, in the order of their numbers.
use Rattle.std.proofs.Common.{◌≡◌, ◌==◌, ◌&&◌, ◌||◌, if◌then◌else◌, Bool, true, false, Option, Some, None, refl, ap, sym, ◌∙◌, subst, ◌⊎◌, inl, inr}
use Rattle.std.proofs.lemmas.Bool.{eq-eqb}
use Rattle.login_base.specs.declared.ids.ConnId.{ConnId}
use Rattle.login_model.proofs.FactLaws.{same-conn}
use Rattle.login_model.proofs.InOrder.{Ascending, Enumerates, IsIn, connections-enumerated, in-insert, insert-ascending, insert-keeps, names-ascending}
use Rattle.login_model.proofs.NameLaws.{conn_order}
use Rattle.login_model.specs.Names.{IsNext, conn_in, conn_lt, insert, is_above, names}
use Rattle.login_model.specs.Trail.{Trail}
use Rattle.login_model.specs.Where.{is_connected}
use Rattle.replay.specs.inner.Telling.{hearers, hears, is_between, nearest}

pub or-either : (a b : Bool) → a || b ≡ true → (a ≡ true) ⊎ (b ≡ true)
or-either true b e = inl refl
or-either false b e = inr e

pub or-first : (a b : Bool) → a ≡ true → a || b ≡ true
or-first true b e = refl
or-first false b e = absurd (let z : false ≡ true = e in cc)

pub or-second : (a b : Bool) → b ≡ true → a || b ≡ true
or-second true b e = refl
or-second false b e = e

and-both : (a b : Bool) → a && b ≡ true → (a ≡ true) × (b ≡ true)
and-both true b e = (refl, e)
and-both false b e = absurd (let z : false ≡ true = e in cc)

not-both : (a b : Bool) → a && b ≡ false → a ≡ true → b ≡ false
not-both true b e h = e
not-both false b e h = absurd (let z : false ≡ true = h in cc)

alone : (a : Bool) → a || false ≡ true → a ≡ true
alone true e = refl
alone false e = e

listed : (t : Trail) (own : Option ConnId) (c : ConnId) → hears t own c ≡ true → IsIn c (hearers t own)
listed t None c e = (connections-enumerated t).complete c (alone (is_connected t c) e)
listed t (Some b) c e = by (or-either (is_connected t c) (b.0 == c.0) e)
  where
    by : (is_connected t c ≡ true) ⊎ ((b.0 == c.0) ≡ true) → IsIn c (insert conn_lt b (names conn_lt conn_in t))
    by (inl h) = insert-keeps conn_lt c b (names conn_lt conn_in t) ((connections-enumerated t).complete c h)
    by (inr h) = subst (λ (x : ConnId). IsIn x (insert conn_lt b (names conn_lt conn_in t))) (same-conn b c h) (in-insert conn_lt conn_order b (names conn_lt conn_in t))

ascend : (t : Trail) (own : Option ConnId) → Ascending conn_lt (hearers t own)
ascend t None = names-ascending conn_lt conn_order conn_in t
ascend t (Some b) = insert-ascending conn_lt conn_order b (names conn_lt conn_in t) (names-ascending conn_lt conn_order conn_in t)

pub hearers-enumerated : (t : Trail) (own : Option ConnId) → Enumerates conn_lt (hears t own) (hearers t own)
hearers-enumerated t own = record { order = conn_order; ascending = ascend t own; complete = λ c e. listed t own c e }

-- ---- the next of them

-- without an own link it is the next connection
next-alone : (t : Trail) (after next : Option ConnId) → IsNext conn_lt (is_connected t) after next → IsNext conn_lt (hears t None) after next
next-alone t after None n = λ c h a. n c (alone (is_connected t c) h) a
next-alone t after (Some d) n = (or-first (is_connected t d) false n.0, n.1, λ c h a. n.2 c (alone (is_connected t c) h) a)

own-above : (after : Option ConnId) (own : ConnId) (next : Option ConnId) → is_between after own next ≡ true → is_above conn_lt after own ≡ true
own-above after own None e = e
own-above after own (Some d) e = (and-both (is_above conn_lt after own) (conn_lt own d) e).0

-- no other is below the line's own link, where that is below the next connection
none-below : (t : Trail) (after : Option ConnId) (own : ConnId) (next : Option ConnId) → IsNext conn_lt (is_connected t) after next → is_between after own next ≡ true
    → (c : ConnId) → (is_connected t c ≡ true) ⊎ ((own.0 == c.0) ≡ true) → is_above conn_lt after c ≡ true → conn_lt c own ≡ false
none-below t after own next n e c (inr h) a = ap (λ (x : ConnId). conn_lt x own) (sym (same-conn own c h)) ∙ conn_order.irreflexive own
none-below t after own None n e c (inl h) a = absurd (n c h a)
none-below t after own (Some d) n e c (inl h) a = by (conn_lt c own) refl
  where
    by : (b : Bool) → conn_lt c own ≡ b → b ≡ false
    by false f = refl
    by true f = absurd (
        let more : conn_lt own d ≡ true = (and-both (is_above conn_lt after own) (conn_lt own d) e).1 in
        let z : true ≡ false = sym (conn_order.transitive c own d f more) ∙ n.2 c h a in cc)

next-own : (t : Trail) (after : Option ConnId) (own : ConnId) (next : Option ConnId) → IsNext conn_lt (is_connected t) after next → is_between after own next ≡ true
    → IsNext conn_lt (hears t (Some own)) after (Some own)
next-own t after own next n e = (
  or-second (is_connected t own) (own.0 == own.0) (eq-eqb own.0 own.0 refl),
  own-above after own next e,
  λ c h a. none-below t after own next n e c (or-either (is_connected t c) (own.0 == c.0) h) a,
)

-- otherwise it is the next connection as well
next-other : (t : Trail) (after : Option ConnId) (own : ConnId) (next : Option ConnId) → IsNext conn_lt (is_connected t) after next → is_between after own next ≡ false
    → IsNext conn_lt (hears t (Some own)) after next
next-other t after own None n e = λ c h a. by c a (or-either (is_connected t c) (own.0 == c.0) h)
  where
    by : (c : ConnId) → is_above conn_lt after c ≡ true → (is_connected t c ≡ true) ⊎ ((own.0 == c.0) ≡ true) → ⊥
    by c a (inl h) = n c h a
    by c a (inr h) = (let z : true ≡ false = sym a ∙ (ap (λ (x : ConnId). is_above conn_lt after x) (sym (same-conn own c h)) ∙ e) in cc)
next-other t after own (Some d) n e = (or-first (is_connected t d) (own.0 == d.0) n.0, n.1, λ c h a. by c a (or-either (is_connected t c) (own.0 == c.0) h))
  where
    by : (c : ConnId) → is_above conn_lt after c ≡ true → (is_connected t c ≡ true) ⊎ ((own.0 == c.0) ≡ true) → conn_lt c d ≡ false
    by c a (inl h) = n.2 c h a
    by c a (inr h) =
        let same : own ≡ c = same-conn own c h in
        ap (λ (x : ConnId). conn_lt x d) (sym same) ∙ not-both (is_above conn_lt after own) (conn_lt own d) e (ap (λ (x : ConnId). is_above conn_lt after x) same ∙ a)

-- so it is the nearer of the two
next-nearer : (t : Trail) (after : Option ConnId) (own : ConnId) (next : Option ConnId) (b : Bool) → IsNext conn_lt (is_connected t) after next → is_between after own next ≡ b
    → IsNext conn_lt (hears t (Some own)) after (if b then Some own else next)
next-nearer t after own next true n e = next-own t after own next n e
next-nearer t after own next false n e = next-other t after own next n e

pub next-nearest : (t : Trail) (own after next result : Option ConnId) → IsNext conn_lt (is_connected t) after next → result ≡ nearest own after next → IsNext conn_lt (hears t own) after result
next-nearest t None after next result n e = subst (λ (x : Option ConnId). IsNext conn_lt (hears t None) after x) (sym e) (next-alone t after next n)
next-nearest t (Some own) after next result n e =
    subst (λ (x : Option ConnId). IsNext conn_lt (hears t (Some own)) after x) (sym e) (next-nearer t after own next (is_between after own next) n refl)
