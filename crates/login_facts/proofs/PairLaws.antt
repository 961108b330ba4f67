-- Pairs of a session and a device that it has taken.
use Rattle.std.proofs.Common.{◌≡◌, ◌≤◌, ◌+◌, ◌==◌, ◌&&◌, ◌||◌, Bool, true, false, Some, None, List, [], ◌∷◌, length, refl, ap, sym, ◌∙◌, subst, arith, ◌⊎◌, inl, inr}
use Rattle.std.proofs.lemmas.Bool.Decides.{nat_tests}
use Rattle.login_base.specs.declared.ids.SessId.{SessId}
use Rattle.login_base.specs.declared.ids.DevNo.{DevNo}
use Rattle.login_model.specs.declared.fact.Key.{Key}
use Rattle.login_model.specs.declared.fact.Key.TheVariants.{Taken}
use Rattle.login_model.specs.Devices.{is_handle_fact, is_taken, taken_devices}
use Rattle.login_model.specs.Full.{taken_by, taken_count}
use Rattle.login_model.specs.Kind.{AreKeys, IsOrder}
use Rattle.login_model.specs.Names.{device_lt, names, session_lt}
use Rattle.login_model.specs.Trail.{Trail}
use Rattle.login_model.specs.Where.{sessions}
use Rattle.login_model.proofs.InOrder.{Ascending, IsIn}
use Rattle.login_model.proofs.NameLaws.{device_order, session_order}
use Rattle.login_laws.proofs.Counts.{Lists, count-same, sessions-ascending, taken-list}
use Rattle.login_laws.proofs.Counting.{length-less}
use Rattle.login_laws.proofs.Loops.{in-sessions}
use Rattle.login_table.specs.KeyOrder.{pair_lt}
use Rattle.login_table.proofs.Listing.{Kind, all, filter-length, kind, names-length}
use Rattle.login_facts.specs.Counts.{HoldersAreThere, Pair, is_pair_below, is_pair_taken, pair_in, taken_pairs}
use Rattle.login_facts.proofs.CountLaws.{kind-list}

-- ---- their order

pair-irreflexive : (p : Pair) → is_pair_below p p ≡ false
pair-irreflexive p =
    let s = session_order.irreflexive p.0 in
    let d = device_order.irreflexive p.1 in
    grind (arith, nat_tests)

pair-trans : (p q r : Pair) → is_pair_below p q ≡ true → is_pair_below q r ≡ true → is_pair_below p r ≡ true
pair-trans p q r a b = let d = device_order.transitive p.1 q.1 r.1 in grind (arith, nat_tests)

not-below : (s r : SessId) (a b : DevNo) → pair_lt s a r b ≡ false → pair_lt r b s a ≡ false → (session_lt s r ≡ false) × (session_lt r s ≡ false)
not-below s r a b p q = (grind (arith, nat_tests), grind (arith, nat_tests))

device-not-below : (s : SessId) (a b : DevNo) → pair_lt s a s b ≡ false → device_lt a b ≡ false
device-not-below s a b p = grind (arith, nat_tests)

pair-same : (s r : SessId) (a b : DevNo) → pair_lt s a r b ≡ false → pair_lt r b s a ≡ false → (s ≡ r) × (a ≡ b)
pair-same s r a b p q =
    let n = not-below s r a b p q in
    let e = session_order.total s r n.0 n.1 in
    let P : SessId → Type 0 = λ (x : SessId). pair_lt s a x b ≡ false in
    let Q : SessId → Type 0 = λ (x : SessId). pair_lt x b s a ≡ false in
    (e, device_order.total a b (device-not-below s a b (subst P (sym e) p)) (device-not-below s b a (subst Q (sym e) q)))

one-pair : (p q : Pair) → (p.0 ≡ q.0) × (p.1 ≡ q.1) → p ≡ q
one-pair p q e = λ i. (e.0 i, e.1 i)

pub pair_order : IsOrder is_pair_below
pair_order = record {
  irreflexive = pair-irreflexive;
  transitive = pair-trans;
  total = λ p q a b. one-pair p q (pair-same p.0 q.0 p.1 q.1 a b);
}

no-flag : false ≡ true → ⊥
no-flag e = cc

no-pair : {p : Pair} → None ≡ Some p → ⊥
no-pair e = cc

some-pair : (p q : Pair) → Some p ≡ Some q → p ≡ q
some-pair p q e = cc

pair-own : (k : Key) (p : Pair) → pair_in k ≡ Some p → k ≡ Taken p.0 p.1
pair-own (Taken s d) p e = ap (λ (q : Pair). Taken q.0 q.1) (some-pair (s, d) p e)
pair-own _ p e = absurd (no-pair e)

pub pair_keys : AreKeys pair_in (λ p. Taken p.0 p.1) is_handle_fact None
pair_keys = record { own = pair-own; named = λ p. refl; start = λ p h. absurd (no-flag h); begins = λ p e. absurd (no-pair e) }

abbrev pub pair_kind : Kind Pair
pair_kind = kind is_pair_below pair_order pair_in (λ p. Taken p.0 p.1) is_handle_fact None pair_keys

pub pairs-all : (t : Trail) → length (taken_pairs t) ≡ length (all pair_kind t)
unfolding taken_pairs
pairs-all t = refl

-- ---- those of each session, one session after the other

joined : SessId → List DevNo → List Pair → List Pair
joined s [] more = more
joined s (d ∷ ds) more = (s, d) ∷ joined s ds more

joined-length : (s : SessId) (ds : List DevNo) (more : List Pair) → length (joined s ds more) ≡ length ds + length more
unfolding joined
joined-length s [] more = omega arith
joined-length s (d ∷ ds) more = let r = joined-length s ds more in omega arith

joined-has : (s : SessId) (d : DevNo) (ds : List DevNo) (more : List Pair) → IsIn d ds → IsIn (s, d) (joined s ds more)
unfolding joined
joined-has s d [] more i = absurd i
joined-has s d (e ∷ ds) more (inl q) = inl (ap (λ (z : DevNo). let r : Pair = (s, z) in r) q)
joined-has s d (e ∷ ds) more (inr i) = inr (joined-has s d ds more i)

joined-keeps : (s : SessId) (p : Pair) (ds : List DevNo) (more : List Pair) → IsIn p more → IsIn p (joined s ds more)
unfolding joined
joined-keeps s p [] more i = i
joined-keeps s p (d ∷ ds) more i = inr (joined-keeps s p ds more i)

joined-gives : (s : SessId) (p : Pair) (ds : List DevNo) (more : List Pair) → IsIn p (joined s ds more) → ((p.0 ≡ s) × IsIn p.1 ds) ⊎ IsIn p more
unfolding joined
joined-gives s p [] more i = inr i
joined-gives s p (d ∷ ds) more (inl e) = inl (ap (λ (q : Pair). q.0) e, inl (ap (λ (q : Pair). q.1) e))
joined-gives s p (d ∷ ds) more (inr i) = elim (joined-gives s p ds more i) [ inl g ↦ inl (g.0, inr g.1) | inr j ↦ inr j ]

below-device : (s r : SessId) (d e : DevNo) → s ≡ r → device_lt d e ≡ true → pair_lt s d r e ≡ true
below-device s r d e q h =
    let P : SessId → Type 0 = λ x. pair_lt s d x e ≡ true in
    let same : pair_lt s d s e ≡ true = grind (arith, nat_tests) in
    subst P q same

below-session : (s r : SessId) (d e : DevNo) → session_lt s r ≡ true → pair_lt s d r e ≡ true
below-session s r d e h = ap (λ (b : Bool). b || ((s.0 == r.0) && device_lt d e)) h

joined-ascending : (s : SessId) (ds : List DevNo) (more : List Pair) → Ascending device_lt ds → Ascending is_pair_below more → ((p : Pair) → IsIn p more → session_lt s p.0 ≡ true)
    → Ascending is_pair_below (joined s ds more)
unfolding joined
joined-ascending s [] more a b f = b
joined-ascending s (d ∷ ds) more a b f = (
  (λ p i. elim (joined-gives s p ds more i) [
    | inl g ↦ below-device s p.0 d p.1 (sym g.0) (a.0 p.1 g.1)
    | inr j ↦ below-session s p.0 d p.1 (f p j)
  ]),
  joined-ascending s ds more a.1 b f,
)

pairs : Trail → List SessId → List Pair
pairs t [] = []
pairs t (s ∷ ss) = joined s (taken_devices t s) (pairs t ss)

pairs-length : (t : Trail) (ss : List SessId) → length (pairs t ss) ≡ taken_by t ss
unfolding pairs taken_by
pairs-length t [] = refl
pairs-length t (s ∷ ss) = let a = joined-length s (taken_devices t s) (pairs t ss) in let r = pairs-length t ss in omega arith

-- one of them is of one of the sessions, which has taken the device
pairs-give : (t : Trail) (ss : List SessId) (p : Pair) → IsIn p (pairs t ss) → IsIn p.0 ss × (is_pair_taken t p ≡ true)
unfolding pairs
pairs-give t [] p i = absurd i
pairs-give t (s ∷ ss) p i = elim (joined-gives s p (taken_devices t s) (pairs t ss) i) [
  | inl g ↦ (let P : SessId → Type 0 = λ r. is_taken t r p.1 ≡ true in (inl g.0, subst P (sym g.0) ((taken-list t s).gives p.1 g.1)))
  | inr j ↦ (let r = pairs-give t ss p j in (inr r.0, r.1))
]

pairs-have : (t : Trail) (ss : List SessId) (s : SessId) (d : DevNo) → IsIn s ss → is_taken t s d ≡ true → IsIn (s, d) (pairs t ss)
unfolding pairs
pairs-have t [] s d i e = absurd i
pairs-have t (r ∷ ss) s d (inl q) e =
    (let P : SessId → Type 0 = λ z. IsIn (s, d) (joined z (taken_devices t z) (pairs t ss)) in
    subst P q (joined-has s d (taken_devices t s) (pairs t ss) ((taken-list t s).has d e)))
pairs-have t (r ∷ ss) s d (inr i) e = joined-keeps r (s, d) (taken_devices t r) (pairs t ss) (pairs-have t ss s d i e)

pairs-ascending : (t : Trail) (ss : List SessId) → Ascending session_lt ss → Ascending is_pair_below (pairs t ss)
unfolding pairs
pairs-ascending t [] a = tt
pairs-ascending t (s ∷ ss) a =
    joined-ascending s (taken_devices t s) (pairs t ss) (taken-list t s).ascending (pairs-ascending t ss a.1) (λ p i. a.0 p.0 (pairs-give t ss p i).0)

pairs-list : (t : Trail) → HoldersAreThere t → Lists is_pair_below (is_pair_taken t) (pairs t (sessions t))
pairs-list t h = record {
  order = pair_order;
  ascending = pairs-ascending t (sessions t) (sessions-ascending t);
  has = λ p e. pairs-have t (sessions t) p.0 p.1 (in-sessions t p.0 (h.taken p.0 p.1 e)) e;
  gives = λ p i. (pairs-give t (sessions t) p i).1;
}

-- where no session that is gone has taken any, they are those that are counted session by session
pub pairs-taken : (t : Trail) → HoldersAreThere t → length (taken_pairs t) ≡ taken_count t
pairs-taken t h =
    let e = ap length (count-same is_pair_below (is_pair_taken t) (is_pair_taken t) (all pair_kind t) (pairs t (sessions t)) (kind-list pair_kind t) (pairs-list t h) (λ p. refl)) in
    pairs-all t ∙ e ∙ pairs-length t (sessions t)

-- sessions of an ascending list have taken no more devices than there are marks
pub taken-few : (t : Trail) (ss : List SessId) → Ascending session_lt ss → taken_by t ss ≤ length t
unfolding taken_pairs
taken-few t ss a =
    let all_of = kind-list pair_kind t in
    let less = length-less is_pair_below pair_order (pairs t ss) (taken_pairs t) (pairs-ascending t ss a) all_of.ascending (λ p i. all_of.has p (pairs-give t ss p i).1) in
    let same = pairs-length t ss in
    let few = filter-length (is_pair_taken t) (names is_pair_below pair_in t) in
    let most = names-length is_pair_below pair_in t in
    omega arith
