-- The shares of all connections are no more than the need.
use Rattle.std.proofs.Common.{◌≡◌, ◌≤◌, ◌+◌, ◌*◌, ◌&&◌, ◌||◌, ℕ, Bool, true, false, cond, Option, Some, None, List, [], ◌∷◌, length, filter, sum_by, refl, ap, sym, ◌∙◌, arith, inl, inr}
use Rattle.std.proofs.lemmas.List.Sums.{sum_by-cons}
use Rattle.login_base.specs.declared.ids.ConnId.{ConnId}
use Rattle.login_base.specs.declared.ids.SessId.{SessId}
use Rattle.login_base.specs.declared.ids.LockNo.{LockNo}
use Rattle.login_model.specs.Kind.{IsOrder}
use Rattle.login_model.specs.Names.{conn_lt, session_lt}
use Rattle.login_model.specs.Start.{seat0}
use Rattle.login_model.specs.Trail.{Trail, value}
use Rattle.login_model.specs.Where.{active_on, connections, is_open, locks, open_sessions, sessions}
use Rattle.login_model.specs.Direct.{controlled_by, fifo_in, is_fifo_of, is_lock_of, kept_open_by, locks_of, owns_fifo}
use Rattle.login_model.specs.Facts.{is_number_fact}
use Rattle.login_model.specs.Full.{controlled_sessions, is_controlled_fact, taken_by, taken_count}
use Rattle.login_model.specs.Policy.{controls, is_controller_fact}
use Rattle.login_model.specs.declared.fact.Key.TheVariants as key
use Rattle.login_model.specs.declared.fact.Fact.{Fact}
use Rattle.login_model.specs.declared.fact.Fact.TheVariants as fact
use Rattle.login_model.specs.declared.fact.Owner.TheVariants as owner
use Rattle.login_model.proofs.FactLaws.{same-conn}
use Rattle.login_model.proofs.InOrder.{Ascending, IsIn, filter-ascending, filter-in}
use Rattle.login_model.proofs.Keys.{test}
use Rattle.login_model.proofs.NameLaws.{conn_order}
use Rattle.login_model.proofs.Values.{true-false}
use Rattle.login_laws.specs.Need.{need, switch_need}
use Rattle.login_laws.specs.Shares.{SharesFit, has_session, share, switch_share}
use Rattle.login_laws.proofs.Counting.{tail-not, total}
use Rattle.login_laws.proofs.Counts.{connections-list, is_controlled, sessions-ascending, taken-among, taken-total, taken_length}
use Rattle.login_laws.proofs.Paying.{not-set}

-- ---- sums

sum-total : {A : Type 0} (f : A → ℕ) (xs : List A) → sum_by f xs ≡ total f xs
unfolding total
sum-total f [] = refl
sum-total f (x ∷ xs) = sum_by-cons f x xs ∙ ap (λ (n : ℕ). f x + n) (sum-total f xs)

length-total : {A : Type 0} (xs : List A) → length xs ≡ total (λ (x : A). 1) xs
unfolding total
length-total [] = refl
length-total (x ∷ xs) = (let r = length-total xs in omega arith)

total-zero : {A : Type 0} (xs : List A) → total (λ (x : A). 0) xs ≡ 0
unfolding total
total-zero [] = refl
total-zero (x ∷ xs) = (let r = total-zero xs in omega arith)

total-plus : {A : Type 0} (f g : A → ℕ) (xs : List A) → total (λ (x : A). f x + g x) xs ≡ total f xs + total g xs
unfolding total
total-plus f g [] = omega arith
total-plus f g (x ∷ xs) = (let r = total-plus f g xs in omega arith)

total-each : {A : Type 0} (f g : A → ℕ) → ((x : A) → f x ≤ g x) → (xs : List A) → total f xs ≤ total g xs
unfolding total
total-each f g l [] = omega arith
total-each f g l (x ∷ xs) = (let a = l x in let r = total-each f g l xs in omega arith)

-- ---- each belongs to one of them at most

none-of : {A : Type 0} (p : A → Bool) (n : ℕ) (xs : List A) → ((x : A) → IsIn x xs → p x ≡ true → ⊥) → total (λ (x : A). cond (p x) n 0) xs ≡ 0
unfolding total
none-of p n [] f = refl
none-of p n (x ∷ xs) f =
    elim (test (p x)) [
      | inl e ↦ absurd (f x (inl refl) e)
      | inr e ↦ (let a = ap (λ (b : Bool). cond b n 0) e in let r = none-of p n xs (λ y i. f y (inr i)) in omega arith)
    ]

pub one-of : {A : Type 0} (lt : A → A → Bool) (o : IsOrder lt) (p : A → Bool) (n : ℕ) (xs : List A) → Ascending lt xs → ((x y : A) → p x ≡ true → p y ≡ true → x ≡ y)
    → total (λ (x : A). cond (p x) n 0) xs ≤ n
unfolding total
one-of lt o p n [] a one = omega arith
one-of lt o p n (x ∷ xs) a one =
    elim (test (p x)) [
      | inl e ↦ (let b = ap (λ (b : Bool). cond b n 0) e in
          let r = none-of p n xs (λ y i q. tail-not lt o x y xs a i (one y x q e)) in omega arith)
      | inr e ↦ (let b = ap (λ (b : Bool). cond b n 0) e in let r = one-of lt o p n xs a.1 one in omega arith)
    ]

filtered : {A : Type 0} (w : A → ℕ) (b : Bool) (x : A) (xs : List A) → total w (cond b (x ∷ xs) xs) ≡ cond b (w x) 0 + total w xs
unfolding total
filtered w true x xs = refl
filtered w false x xs = omega arith

-- what is each one's share of a list is no more than the list
parts : {A C : Type 0} (lt : C → C → Bool) (o : IsOrder lt) (p : C → A → Bool) (w : A → ℕ) (cs : List C) → Ascending lt cs → ((x : A) (c d : C) → p c x ≡ true → p d x ≡ true → c ≡ d)
    → (xs : List A) → total (λ (c : C). total w (filter (p c) xs)) cs ≤ total w xs
unfolding total
parts lt o p w cs a one [] = (let z = total-zero cs in omega arith)
parts {A} {C} lt o p w cs a one (x ∷ xs) =
    let f : C → ℕ = λ c. cond (p c x) (w x) 0 in
    let g : C → ℕ = λ c. total w (filter (p c) xs) in
    let e = total-each (λ (c : C). total w (filter (p c) (x ∷ xs))) (λ (c : C). f c + g c) (λ c. (let q = filtered w (p c x) x (filter (p c) xs) in omega arith)) cs in
    let s = total-plus f g cs in
    let m = one-of lt o (λ (c : C). p c x) (w x) cs a (one x) in
    let r = parts lt o p w cs a one xs in omega arith

-- ---- whose is what

one-controller : (x : Fact) (c d : ConnId) → is_controller_fact c x ≡ true → is_controller_fact d x ≡ true → c ≡ d
one-controller (fact.Controller b) c d p q = sym (same-conn b c p) ∙ same-conn b d q
one-controller _ c d p q = cc

one-fifo : (x : Fact) (c d : ConnId) → is_fifo_of c x ≡ true → is_fifo_of d x ≡ true → c ≡ d
one-fifo (fact.Owned (owner.Fifo b s)) c d p q = sym (same-conn b c p) ∙ same-conn b d q
one-fifo _ c d p q = cc

one-holder : (x : Fact) (c d : ConnId) → is_lock_of c x ≡ true → is_lock_of d x ≡ true → c ≡ d
one-holder (fact.Lock l) c d p q = sym (same-conn l.holder c p) ∙ same-conn l.holder d q
one-holder _ c d p q = cc

-- what each one has of a list is in a part of it
within-step : {A : Type 0} (p : A → Bool) (b : Bool) (x : A) (ys xs : List A) → (b ≡ false → p x ≡ false) → filter p ys ≡ filter p xs → filter p (cond b (x ∷ ys) ys) ≡ filter p (x ∷ xs)
within-step {A} p true x ys xs f e = ap (λ (zs : List A). cond (p x) (x ∷ zs) zs) e
within-step {A} p false x ys xs f e = e ∙ sym (ap (λ (b : Bool). cond b (x ∷ filter p xs) (filter p xs)) (f refl))

filter-within : {A : Type 0} (p q : A → Bool) → ((x : A) → p x ≡ true → q x ≡ true) → (xs : List A) → filter p (filter q xs) ≡ filter p xs
filter-within p q f [] = refl
filter-within p q f (x ∷ xs) =
    within-step p (q x) x (filter q xs) xs (λ n. not-set (p x) (λ e. true-false (q x) (f x e) n)) (filter-within p q f xs)

-- ---- the sums

lengths : {A : Type 0} (p : ConnId → A → Bool) → ((x : A) (c d : ConnId) → p c x ≡ true → p d x ≡ true → c ≡ d) → (t : Trail) (xs : List A) → total (λ (c : ConnId). length (filter (p c) xs)) (connections t) ≤ length xs
lengths {A} p one t xs =
    let w : A → ℕ = λ x. 1 in
    let cs = connections t in
    let a = total-each (λ (c : ConnId). length (filter (p c) xs)) (λ (c : ConnId). total w (filter (p c) xs)) (λ c. (let e = length-total (filter (p c) xs) in omega arith)) cs in
    let b = parts conn_lt conn_order p w cs (connections-list t).ascending one xs in
    let e = length-total xs in omega arith

takens : (p : ConnId → SessId → Bool) → ((s : SessId) (c d : ConnId) → p c s ≡ true → p d s ≡ true → c ≡ d) → (t : Trail) (ss : List SessId) → total (λ (c : ConnId). taken_by t (filter (p c) ss)) (connections t) ≤ taken_by t ss
takens p one t ss =
    let w = taken_length t in
    let cs = connections t in
    let a = total-each (λ (c : ConnId). taken_by t (filter (p c) ss)) (λ (c : ConnId). total w (filter (p c) ss)) (λ c. (let e = taken-total t (filter (p c) ss) in omega arith)) cs in
    let b = parts conn_lt conn_order p w cs (connections-list t).ascending one ss in
    let e = taken-total t ss in omega arith

controls-one : (t : Trail) (s : SessId) (c d : ConnId) → controls t c s ≡ true → controls t d s ≡ true → c ≡ d
controls-one t s c d p q = one-controller (value t (key.Ctl s)) c d p q

fifo-one : (t : Trail) (s : SessId) (c d : ConnId) → owns_fifo t c s ≡ true → owns_fifo t d s ≡ true → c ≡ d
fifo-one t s c d p q = one-fifo (value t (key.Owner (fifo_in (value t (key.Sess s))))) c d p q

is-controlled : (c : ConnId) (x : Fact) → is_controller_fact c x ≡ true → is_controlled_fact x ≡ true
is-controlled c (fact.Controller b) e = refl
is-controlled c _ e = cc

controlled-sum : (t : Trail) → total (λ (c : ConnId). length (controlled_by t c)) (connections t) ≤ length (controlled_sessions t)
unfolding controlled_by
controlled-sum t =
    let cs = connections t in
    let a = total-each (λ (c : ConnId). length (controlled_by t c)) (λ (c : ConnId). length (filter (controls t c) (controlled_sessions t)))
    (λ c. (let e = ap length (filter-within (controls t c) (is_controlled t) (λ s p. is-controlled c (value t (key.Ctl s)) p) (sessions t)) in omega arith)) cs in
    let b = lengths (controls t) (controls-one t) t (controlled_sessions t) in omega arith

controlled-taken : (t : Trail) → total (λ (c : ConnId). taken_by t (controlled_by t c)) (connections t) ≤ taken_count t
unfolding controlled_by
controlled-taken t = takens (controls t) (controls-one t) t (sessions t)

kept-sum : (t : Trail) → total (λ (c : ConnId). length (kept_open_by t c)) (connections t) ≤ length (open_sessions t)
unfolding kept_open_by
kept-sum t = lengths (owns_fifo t) (fifo-one t) t (open_sessions t)

open-taken : (t : Trail) → taken_by t (open_sessions t) ≤ taken_count t
unfolding open_sessions
open-taken t =
    taken-among t t (filter (is_open t) (sessions t)) (sessions t) (filter-ascending session_lt (is_open t) (sessions t) (sessions-ascending t)) (sessions-ascending t) (λ s i. omega arith)
    (λ s i. inr (filter-in (is_open t) s (sessions t) i))

kept-taken : (t : Trail) → total (λ (c : ConnId). taken_by t (kept_open_by t c)) (connections t) ≤ taken_count t
unfolding kept_open_by
kept-taken t = (let a = takens (owns_fifo t) (fifo-one t) t (open_sessions t) in let b = open-taken t in omega arith)

lock-sum : (t : Trail) → total (λ (c : ConnId). length (locks_of t c)) (connections t) ≤ length (locks t)
unfolding locks_of
lock-sum t = lengths (λ (c : ConnId) (l : LockNo). is_lock_of c (value t (key.Lock l))) (λ l c d p q. one-holder (value t (key.Lock l)) c d p q) t (locks t)

or-less : (a b : Bool) (n : ℕ) → cond (a || b) n 0 ≤ cond a n 0 + cond b n 0
or-less true b n = omega arith
or-less false b n = omega arith

switch-by : (b : Bool) (o : Option SessId) (n : ℕ) (t : Trail) → total (λ (c : ConnId). cond (b && has_session t c o) n 0) (connections t) ≤ cond b (n + n) 0
switch-by false o n t = (let z = total-zero (connections t) in omega arith)
switch-by true None n t = (let z = total-zero (connections t) in omega arith)
switch-by true (Some s) n t =
    (let cs = connections t in
    let up = (connections-list t).ascending in
    let f : ConnId → ℕ = λ c. cond (controls t c s) n 0 in
    let g : ConnId → ℕ = λ c. cond (owns_fifo t c s) n 0 in
    let a = total-each (λ (c : ConnId). cond (has_session t c (Some s)) n 0) (λ (c : ConnId). f c + g c) (λ c. or-less (controls t c s) (owns_fifo t c s) n) cs in
    let e = total-plus f g cs in
    let p = one-of conn_lt conn_order (λ (c : ConnId). controls t c s) n cs up (controls-one t s) in
    let q = one-of conn_lt conn_order (λ (c : ConnId). owns_fifo t c s) n cs up (fifo-one t s) in omega arith)

twice : (b : Bool) (k : ℕ) → cond b (4 * k + 4 + (4 * k + 4)) 0 ≡ cond b (8 * k + 8) 0
twice true k = omega arith
twice false k = refl

switch-sum : (t : Trail) → total (λ (c : ConnId). switch_share c t) (connections t) ≤ switch_need t
switch-sum t =
    let b = is_number_fact (value t key.Pending) in
    let a = switch-by b (active_on t seat0) (4 * taken_count t + 4) t in
    let e = twice b (taken_count t) in omega arith

share-sum : (a b l k m s : ConnId → ℕ) (cs : List ConnId) → total (λ (c : ConnId). 1 + a c + 4 * b c + 2 * l c + 2 * k c + 2 * m c + s c) cs
    ≡ length cs + total a cs + 4 * total b cs + 2 * total l cs + 2 * total k cs + 2 * total m cs + total s cs
unfolding total
share-sum a b l k m s [] = omega arith
share-sum a b l k m s (c ∷ cs) = (let r = share-sum a b l k m s cs in omega arith)

pub shares-fit : SharesFit
unfolding share need
shares-fit t =
    let cs = connections t in
    let a = sum-total (λ (c : ConnId). share c t) cs in
    let e = share-sum (λ (c : ConnId). length (controlled_by t c)) (λ (c : ConnId). length (kept_open_by t c)) (λ (c : ConnId). length (locks_of t c))
    (λ (c : ConnId). taken_by t (controlled_by t c)) (λ (c : ConnId). taken_by t (kept_open_by t c)) (λ (c : ConnId). switch_share c t) cs in
    let p1 = controlled-sum t in let p2 = kept-sum t in let p3 = lock-sum t in let p4 = controlled-taken t in let p5 = kept-taken t in let p6 = switch-sum t in
    omega arith
