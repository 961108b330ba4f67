-- The share of a connection's end is what it owes, one mark, and those of a switch.
use Rattle.std.proofs.Common.{◌≡◌, ◌+◌, ◌*◌, ℕ, Bool, true, false, cond, Option, Some, None, List, [], ◌∷◌, filter, length, refl, ap, sym, ◌∙◌, arith}
use Rattle.login_base.specs.declared.ids.ConnId.{ConnId}
use Rattle.login_base.specs.declared.ids.SessId.{SessId}
use Rattle.login_model.specs.declared.fact.Key.TheVariants as key
use Rattle.login_model.specs.declared.fact.Fact.{Fact}
use Rattle.login_model.specs.declared.fact.Fact.TheVariants as fact
use Rattle.login_model.specs.declared.fact.Owner.TheVariants as owner
use Rattle.login_model.specs.Devices.{taken_devices}
use Rattle.login_model.specs.Direct.{controlled_by, fifo_in, is_fifo_of, kept_open_by, owns_fifo}
use Rattle.login_model.specs.Facts.{controller_in, is_controller_fact}
use Rattle.login_model.specs.Full.{taken_by}
use Rattle.login_model.specs.Names.{names, session_in, session_lt}
use Rattle.login_model.specs.Policy.{controls}
use Rattle.login_model.specs.Trail.{Trail, value}
use Rattle.login_model.specs.Where.{is_open, is_session, open_sessions, sessions}
use Rattle.login_model.proofs.Values.{same-refl}
use Rattle.login_laws.specs.Shares.{share, switch_share}
use Rattle.login_laws.specs.Sound.{Fifos}
use Rattle.login_laws.proofs.Counting.{total}
use Rattle.login_facts.specs.Owing.{charge, due_at, keeper, keeper_in, owed}
use Rattle.login_facts.proofs.OwedSums.{sum-total}

-- the fifo that a sound trail has of an open session is the session's own
own-fifo : (c b : ConnId) (s : SessId) (x : Fact) (n : ℕ) → x ≡ fact.Owned (owner.Fifo b s) → due_at (keeper_in s x) n c ≡ cond (is_fifo_of c x) n 0
own-fifo c b s x n e =
    ap (λ (y : Fact). due_at (keeper_in s y) n c) e
    ∙ ap (λ (z : Bool). due_at (cond z (Some b) None) n c) (same-refl s.0)
    ∙ sym (ap (λ (y : Fact). cond (is_fifo_of c y) n 0) e)

due-open : (b : Bool) (o : Option ConnId) (n m : ℕ) (c : ConnId) → (b ≡ true → due_at o n c ≡ m) → due_at (cond b o None) n c ≡ cond b m 0
due-open true o n m c f = f refl
due-open false o n m c f = refl

due-keeper : (t : Trail) (c : ConnId) (s : SessId) (n : ℕ) → Fifos t → due_at (keeper t s) n c ≡ cond (is_open t s) (cond (owns_fifo t c s) n 0) 0
due-keeper t c s n fifos =
    let x = value t (key.Owner (fifo_in (value t (key.Sess s)))) in
    due-open (is_open t s) (keeper_in s x) n (cond (is_fifo_of c x) n 0) c (λ e. (let k = fifos s e in own-fifo c k.by_whom s x n k.owned))

due-controller : (x : Fact) (n : ℕ) (c : ConnId) → due_at (controller_in x) n c ≡ cond (is_controller_fact c x) n 0
due-controller (fact.Controller b) n c = refl
due-controller _ n c = refl

-- ---- sums

-- what one name adds to the sum over those that pass a test, or two
passed : {A : Type 0} (w : A → ℕ) (b : Bool) (x : A) (xs : List A) → total w (cond b (x ∷ xs) xs) ≡ cond b (w x) 0 + total w xs
unfolding total
passed w true x xs = refl
passed w false x xs = omega arith

passes : {A : Type 0} (p : A → Bool) (w : A → ℕ) (b : Bool) (x : A) (xs : List A) → total w (filter p (cond b (x ∷ xs) xs)) ≡ cond b (cond (p x) (w x) 0) 0 + total w (filter p xs)
passes p w true x xs = passed w (p x) x (filter p xs)
passes p w false x xs = omega arith

passes-two : {A : Type 0} (p q : A → Bool) (w : A → ℕ) (b : Bool) (x : A) (xs : List A)
    → total w (filter p (filter q (cond b (x ∷ xs) xs))) ≡ cond b (cond (q x) (cond (p x) (w x) 0) 0) 0 + total w (filter p (filter q xs))
passes-two p q w true x xs = passes p w (q x) x (filter q xs)
passes-two p q w false x xs = omega arith

-- what a session makes that the connection controls, and what one that it keeps open
of_controlled : Trail → SessId → ℕ
of_controlled t s = 1 + 2 * length (taken_devices t s)

of_kept : Trail → SessId → ℕ
of_kept t s = 4 + 2 * length (taken_devices t s)

controlled-sum : (t : Trail) (ss : List SessId) → total (of_controlled t) ss ≡ length ss + 2 * taken_by t ss
unfolding total taken_by of_controlled
controlled-sum t [] = omega arith
controlled-sum t (s ∷ ss) = (let r = controlled-sum t ss in omega arith)

kept-sum : (t : Trail) (ss : List SessId) → total (of_kept t) ss ≡ 4 * length ss + 2 * taken_by t ss
unfolding total taken_by of_kept
kept-sum t [] = omega arith
kept-sum t (s ∷ ss) = (let r = kept-sum t ss in omega arith)

two-parts : (there : Bool) (n m : ℕ) → cond there (n + m) 0 ≡ cond there n 0 + cond there m 0
two-parts true n m = refl
two-parts false n m = refl

charge-parts : (t : Trail) (c : ConnId) (s : SessId) → Fifos t
    → charge t c s ≡ cond (is_session t s) (cond (controls t c s) (of_controlled t s) 0) 0 + cond (is_session t s) (cond (is_open t s) (cond (owns_fifo t c s) (of_kept t s) 0) 0) 0
unfolding of_controlled of_kept
charge-parts t c s fifos =
    let one = due-controller (value t (key.Ctl s)) (of_controlled t s) c in
    let other = due-keeper t c s (of_kept t s) fifos in
    (λ i. cond (is_session t s) (one i + other i) 0)
    ∙ two-parts (is_session t s) (cond (controls t c s) (of_controlled t s) 0) (cond (is_open t s) (cond (owns_fifo t c s) (of_kept t s) 0) 0)

charges : (t : Trail) (c : ConnId) → Fifos t → (ss : List SessId) → total (charge t c) ss
    ≡ total (of_controlled t) (filter (controls t c) (filter (is_session t) ss)) + total (of_kept t) (filter (owns_fifo t c) (filter (is_open t) (filter (is_session t) ss)))
unfolding total
charges t c fifos [] = refl
charges t c fifos (s ∷ ss) =
    let one = charge-parts t c s fifos in
    let ruled = passes (controls t c) (of_controlled t) (is_session t s) s (filter (is_session t) ss) in
    let kept = passes-two (owns_fifo t c) (is_open t) (of_kept t) (is_session t s) s (filter (is_session t) ss) in
    let rest = charges t c fifos ss in
    omega arith

pub owed-share : (t : Trail) (c : ConnId) → Fifos t → share c t ≡ 1 + owed t c + switch_share c t
unfolding owed share controlled_by kept_open_by open_sessions sessions
owed-share t c fifos =
    let all = names session_lt session_in t in
    let sum = sum-total (charge t c) all in
    let parts = charges t c fifos all in
    let ruled = controlled-sum t (filter (controls t c) (filter (is_session t) all)) in
    let kept = kept-sum t (filter (owns_fifo t c) (filter (is_open t) (filter (is_session t) all))) in
    omega arith
