-- Numbers that were not given out, after one more mark.
use Rattle.std.proofs.Common.{◌≡◌, ℕ, ◌+◌, ◌≤◌, Bool, true, false, cond, [], ◌∷◌, length, refl, sym, add-one, arith}
use Rattle.login_model.specs.declared.fact.Key.{Key}
use Rattle.login_model.specs.declared.fact.Key.TheVariants.{Sess, Owner, Lock}
use Rattle.login_model.specs.declared.fact.Fact.{Fact}
use Rattle.login_model.specs.declared.mark.Mark.TheVariants.{Set, Say}
use Rattle.login_model.specs.declared.mark.Whom.{Whom}
use Rattle.login_model.specs.declared.mark.Notice.{Notice}
use Rattle.login_model.specs.Trail.{Trail}
use Rattle.login_model.specs.Fresh.{fresh_session, fresh_handle, fresh_lock, is_open_fact, is_owned_fact}
use Rattle.login_model.specs.Facts.{is_lock_fact}
use Rattle.login_facts.specs.Counts.{counts_of}
use Rattle.login_facts.specs.Facts.{gives}

-- how many sessions a setting opens
abbrev pub opens : Key → Fact → ℕ
opens k x = (counts_of k x).opened

-- how many locks a setting makes stand
abbrev pub inhibits : Key → Fact → ℕ
inhibits k x = (counts_of k x).locks

one-more : (b : Bool) (n : ℕ) → cond b (n + 1) n ≡ n + cond b 1 0
one-more true n = refl
one-more false n = omega arith

none-more : (n : ℕ) → n ≡ n + 0
none-more n = omega arith

pub sessions-set : (k : Key) (x : Fact) (t : Trail) → fresh_session (Set k x ∷ t) ≡ fresh_session t + opens k x
unfolding fresh_session
sessions-set (Sess s) x t = one-more (is_open_fact x) (fresh_session t)
sessions-set _ x t = none-more (fresh_session t)

pub handles-set : (k : Key) (x : Fact) (t : Trail) → fresh_handle (Set k x ∷ t) ≡ fresh_handle t + gives k x
unfolding fresh_handle
handles-set (Owner h) x t = one-more (is_owned_fact x) (fresh_handle t)
handles-set _ x t = none-more (fresh_handle t)

pub locks-set : (k : Key) (x : Fact) (t : Trail) → fresh_lock (Set k x ∷ t) ≡ fresh_lock t + inhibits k x
unfolding fresh_lock
locks-set (Lock l) x t = one-more (is_lock_fact x) (fresh_lock t)
locks-set _ x t = none-more (fresh_lock t)

pub sessions-say : (w : Whom) (n : Notice) (t : Trail) → fresh_session (Say w n ∷ t) ≡ fresh_session t
unfolding fresh_session
sessions-say w n t = refl

pub handles-say : (w : Whom) (n : Notice) (t : Trail) → fresh_handle (Say w n ∷ t) ≡ fresh_handle t
unfolding fresh_handle
handles-say w n t = refl

pub locks-say : (w : Whom) (n : Notice) (t : Trail) → fresh_lock (Say w n ∷ t) ≡ fresh_lock t
unfolding fresh_lock
locks-say w n t = refl

pub sessions-none : fresh_session [] ≡ 1
unfolding fresh_session
sessions-none = refl

pub handles-none : fresh_handle [] ≡ 1
unfolding fresh_handle
handles-none = refl

pub locks-none : fresh_lock [] ≡ 1
unfolding fresh_lock
locks-none = refl

-- there are at most as many as marks, and one
bit : (b : Bool) → cond b 1 0 ≤ 1
bit true = omega arith
bit false = omega arith

none-set : 0 ≤ 1
none-set = omega arith

pub opens-bound : (k : Key) (x : Fact) → opens k x ≤ 1
opens-bound (Sess s) x = bit (is_open_fact x)
opens-bound _ x = none-set

pub gives-bound : (k : Key) (x : Fact) → gives k x ≤ 1
gives-bound (Owner h) x = bit (is_owned_fact x)
gives-bound _ x = none-set

pub inhibits-bound : (k : Key) (x : Fact) → inhibits k x ≤ 1
inhibits-bound (Lock l) x = bit (is_lock_fact x)
inhibits-bound _ x = none-set

pub sessions-bound : (t : Trail) → fresh_session t ≤ length t + 1
sessions-bound [] = let e = sessions-none in omega arith
sessions-bound (Set k x ∷ t) =
    let e = sessions-set k x t in
    let b = opens-bound k x in
    let h = sessions-bound t in
    let n : length (Set k x ∷ t) ≡ length t + 1 = sym (add-one (length t)) in
    omega arith
sessions-bound (Say w m ∷ t) =
    let e = sessions-say w m t in
    let h = sessions-bound t in
    let n : length (Say w m ∷ t) ≡ length t + 1 = sym (add-one (length t)) in
    omega arith

pub handles-bound : (t : Trail) → fresh_handle t ≤ length t + 1
handles-bound [] = let e = handles-none in omega arith
handles-bound (Set k x ∷ t) =
    let e = handles-set k x t in
    let b = gives-bound k x in
    let h = handles-bound t in
    let n : length (Set k x ∷ t) ≡ length t + 1 = sym (add-one (length t)) in
    omega arith
handles-bound (Say w m ∷ t) =
    let e = handles-say w m t in
    let h = handles-bound t in
    let n : length (Say w m ∷ t) ≡ length t + 1 = sym (add-one (length t)) in
    omega arith

pub locks-bound : (t : Trail) → fresh_lock t ≤ length t + 1
locks-bound [] = let e = locks-none in omega arith
locks-bound (Set k x ∷ t) =
    let e = locks-set k x t in
    let b = inhibits-bound k x in
    let h = locks-bound t in
    let n : length (Set k x ∷ t) ≡ length t + 1 = sym (add-one (length t)) in
    omega arith
locks-bound (Say w m ∷ t) =
    let e = locks-say w m t in
    let h = locks-bound t in
    let n : length (Say w m ∷ t) ≡ length t + 1 = sym (add-one (length t)) in
    omega arith
