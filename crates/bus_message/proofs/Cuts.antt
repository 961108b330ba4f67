-- A stream is cut at its front, and then from there on.
use Rattle.std.proofs.Common.{◌≡◌, ℕ, zero, suc, ◌+◌, ◌-◌, ◌<◌, ◌≤◌, List, [], ◌∷◌, ◌++◌, length, length-append, length-drop, take, drop, Bool, true, false, ltb, Option, Some, None, Result, Ok, Err, refl, ap, sym, ◌∙◌, inl, inr, ◌⊎◌, arith}
use Rattle.std.proofs.lemmas.List.{take-append-le, drop-append-le}
use Rattle.std.proofs.lemmas.Bool.Decides.{nat_tests}
use Rattle.bus_message.specs.declared.fault.Fault.{Fault}
use Rattle.bus_message.specs.declared.fault.Malformed.{Malformed}
use Rattle.bus_message.specs.declared.header.Header.{Header}
use Rattle.bus_message.specs.declared.message.Message.{Message}
use Rattle.bus_message.specs.Headers.{size, header_of}
use Rattle.bus_message.specs.Reading.{message_of}
use Rattle.bus_message.specs.Cutting.{Showing, Open, Bad, Whole, front_read, front_by, front, Cutting, open_at, bad_at, behind, go_on, cut_from}
use Rattle.bus_message.specs.inner.Outcomes.{before, cut_at}

-- a test of two numbers, and what it says
tested : {A : Type 0} (m n : ℕ) → (m < n → A) → (n ≤ m → A) → A
tested {A = A} m n f g = by (ltb m n) refl
  where
    by : (t : Bool) → ltb m n ≡ t → A
    by true e = f (grind (arith, nat_tests))
    by false e = g (grind (arith, nat_tests))

-- what is known of a front that is whole
pub record IsWholeAt (bytes : List ℕ) (count : ℕ) (m : Message) : Type 0 where
  pub header : Header
  pub enough : 16 ≤ length bytes
  pub says : header_of (take 16 bytes) ≡ Ok header
  pub count_is : count ≡ size header
  pub within : size header ≤ length bytes
  pub reads : message_of header (take (size header) bytes) ≡ Ok m

less_true : (m n : ℕ) → m < n → ltb m n ≡ true
less_true m n h = grind (arith, nat_tests)

less_false : (m n : ℕ) → n ≤ m → ltb m n ≡ false
less_false m n h = grind (arith, nat_tests)

pub front-short : (bytes : List ℕ) → length bytes < 16 → front bytes ≡ Open
unfolding front
front-short bytes h = rw (less_true _ _ h) refl

pub front-by : (bytes : List ℕ) → 16 ≤ length bytes → front bytes ≡ front_by bytes (header_of (take 16 bytes))
unfolding front
front-by bytes h = rw (less_false _ _ h) refl

pub by-short : (bytes : List ℕ) (h : Header) → length bytes < size h → front_by bytes (Ok h) ≡ Open
by-short bytes h less = rw (less_true _ _ less) refl

pub by-long : (bytes : List ℕ) (h : Header) → size h ≤ length bytes → front_by bytes (Ok h) ≡ front_read (size h) (message_of h (take (size h) bytes))
by-long bytes h less = rw (less_false _ _ less) refl

read_whole : (k n : ℕ) (m : Message) (r : Result Message Fault) → front_read k r ≡ Whole n m → (n ≡ k) × (r ≡ Ok m)
read_whole k n m (Ok x) e = (cc, cc)
read_whole k n m (Err x) e = absurd (let k : ⊥ = cc in k)

whole_by : (bytes : List ℕ) (n : ℕ) (m : Message) (r : Result Header Fault) → 16 ≤ length bytes → header_of (take 16 bytes) ≡ r → front_by bytes r ≡ Whole n m → IsWholeAt bytes n m
whole_by bytes n m (Err x) enough is e = absurd (let k : ⊥ = cc in k)
whole_by bytes n m (Ok h) enough is e =
    tested (length bytes) (size h)
    (λ less. let short = by-short bytes h less in absurd (let k : ⊥ = cc in k))
    (λ less. let r = read_whole (size h) n m (message_of h (take (size h) bytes)) (sym (by-long bytes h less) ∙ e) in
    record { header = h; enough = enough; says = is; count_is = r.0; within = less; reads = r.1 })

pub front_whole : (bytes : List ℕ) (n : ℕ) (m : Message) → front bytes ≡ Whole n m → IsWholeAt bytes n m
front_whole bytes n m e =
    tested (length bytes) 16
    (λ less. let short = front-short bytes less in absurd (let k : ⊥ = cc in k))
    (λ less. whole_by bytes n m (header_of (take 16 bytes)) less refl (sym (front-by bytes less) ∙ e))

pub whole_front : (bytes : List ℕ) (n : ℕ) (m : Message) → IsWholeAt bytes n m → front bytes ≡ Whole n m
whole_front bytes n m w =
    front-by bytes w.enough ∙ ap (front_by bytes) w.says ∙ by-long bytes w.header w.within
    ∙ ap (front_read (size w.header)) w.reads ∙ ap (λ (k : ℕ). Whole k m) (sym w.count_is)

-- a whole message has the bytes of its header at least
pub size_least : (h : Header) → 16 ≤ size h
size_least h = omega arith

pub count_least : (bytes : List ℕ) (n : ℕ) (m : Message) → front bytes ≡ Whole n m → (16 ≤ n) × (n ≤ length bytes)
count_least bytes n m e =
    let w = front_whole bytes n m e in
    let l = size_least w.header in (omega (arith, w.count_is, l), omega (arith, w.count_is, w.within))

appended_by : (bytes more : List ℕ) (r : Result Header Fault) → (front_by bytes r ≡ Open) ⊎ (front_by (bytes ++ more) r ≡ front_by bytes r)
appended_by bytes more (Err e) = inr refl
appended_by bytes more (Ok h) =
    tested (length bytes) (size h)
    (λ less. inl (by-short bytes h less))
    (λ less. inr (
    by-long (bytes ++ more) h (omega (arith, less, length-append bytes more))
    ∙ ap (λ (x : List ℕ). front_read (size h) (message_of h x)) (take-append-le (size h) bytes more less)
    ∙ sym (by-long bytes h less)))

-- what a front shows, it shows with more bytes behind it
pub front-append : (bytes more : List ℕ) → (front bytes ≡ Open) ⊎ (front (bytes ++ more) ≡ front bytes)
front-append bytes more =
    tested (length bytes) 16
    (λ less. inl (front-short bytes less))
    (λ less. elim (appended_by bytes more (header_of (take 16 bytes))) [
      | inl e ↦ inl (front-by bytes less ∙ e)
      | inr e ↦ inr (front-by (bytes ++ more) (omega (arith, less, length-append bytes more))
          ∙ ap (λ (x : List ℕ). front_by (bytes ++ more) (header_of x)) (take-append-le 16 bytes more less)
          ∙ e ∙ sym (front-by bytes less))
    ])

go_on_same : (place : ℕ) (bytes : List ℕ) (f : Showing) (g h : ℕ → List ℕ → Cutting)
    → ((n : ℕ) (m : Message) → f ≡ Whole n m → g (place + n) (drop n bytes) ≡ h (place + n) (drop n bytes))
    → go_on place bytes f g ≡ go_on place bytes f h
go_on_same place bytes Open g h same = refl
go_on_same place bytes (Bad e) g h same = refl
go_on_same place bytes (Whole n m) g h same = ap (behind m) (same n m refl)

-- the first number does not count, once it is as much as the bytes are
enough : (j k place : ℕ) (bytes : List ℕ) → length bytes ≤ j → length bytes ≤ k → cut_from j place bytes ≡ cut_from k place bytes
unfolding cut_from front
enough zero zero place bytes a b = refl
enough zero (suc k) place [] a b = refl
enough zero (suc k) place (x ∷ bytes) a b = absurd (omega arith)
enough (suc j) zero place [] a b = refl
enough (suc j) zero place (x ∷ bytes) a b = absurd (omega arith)
enough (suc j) (suc k) place bytes a b =
    go_on_same place bytes (front bytes) (cut_from j) (cut_from k) (λ n m e.
    let c = count_least bytes n m e in
    let l : length (drop n bytes) ≡ length bytes - n = length-drop n bytes in
    enough j k (place + n) (drop n bytes) (omega (arith, l, c.0, a)) (omega (arith, l, c.0, b)))

unfolded : (k place : ℕ) (bytes : List ℕ) → cut_from (suc k) place bytes ≡ go_on place bytes (front bytes) (cut_from k)
unfolding cut_from
unfolded k place bytes = refl

-- what the front shows, and then the bytes behind it
pub cut_step : (place : ℕ) (bytes : List ℕ) → cut_at place bytes ≡ go_on place bytes (front bytes) cut_at
cut_step place bytes =
    enough (length bytes) (suc (length bytes)) place bytes (omega arith) (omega arith) ∙ unfolded (length bytes) place bytes
    ∙ go_on_same place bytes (front bytes) (cut_from (length bytes)) cut_at (λ n m e.
    let l : length (drop n bytes) ≡ length bytes - n = length-drop n bytes in
    enough (length bytes) (length (drop n bytes)) (place + n) (drop n bytes) (omega (arith, l)) (omega arith))

pub cut_open : (place : ℕ) (bytes : List ℕ) → front bytes ≡ Open → cut_at place bytes ≡ open_at place bytes
cut_open place bytes e = cut_step place bytes ∙ ap (λ (f : Showing). go_on place bytes f cut_at) e

pub cut_bad : (place : ℕ) (bytes : List ℕ) (x : Fault) → front bytes ≡ Bad x → cut_at place bytes ≡ bad_at place x
cut_bad place bytes x e = cut_step place bytes ∙ ap (λ (f : Showing). go_on place bytes f cut_at) e

pub cut_whole : (place : ℕ) (bytes : List ℕ) (n : ℕ) (m : Message) → front bytes ≡ Whole n m
    → cut_at place bytes ≡ behind m (cut_at (place + n) (drop n bytes))
cut_whole place bytes n m e = cut_step place bytes ∙ ap (λ (f : Showing). go_on place bytes f cut_at) e

-- a stream that was cut, and then more bytes
abbrev pub onward : Option Malformed → Cutting → List ℕ → Cutting
onward None c more = cut_at c.place (c.rest ++ more)
onward (Some x) c more = record c { messages = [] }

abbrev pub resume : Cutting → List ℕ → Cutting
resume c more = before c.messages (onward c.malformed c more)

-- a message in front changes nothing behind it
onward_behind : (x : Option Malformed) (m : Message) (c : Cutting) (more : List ℕ) → onward x (behind m c) more ≡ onward x c more
onward_behind None m c more = refl
onward_behind (Some x) m c more = refl

resume_behind : (m : Message) (c : Cutting) (more : List ℕ) → behind m (resume c more) ≡ resume (behind m c) more
resume_behind m c more = ap (before (m ∷ c.messages)) (sym (onward_behind c.malformed m c more))

open_appended : (place : ℕ) (bytes more : List ℕ) → front bytes ≡ Open → cut_at place (bytes ++ more) ≡ resume (cut_at place bytes) more
open_appended place bytes more e = sym (ap (λ (c : Cutting). resume c more) (cut_open place bytes e))

front_appended : (place : ℕ) (bytes more : List ℕ) (f : Showing) → front bytes ≡ f → (front bytes ≡ Open) ⊎ (front (bytes ++ more) ≡ front bytes)
    → ((n : ℕ) (m : Message) → f ≡ Whole n m → cut_at (place + n) (drop n bytes ++ more) ≡ resume (cut_at (place + n) (drop n bytes)) more)
    → cut_at place (bytes ++ more) ≡ resume (cut_at place bytes) more
front_appended place bytes more f e (inl o) ih = open_appended place bytes more o
front_appended place bytes more Open e (inr same) ih = open_appended place bytes more e
front_appended place bytes more (Bad x) e (inr same) ih =
    cut_bad place (bytes ++ more) x (same ∙ e) ∙ sym (ap (λ (c : Cutting). resume c more) (cut_bad place bytes x e))
front_appended place bytes more (Whole n m) e (inr same) ih =
    let c = count_least bytes n m e in
    cut_whole place (bytes ++ more) n m (same ∙ e)
    ∙ ap (λ (x : List ℕ). behind m (cut_at (place + n) x)) (drop-append-le n bytes more c.1)
    ∙ ap (behind m) (ih n m refl)
    ∙ resume_behind m (cut_at (place + n) (drop n bytes)) more
    ∙ sym (ap (λ (c : Cutting). resume c more) (cut_whole place bytes n m e))

appended : (k place : ℕ) (bytes more : List ℕ) → length bytes ≤ k → cut_at place (bytes ++ more) ≡ resume (cut_at place bytes) more
appended zero place bytes more few =
    front_appended place bytes more (front bytes) refl (front-append bytes more) (λ n m e. absurd (let c = count_least bytes n m e in omega (arith, c.0, c.1, few)))
appended (suc k) place bytes more few =
    front_appended place bytes more (front bytes) refl (front-append bytes more) (λ n m e.
    let c = count_least bytes n m e in
    let l : length (drop n bytes) ≡ length bytes - n = length-drop n bytes in
    appended k (place + n) (drop n bytes) more (omega (arith, l, c.0, few)))

-- a stream and more bytes: what was cut, and what the bytes lead to from there on
pub cut-append : (place : ℕ) (bytes more : List ℕ) → cut_at place (bytes ++ more) ≡ resume (cut_at place bytes) more
cut-append place bytes more = appended (length bytes) place bytes more (omega arith)
