-- Laws of the lines of a text.
use Rattle.std.proofs.Common.{◌≡◌, ℕ, ◌+◌, ◌≤◌, List, [], ◌∷◌, ◌++◌, length, refl, arith, ap, sym, ◌∙◌, Bool, true, false, eqb, cond, ◌&&◌}
use Rattle.bus_auth.specs.Cutting.{Lines, Whole, Open, is_line_end, before, cut, without_cr}

opened : (b c : ℕ) (bs line : List ℕ) (t : Bool) (rest : Lines)
    → cond t (Whole [] bs (cut bs)) (before b rest) ≡ Open line
    → ((l : List ℕ) → rest ≡ Open l → l ≡ c ∷ bs) → line ≡ b ∷ c ∷ bs
opened b c bs line true rest e ih = cc
opened b c bs line false (Whole l k m) e ih = cc
opened b c bs line false (Open l) e ih = let h = ih l refl in cc

-- a text that is one open line is that line
pub open_same : (text line : List ℕ) → cut text ≡ Open line → line ≡ text
open_same [] line e = cc
open_same (b ∷ []) line e = cc
open_same (b ∷ c ∷ bs) line e = opened b c bs line (is_line_end b c) (cut (c ∷ bs)) e (open_same (c ∷ bs))

-- lines, and more bytes at their end
abbrev pub graft : Lines → List ℕ → Lines
graft (Whole line behind lines) more = Whole line (behind ++ more) (graft lines more)
graft (Open line) more = cut (line ++ more)

grafted : (b c : ℕ) (bs more : List ℕ) (t : Bool) (rest : Lines) → is_line_end b c ≡ t → rest ≡ cut (c ∷ bs)
    → cut (bs ++ more) ≡ graft (cut bs) more → cut (c ∷ (bs ++ more)) ≡ graft rest more
    → cond t (Whole [] (bs ++ more) (cut (bs ++ more))) (before b (cut (c ∷ (bs ++ more))))
    ≡ graft (cond t (Whole [] bs (cut bs)) (before b rest)) more
grafted b c bs more true rest e is first second = ap (Whole [] (bs ++ more)) first
grafted b c bs more false (Whole l k m) e is first second = ap (before b) second
grafted b c bs more false (Open l) e is first second =
    let same : l ≡ c ∷ bs = open_same (c ∷ bs) l (sym is) in
    rw (same, e) refl

-- the lines of a text and more bytes
pub cut-append : (text more : List ℕ) → cut (text ++ more) ≡ graft (cut text) more
cut-append [] more = refl
cut-append (b ∷ []) more = refl
cut-append (b ∷ c ∷ bs) more =
    grafted b c bs more (is_line_end b c) (cut (c ∷ bs)) refl refl (cut-append bs more) (cut-append (c ∷ bs) more)

-- the line behind all whole lines is open
abbrev pub HasOpenEnd : Lines → Type 0
HasOpenEnd (Whole line behind lines) = HasOpenEnd lines
HasOpenEnd (Open line) = cut line ≡ Open line

open_end : (b c : ℕ) (bs : List ℕ) (t : Bool) (rest : Lines) → is_line_end b c ≡ t → rest ≡ cut (c ∷ bs)
    → HasOpenEnd (cut bs) → HasOpenEnd rest → HasOpenEnd (cond t (Whole [] bs (cut bs)) (before b rest))
open_end b c bs true rest e is first second = first
open_end b c bs false (Whole l k m) e is first second = second
open_end b c bs false (Open l) e is first second =
    let same : l ≡ c ∷ bs = open_same (c ∷ bs) l (sym is) in
    let whole : cut (c ∷ bs) ≡ Open (c ∷ bs) = sym is ∙ ap Open same in
    rw (same, e, whole) refl

pub HasOpenEnd-cut : (text : List ℕ) → HasOpenEnd (cut text)
HasOpenEnd-cut [] = refl
HasOpenEnd-cut (b ∷ []) = refl
HasOpenEnd-cut (b ∷ c ∷ bs) =
    open_end b c bs (is_line_end b c) (cut (c ∷ bs)) refl refl (HasOpenEnd-cut bs) (HasOpenEnd-cut (c ∷ bs))

-- what an open line says of its bytes behind the first
record IsOpenBehind (b c : ℕ) (bs : List ℕ) : Type 0 where
  no_end : is_line_end b c ≡ false
  behind : cut (c ∷ bs) ≡ Open (c ∷ bs)

behind_by : (b c : ℕ) (bs : List ℕ) (t : Bool) (rest : Lines) → is_line_end b c ≡ t → cut (c ∷ bs) ≡ rest
    → cond t (Whole [] bs (cut bs)) (before b rest) ≡ Open (b ∷ c ∷ bs) → IsOpenBehind b c bs
behind_by b c bs true rest e is h = cc
behind_by b c bs false (Whole l k m) e is h = cc
behind_by b c bs false (Open l) e is h =
    let same : l ≡ c ∷ bs = open_same (c ∷ bs) l is in
    record { no_end = e; behind = is ∙ ap Open same }

open_behind : (b c : ℕ) (bs : List ℕ) → cut (b ∷ c ∷ bs) ≡ Open (b ∷ c ∷ bs) → IsOpenBehind b c bs
open_behind b c bs h = behind_by b c bs (is_line_end b c) (cut (c ∷ bs)) refl refl h

-- a byte that ends no line leaves a line open
pub open-push : (xs : List ℕ) (a b : ℕ) → cut (xs ++ a ∷ []) ≡ Open (xs ++ a ∷ []) → is_line_end a b ≡ false
    → cut (xs ++ a ∷ b ∷ []) ≡ Open (xs ++ a ∷ b ∷ [])
open-push [] a b h plain = rw plain refl
open-push (x ∷ []) a b h plain =
    let k = open_behind x a [] h in
    let rest : cut (a ∷ b ∷ []) ≡ Open (a ∷ b ∷ []) = open-push [] a b k.behind plain in
    rw k.no_end (ap (before x) rest)
open-push (x ∷ y ∷ ys) a b h plain =
    let k = open_behind x y (ys ++ a ∷ []) h in
    rw k.no_end (ap (before x) (open-push (y ∷ ys) a b k.behind plain))

-- a CR and a LF end a line
pub cut-line : (xs rest : List ℕ) → cut (xs ++ 13 ∷ []) ≡ Open (xs ++ 13 ∷ [])
    → cut (xs ++ 13 ∷ 10 ∷ rest) ≡ Whole xs rest (cut rest)
cut-line [] rest h = refl
cut-line (x ∷ []) rest h =
    let k = open_behind x 13 [] h in
    rw k.no_end refl
cut-line (x ∷ y ∷ ys) rest h =
    let k = open_behind x y (ys ++ 13 ∷ []) h in
    rw k.no_end (ap (before x) (cut-line (y ∷ ys) rest k.behind))

-- how many bytes the first line has before its CR LF, at least, whatever follows
abbrev pub least : Lines → ℕ
least (Whole line behind more) = length line
least (Open line) = length (without_cr line)

before_by : (b c : ℕ) (bs : List ℕ) (rest : Lines) → cut (c ∷ bs) ≡ rest → least (before b rest) ≡ least rest + 1
before_by b c bs (Whole l k m) is = omega arith
before_by b c bs (Open l) is =
    let same : l ≡ c ∷ bs = open_same (c ∷ bs) l is in
    rw same (omega arith)

least-before : (b c : ℕ) (bs : List ℕ) → least (before b (cut (c ∷ bs))) ≡ least (cut (c ∷ bs)) + 1
least-before b c bs = before_by b c bs (cut (c ∷ bs)) refl

one_byte : (b c : ℕ) (cs : List ℕ) (s t : Bool)
    → length (cond s [] (b ∷ [])) ≤ least (cond (s && t) (Whole [] cs (cut cs)) (before b (cut (c ∷ cs))))
one_byte b c cs true t = omega arith
one_byte b c cs false t = let e = least-before b c cs in omega arith

-- a line only grows
pub least-longer : (text more : List ℕ) → cut text ≡ Open text → length (without_cr text) ≤ least (cut (text ++ more))
least-longer [] more h = omega arith
least-longer (b ∷ []) [] h = omega arith
least-longer (b ∷ []) (c ∷ cs) h = one_byte b c cs (eqb b 13) (eqb c 10)
least-longer (b ∷ c ∷ bs) more h =
    let k = open_behind b c bs h in
    let shorter = least-longer (c ∷ bs) more k.behind in
    let e = least-before b c (bs ++ more) in
    rw k.no_end (omega (arith, shorter, e))
