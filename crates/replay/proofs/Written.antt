-- Laws of lines as they are written, and as they are read.
use Rattle.std.proofs.Common.{◌≡◌, ℕ, zero, suc, ◌≤◌, List, [], ◌∷◌, ◌++◌, length, take, codes, refl, arith, rules, ap, sym, ◌∙◌, subst, append_assoc, append-nil, Option, Some, None}
use Rattle.std.specs.Option.{option_map}
use Rattle.std.specs.List.{join_with_byte}
use Rattle.std.proofs.lemmas.Grind.{flat_map-append}
use Rattle.recording.specs.declared.line.Line.{Line}
use Rattle.recording.specs.Cut.{NoLineFeed, first_line, cut}
use Rattle.recording.proofs.Cuts.{cut_line, first_through_feed}
use Rattle.recording.specs.Limits.{line_room}
use Rattle.recording.specs.Lines.{Spells, IsWritten, IsLine, fields}
use Rattle.recording.specs.Meaning.{IsReadAs}
use Rattle.recording.proofs.Grammar.{reads_one}
use Rattle.recording.proofs.Spellings.{written_no_feed, read_IsLine}
use Rattle.replay.specs.Written.{AreReadAs, joined, Splits, WereRead}

-- the bytes of an object that tells them, and nothing of another
abbrev pub TextTold : Type 0
TextTold = Option (List ℕ)

-- a line has one line feed, at its end
pub record Fed (bytes : List ℕ) : Type 0 where
  pub text : List ℕ
  pub whole : bytes ≡ text ++ 10 ∷ []
  pub feedless : NoLineFeed text
  pub short : length bytes ≤ line_room

fed_spelled : (line : Line) (bytes : List ℕ) → Spells line bytes → IsWritten line → Fed bytes
fed_spelled line bytes (Spells.plain l short) w = record { text = join_with_byte 32 (fields l); whole = refl; feedless = written_no_feed l w; short = short }
fed_spelled line bytes Spells.empty w = record { text = codes "conf "; whole = refl; feedless = search rules; short = omega arith }

pub read_feed : (bytes : List ℕ) (line : Line) → IsReadAs bytes line → Fed bytes
read_feed bytes line r = fed_spelled r.written bytes r.spells r.fits

pub read_append : (a : List (List ℕ)) (ls : List Line) (b : List (List ℕ)) (ms : List Line) → AreReadAs a ls → AreReadAs b ms → AreReadAs (a ++ b) (ls ++ ms)
read_append [] [] b ms h k = k
read_append [] (l ∷ ls) b ms h k = absurd h
read_append (x ∷ a) [] b ms h k = absurd h
read_append (x ∷ a) (l ∷ ls) b ms h k = (h.0, read_append a ls b ms h.1 k)

pub read_length : (a : List (List ℕ)) (ls : List Line) → AreReadAs a ls → length a ≡ length ls
read_length [] [] h = refl
read_length [] (l ∷ ls) h = absurd h
read_length (x ∷ a) [] h = absurd h
read_length (x ∷ a) (l ∷ ls) h = omega (arith, read_length a ls h.1)

joined_append : (a b : List (List ℕ)) → joined (a ++ b) ≡ joined a ++ joined b
joined_append a b = flat_map-append (λ (bytes : List ℕ). bytes) a b

pub joined_more : (a b : List (List ℕ)) (rest : List ℕ) → joined a ++ (joined b ++ rest) ≡ joined (a ++ b) ++ rest
joined_more a b rest = sym (append_assoc (joined a) (joined b) rest) ∙ ap (λ (t : List ℕ). t ++ rest) (sym (joined_append a b))

-- what was read, and then more
pub read_on : (before : TextTold) (ls : List Line) (mid : TextTold) (ms : List Line) (left : TextTold) → WereRead before ls mid → WereRead mid ms left → WereRead before (ls ++ ms) left
read_on before ls mid ms None h k = record {
  written = h.written ++ k.written;
  are = read_append h.written ls k.written ms h.are k.are;
  split = h.split ∙ ap (option_map (λ rest. joined h.written ++ rest)) k.split;
}
read_on before ls mid ms (Some rest) h k = record {
  written = h.written ++ k.written;
  are = read_append h.written ls k.written ms h.are k.are;
  split = h.split ∙ (ap (option_map (λ rest. joined h.written ++ rest)) k.split ∙ ap Some (joined_more h.written k.written rest));
}

pub nothing_read : (all : TextTold) → WereRead all [] all
nothing_read None = record { written = []; are = tt; split = refl }
nothing_read (Some text) = record { written = []; are = tt; split = refl }

-- the lines of a text that begins with lines that are read
pub cut_joined : (a : List (List ℕ)) (ls : List Line) (rest : List ℕ) → AreReadAs a ls → cut (joined a ++ rest) ≡ a ++ cut rest
cut_joined [] [] rest h = refl
cut_joined [] (l ∷ ls) rest h = absurd h
cut_joined (x ∷ a) [] rest h = absurd h
cut_joined (x ∷ a) (l ∷ ls) rest h =
    let f = read_feed x l h.0 in
    let one : cut (x ++ (joined a ++ rest)) ≡ x ∷ cut (joined a ++ rest) = rw f.whole (cut_line f.text (joined a ++ rest) f.feedless) in
    ap cut (append_assoc x (joined a) rest) ∙ (one ∙ ap (λ (t : List (List ℕ)). x ∷ t) (cut_joined a ls rest h.1))

-- the first line of what begins with a line that is read
pub first_read : (x : List ℕ) (l : Line) (rest : List ℕ) → IsReadAs x l → first_line (x ++ rest) ≡ x
first_read x l rest h =
    let f = read_feed x l h in
    rw f.whole (first_through_feed f.text rest f.feedless)

-- a line that is read is not empty
pub read_some : (x : List ℕ) (l : Line) (rest : List ℕ) → IsReadAs x l → x ++ rest ≡ [] → ⊥
read_some x l rest h e =
    let f = read_feed x l h in
    let none : (f.text ++ 10 ∷ []) ++ rest ≡ [] = subst (λ (t : List ℕ). t ++ rest ≡ []) f.whole e in
    no_feed f.text rest none
  where
    no_feed : (t rest : List ℕ) → (t ++ 10 ∷ []) ++ rest ≡ [] → ⊥
    no_feed [] rest e = cc
    no_feed (b ∷ t) rest e = cc

-- one written line, by what it is
pub record One (text : List ℕ) (line : Line) (rest : List ℕ) : Type 0 where
  pub bytes : List ℕ
  pub read : IsReadAs bytes line
  pub split : text ≡ bytes ++ rest

one_by : (w : List (List ℕ)) (text : List ℕ) (line : Line) (rest : List ℕ) → AreReadAs w (line ∷ []) → text ≡ joined w ++ rest → One text line rest
one_by [] text line rest h e = absurd h
one_by (x ∷ []) text line rest h e = record { bytes = x; read = h.0; split = e ∙ ap (λ (t : List ℕ). t ++ rest) (append-nil x) }
one_by (x ∷ y ∷ w) text line rest h e = absurd h.1

pub one_line : (text : List ℕ) (line : Line) (rest : List ℕ) → Splits text (line ∷ []) rest → One text line rest
one_line text line rest s = one_by s.written text line rest s.are s.split

-- the first line is read as it
pub first_is_read : (text : List ℕ) (line : Line) (rest : List ℕ) → Splits text (line ∷ []) rest → IsReadAs (first_line text) line
first_is_read text line rest s =
    let o = one_line text line rest s in
    let first : first_line text ≡ o.bytes = ap first_line o.split ∙ first_read o.bytes line rest o.read in
    subst (λ (t : List ℕ). IsReadAs t line) (sym first) o.read

pub text_is_some : (text : List ℕ) (line : Line) (rest : List ℕ) → Splits text (line ∷ []) rest → text ≡ [] → ⊥
text_is_some text line rest s e = let o = one_line text line rest s in read_some o.bytes line rest o.read (sym o.split ∙ e)

-- what is told, at a text
pub told_split : (text : List ℕ) (ls : List Line) (rest : List ℕ) → WereRead (Some text) ls (Some rest) → Splits text ls rest
told_split text ls rest h = record { written = h.written; are = h.are; split = let e : Some text ≡ Some (joined h.written ++ rest) = h.split in cc }

-- what follows lines that are read
pub record Follows (ls rs : List Line) (behind : List (List ℕ)) : Type 0 where
  pub more : List Line
  pub is : rs ≡ ls ++ more
  pub read : AreReadAs behind (take 1 more)

-- lines that begin as these, and are read so far and one more, begin with these
pub read_apart : (a : List (List ℕ)) (ls rs : List Line) (behind : List (List ℕ)) → AreReadAs a ls → AreReadAs (a ++ behind) (take (suc (length ls)) rs) → Follows ls rs behind
read_apart [] [] rs behind h k = record { more = rs; is = refl; read = k }
read_apart [] (l ∷ ls) rs behind h k = absurd h
read_apart (x ∷ a) [] rs behind h k = absurd h
read_apart (x ∷ a) (l ∷ ls) [] behind h k = absurd k
read_apart (x ∷ a) (l ∷ ls) (r ∷ rs) behind h k =
    let one : r ≡ l = reads_one x r l k.0 h.0 in
    let f = read_apart a ls rs behind h.1 k.1 in
    record { more = f.more; is = ap (λ (t : Line). t ∷ rs) one ∙ ap (λ (t : List Line). l ∷ t) f.is; read = f.read }

-- the first of lines that are read are read as the first
pub read_take : (n : ℕ) (a : List (List ℕ)) (ls : List Line) → AreReadAs a ls → AreReadAs (take n a) (take n ls)
read_take zero a ls h = tt
read_take (suc n) [] [] h = tt
read_take (suc n) [] (l ∷ ls) h = absurd h
read_take (suc n) (x ∷ a) [] h = absurd h
read_take (suc n) (x ∷ a) (l ∷ ls) h = (h.0, read_take n a ls h.1)

is_line_by : (w : List (List ℕ)) (l : Line) → AreReadAs w (l ∷ []) → IsLine l
is_line_by [] l h = absurd h
is_line_by (x ∷ w) l h = read_IsLine x l h.0

-- a line that is read is one of a recording
pub is_line : (before : TextTold) (l : Line) (mid : TextTold) → WereRead before (l ∷ []) mid → IsLine l
is_line before l mid r = is_line_by r.written l r.are
