-- What is left to a reader, while a line is gathered.
use Rattle.std.proofs.Common.{◌≡◌, ℕ, ◌+◌, ◌-◌, ◌<◌, ◌≤◌, List, [], ◌++◌, length, take, drop, Option, Some, None, refl, arith, ap, sym, ◌∙◌, append_assoc, append-nil, length-take, length-drop, length-take-le, length-append}
use Rattle.std.specs.Option.{option_map, IfSome}
use Rattle.std.proofs.lemmas.List.{take_all, take-append-drop, drop-drop, drop-take, drop_all}
use Rattle.recording.specs.Cut.{NoLineFeed, first_line}
use Rattle.recording.specs.inner.Filling.{IsFirst}
use Rattle.recording.proofs.Cuts.{first_line_whole}

-- a line, then what is held, then what is left
abbrev pub joined : List ℕ → List ℕ → Option (List ℕ) → Option (List ℕ)
joined line held left = option_map (λ rest. line ++ rest) (option_map (λ rest. held ++ rest) left)

pub joined-piece : (line piece held : List ℕ) (left : Option (List ℕ)) → joined line (piece ++ held) left ≡ joined (line ++ piece) held left
joined-piece line piece held None = refl
joined-piece line piece held (Some rest) = ap Some (simp append_assoc)

-- a piece goes from what is held to the line
pub joined-moves : (all old left : Option (List ℕ)) (line line' had held held' piece : List ℕ)
    → all ≡ joined line had old
    → option_map (λ rest. had ++ rest) old ≡ option_map (λ rest. held ++ rest) left
    → held ≡ piece ++ held' → line' ≡ line ++ piece
    → all ≡ joined line' held' left
joined-moves all old left line line' had held held' piece a b h l =
    rw l (a ∙ (ap (option_map (λ rest. line ++ rest)) b ∙ (ap (λ (t : List ℕ). joined line t left) h ∙ joined-piece line piece held' left)))

pub joined-first : (all left : Option (List ℕ)) (line held : List ℕ) → all ≡ joined line held left → IsFirst line
    → IfSome all (λ text. line ≡ take 16385 (first_line text))
joined-first all None line held e first = rw e tt
joined-first all (Some rest) line held e first = rw e (sym (first (held ++ rest)))

pub joined_to_end : (all left : Option (List ℕ)) (line held : List ℕ) → all ≡ joined line held left → held ≡ [] → IfSome left (λ rest. rest ≡ [])
    → IfSome all (λ text. text ≡ line)
joined_to_end all None line held e h none = rw e tt
joined_to_end all (Some rest) line held e h none = rw (e, h, none) (append-nil line)

pub IfSome-last : (all : Option (List ℕ)) (line : List ℕ) → NoLineFeed line → length line < 16385 → IfSome all (λ text. text ≡ line)
    → IfSome all (λ text. line ≡ take 16385 (first_line text))
IfSome-last None line front short h = tt
IfSome-last (Some text) line front short h = rw (h, first_line_whole line front, take_all 16385 line (omega arith)) refl

pub IfSome-nothing : (all : Option (List ℕ)) (line : List ℕ) → line ≡ [] → IfSome all (λ text. text ≡ line) → IfSome all (λ text. text ≡ [])
IfSome-nothing None line e h = tt
IfSome-nothing (Some text) line e h = h ∙ e

pub held-nothing : (chunk : List ℕ) (at end : ℕ) → at ≡ end → drop at (take end chunk) ≡ []
held-nothing chunk at end e = drop_all at (take end chunk) (omega (arith, length-take end chunk, e))

pub held-piece : (chunk same : List ℕ) (p q count : ℕ) → same ≡ chunk → p ≤ q
    → drop p (take q chunk) ≡ take count (take (q - p) (drop p same)) ++ drop (p + count) (take q chunk)
held-piece chunk same p q count s a =
    let e : p + (q - p) ≡ q = omega arith in
    let f : take (q - p) (drop p same) ≡ drop p (take q chunk) = rw s (sym (drop-take p (q - p) chunk) ∙ ap (λ (n : ℕ). drop p (take n chunk)) e) in
    rw (f, ← (drop-drop count p (take q chunk)), take-append-drop) refl

-- how much is held of a chunk
pub length-held : (chunk : List ℕ) (at end : ℕ) → end ≤ length chunk → length (drop at (take end chunk)) ≡ end - at
length-held chunk at end h = omega (arith, length-drop at (take end chunk), length-take-le end chunk h)

-- a line that a front of a piece was put behind
pub length-moved : (line line' piece : List ℕ) (count : ℕ) → line' ≡ line ++ take count piece → count ≤ length piece → length line' ≡ length line + count
length-moved line line' piece count e h = rw e (omega (arith, length-append line (take count piece), length-take-le count piece h))
