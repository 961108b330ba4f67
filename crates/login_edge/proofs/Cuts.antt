-- Laws of talks that are kept as marks and bytes.
use Rattle.std.proofs.Common.{◌≡◌, ℕ, ◌+◌, ◌≤◌, List, [], ◌∷◌, ◌++◌, length, take, drop, refl, ap, sym, ◌∙◌, arith, length-drop, length-take-le, take-append-drop}
use Rattle.std.proofs.lemmas.List.{take-append-le, drop-append-le}
use mathlib.Core.List.{map}
use Rattle.login_edge.specs.Exchanges.{quiet, ended, heard_of, said_of, bytes_of}
use Rattle.login_edge.specs.Notes.{mark_of}
use Rattle.login_edge.specs.inner.Notes.{TalkState, talk_of, heard_by, said_by}
use Rattle.login_edge.specs.declared.talk.Mark.{Mark}
use Rattle.login_edge.specs.declared.talk.Mark.TheVariants as mark

pub heard_by-snoc : (ms : List Mark) (m : Mark) → heard_by (ms ++ m ∷ []) ≡ heard_by ms + heard_by (m ∷ [])
heard_by-snoc [] m = omega arith
heard_by-snoc (mark.Heard n ∷ ms) m = omega (arith, heard_by-snoc ms m)
heard_by-snoc (mark.Said n ∷ ms) m = heard_by-snoc ms m
heard_by-snoc (mark.Quiet ∷ ms) m = heard_by-snoc ms m
heard_by-snoc (mark.Ended ∷ ms) m = heard_by-snoc ms m

pub said_by-snoc : (ms : List Mark) (m : Mark) → said_by (ms ++ m ∷ []) ≡ said_by ms + said_by (m ∷ [])
said_by-snoc [] m = omega arith
said_by-snoc (mark.Heard n ∷ ms) m = said_by-snoc ms m
said_by-snoc (mark.Said n ∷ ms) m = omega (arith, said_by-snoc ms m)
said_by-snoc (mark.Quiet ∷ ms) m = said_by-snoc ms m
said_by-snoc (mark.Ended ∷ ms) m = said_by-snoc ms m

nothing : (xs : List ℕ) → 0 ≡ length xs → xs ≡ []
nothing [] e = refl
nothing (x ∷ xs) e = absurd (omega (arith, e))

-- one mark more, with its bytes
pub talk_of-snoc : (ms : List Mark) (h s : List ℕ) (m : Mark) (h' s' : List ℕ) → heard_by ms ≡ length h → said_by ms ≡ length s
    → talk_of (ms ++ m ∷ []) (h ++ h') (s ++ s') ≡ talk_of ms h s ++ talk_of (m ∷ []) h' s'
talk_of-snoc [] h s m h' s' e f = rw (nothing h e, nothing s f) refl
talk_of-snoc (mark.Heard n ∷ ms) h s m h' s' e f =
    let le : n ≤ length h = omega (arith, e) in
    rw (take-append-le n h h' le, drop-append-le n h h' le, talk_of-snoc ms (drop n h) s m h' s' (omega (arith, e, length-drop n h)) f) refl
talk_of-snoc (mark.Said n ∷ ms) h s m h' s' e f =
    let le : n ≤ length s = omega (arith, f) in
    rw (take-append-le n s s' le, drop-append-le n s s' le, talk_of-snoc ms h (drop n s) m h' s' e (omega (arith, f, length-drop n s))) refl
talk_of-snoc (mark.Quiet ∷ ms) h s m h' s' e f = ap (λ t. quiet ∷ t) (talk_of-snoc ms h s m h' s' e f)
talk_of-snoc (mark.Ended ∷ ms) h s m h' s' e f = ap (λ t. ended ∷ t) (talk_of-snoc ms h s m h' s' e f)

pub length-talk_of : (ms : List Mark) (h s : List ℕ) → length (talk_of ms h s) ≡ length ms
length-talk_of [] h s = refl
length-talk_of (mark.Heard n ∷ ms) h s = omega (arith, length-talk_of ms (drop n h) s)
length-talk_of (mark.Said n ∷ ms) h s = omega (arith, length-talk_of ms h (drop n s))
length-talk_of (mark.Quiet ∷ ms) h s = omega (arith, length-talk_of ms h s)
length-talk_of (mark.Ended ∷ ms) h s = omega (arith, length-talk_of ms h s)

pub heard_of-talk_of : (ms : List Mark) (h s : List ℕ) → heard_by ms ≡ length h → heard_of (talk_of ms h s) ≡ h
heard_of-talk_of [] h s e = sym (nothing h e)
heard_of-talk_of (mark.Heard n ∷ ms) h s e =
    ap (λ t. take n h ++ t) (heard_of-talk_of ms (drop n h) s (omega (arith, e, length-drop n h))) ∙ take-append-drop n h
heard_of-talk_of (mark.Said n ∷ ms) h s e = heard_of-talk_of ms h (drop n s) e
heard_of-talk_of (mark.Quiet ∷ ms) h s e = heard_of-talk_of ms h s e
heard_of-talk_of (mark.Ended ∷ ms) h s e = heard_of-talk_of ms h s e

pub said_of-talk_of : (ms : List Mark) (h s : List ℕ) → said_by ms ≡ length s → said_of (talk_of ms h s) ≡ s
said_of-talk_of [] h s e = sym (nothing s e)
said_of-talk_of (mark.Heard n ∷ ms) h s e = said_of-talk_of ms (drop n h) s e
said_of-talk_of (mark.Said n ∷ ms) h s e =
    ap (λ t. take n s ++ t) (said_of-talk_of ms h (drop n s) (omega (arith, e, length-drop n s))) ∙ take-append-drop n s
said_of-talk_of (mark.Quiet ∷ ms) h s e = said_of-talk_of ms h s e
said_of-talk_of (mark.Ended ∷ ms) h s e = said_of-talk_of ms h s e

pub marks-talk_of : (ms : List Mark) (h s : List ℕ) → heard_by ms ≡ length h → said_by ms ≡ length s → map mark_of (talk_of ms h s) ≡ ms
marks-talk_of [] h s e f = refl
marks-talk_of (mark.Heard n ∷ ms) h s e f =
    rw (length-take-le n h (omega (arith, e)), marks-talk_of ms (drop n h) s (omega (arith, e, length-drop n h)) f) refl
marks-talk_of (mark.Said n ∷ ms) h s e f =
    rw (length-take-le n s (omega (arith, f)), marks-talk_of ms h (drop n s) e (omega (arith, f, length-drop n s))) refl
marks-talk_of (mark.Quiet ∷ ms) h s e f = ap (λ t. mark.Quiet ∷ t) (marks-talk_of ms h s e f)
marks-talk_of (mark.Ended ∷ ms) h s e f = ap (λ t. mark.Ended ∷ t) (marks-talk_of ms h s e f)

-- how long a talk is, and how many bytes it has
pub record Sized (v : TalkState) (m h s most_bytes most_pieces : ℕ) : Type 0 where
  pub talk : length v.talk ≡ m
  pub size : bytes_of v.talk ≡ h + s
  pub bytes : most_bytes ≡ v.bytes
  pub pieces : most_pieces ≡ v.pieces

pub sized : (ms : List Mark) (h s : List ℕ) (bytes pieces : ℕ) (v : TalkState) → record { talk = talk_of ms h s; bytes = bytes; pieces = pieces } ≡ v
    → heard_by ms ≡ length h → said_by ms ≡ length s → Sized v (length ms) (length h) (length s) bytes pieces
sized ms h s bytes pieces v is e f = record {
  talk = ap (λ (t : TalkState). length t.talk) (sym is) ∙ length-talk_of ms h s;
  size = ap (λ (t : TalkState). bytes_of t.talk) (sym is)
      ∙ ap (λ (t : List ℕ). length t + length (said_of (talk_of ms h s))) (heard_of-talk_of ms h s e)
      ∙ ap (λ (t : List ℕ). length h + length t) (said_of-talk_of ms h s f);
  bytes = ap (λ (t : TalkState). t.bytes) is;
  pieces = ap (λ (t : TalkState). t.pieces) is;
}
