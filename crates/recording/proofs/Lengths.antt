-- How long spelled words are.
use Rattle.std.proofs.Common.{◌≡◌, ℕ, ℤ, pos, negsuc, suc, ◌+◌, ◌*◌, ◌≤◌, List, [], ◌∷◌, ◌++◌, length, length-append, refl, arith, Bool, true, false}
use Rattle.std.specs.Prelude.{FitsSigned}
use Rattle.std.specs.Fmt.{signed_decimal}
use Rattle.std.specs.Int.{w32}
use Rattle.std.specs.List.{join_with_byte, flat_map}
use Rattle.login_base.proofs.Decimals.{decimal_short}
use Rattle.login_model.specs.declared.operation.OpKind.{OpKind}
use Rattle.login_model.specs.declared.operation.OpKind.TheVariants as kind
use Rattle.login_model.specs.Texts.{IsText}
use Rattle.login_model.specs.Words.{operation_word}
use Rattle.recording.specs.Text.{stands, spell_byte, spell_text, spell_flag}
use Rattle.recording.specs.EventSpelling.{request_word}

-- the bytes of words, with one byte after each
abbrev pub size : List (List ℕ) → ℕ
size [] = 0
size (w ∷ ws) = length w + 1 + size ws

pub join_short : (ws : List (List ℕ)) → length (join_with_byte 32 ws) ≤ size ws
join_short [] = omega arith
join_short (w ∷ []) = omega arith
join_short (w ∷ v ∷ vs) = let h = join_short (v ∷ vs) in simp length-append (omega arith)

spell_byte_short : (b : ℕ) (rest : List ℕ) → length (spell_byte b ++ rest) ≤ 3 + length rest
spell_byte_short b rest = by (stands b) refl
  where
    by : (s : Bool) → stands b ≡ s → length (spell_byte b ++ rest) ≤ 3 + length rest
    by true e = rw e (omega arith)
    by false e = rw e (omega arith)

bytes_short : (bs : List ℕ) → length (flat_map spell_byte bs) ≤ 3 * length bs
bytes_short [] = omega arith
bytes_short (b ∷ bs) = let h = spell_byte_short b (flat_map spell_byte bs) in let k = bytes_short bs in omega arith

pub spell_text_short : (most : ℕ) (text : List ℕ) → IsText most text → length (spell_text text) ≤ 3 * most + 1
unfolding spell_text
spell_text_short most [] h = omega arith
spell_text_short most (b ∷ bs) h = let k = bytes_short (b ∷ bs) in let s = h.short in omega arith

pub spell_flag_short : (b : Bool) → length (spell_flag b) ≤ 5
spell_flag_short true = omega arith
spell_flag_short false = omega arith

pub request_word_short : (quiet : Bool) → length (request_word quiet) ≤ 4
request_word_short true = omega arith
request_word_short false = omega arith

pub operation_short : (k : OpKind) → length (operation_word k) ≤ 22
operation_short kind.PowerOff = omega arith
operation_short kind.Reboot = omega arith
operation_short kind.Halt = omega arith
operation_short kind.Suspend = omega arith
operation_short kind.Hibernate = omega arith
operation_short kind.HybridSleep = omega arith
operation_short kind.SuspendThenHibernate = omega arith

pub signed_short : (z : ℤ) → FitsSigned w32 z → length (signed_decimal z) ≤ 11
signed_short (pos n) h = let a = decimal_short n (omega (arith, h.sfits)) in omega arith
signed_short (negsuc n) h = let a = decimal_short (suc n) (omega (arith, h.sfits)) in omega arith
