use Rattle.std.proofs.Common.{arith, append-nil, sym, refl}
use Rattle.recording.specs.Hex.{spell_hex}
use Rattle.recording.proofs.HexPieces.{pair_more}
use Rattle.recording.proofs.due.push_hex.Goals as goal

pub loop-byte-init : goal.loop-byte-init
unfolding spell_hex
loop-byte-init c = record { items = sym (append-nil c.args.text.now.items); len = omega arith; capacity = refl }

pub loop-byte-preserved : goal.loop-byte-preserved
loop-byte-preserved c = record {
  items = rw (c.push_reserved-in-loop-byte.ensures.items, c.push_reserved.ensures.items, c.hex_digit.ensures, c.hex_digit-in-loop-byte.ensures, c.loop-byte.invariant.items)
      (pair_more c.args.text.now.items c.args.bytes.now c.loop-byte.byte-index (omega arith));
  len = omega arith;
  capacity = omega arith;
}
