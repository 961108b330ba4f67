use Rattle.std.proofs.Common.{◌≡◌, ◌-◌, ◌≤◌, length, take, true}
use Rattle.simdutf8.specs.Tracks.{HasRead}
use Rattle.login_base.specs.Texts.{has_no_zero}
use Rattle.bus_value.proofs.reader.texts.is_text_by_blocks.Given as goal

abbrev pub invariant-loop-at : goal.invariant-loop-at
invariant-loop-at l = (l.at ≤ length l.text) × HasRead l.checker (take l.at l.text) × (has_no_zero (take l.at l.text) ≡ true)

abbrev pub decreases-loop-at : goal.decreases-loop-at
decreases-loop-at l = length l.text - l.at
