use Rattle.std.proofs.Common.{ℕ, List, ◌≡◌, ◌++◌, ◌-◌, length, drop, replicate, refl}
use Rattle.std.proofs.lemmas.List.{drop-replicate}
use Rattle.login_base.proofs.seat_name.padded.Goals as goal

zeros_behind : (front text : List ℕ) → front ≡ text → front ++ drop (length text) (replicate 255 0) ≡ text ++ replicate (255 - length text) 0
zeros_behind front text same = rw (same, drop-replicate) refl

pub returns : goal.returns
returns c = zeros_behind c.copy_from_slice.new.self c.args.text.now c.copy_from_slice.ensures.after
