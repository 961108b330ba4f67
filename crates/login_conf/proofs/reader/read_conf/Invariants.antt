use Rattle.std.proofs.Common.{◌+◌, ◌≤◌, [], length, eqb}
use Rattle.std.specs.Option.{option_map_or}
use Rattle.std.specs.List.{slice_split}
use Rattle.login_conf.specs.Reading.{conf_of, diagnostics_of}
use Rattle.login_conf.specs.inner.UnderWay.{IsRead}
use Rattle.login_conf.proofs.reader.read_conf.Given as goal

abbrev pub invariant-loop-rest : goal.invariant-loop-rest
invariant-loop-rest l =
    IsRead l.reader (option_map_or (λ text. slice_split (λ x. eqb x 10) text.now) l.rest []) (conf_of l.bytes) (diagnostics_of l.bytes)
    × (l.reader.number + option_map_or (λ text. length text.now + 1) l.rest 0 ≤ length l.bytes + 2)

abbrev pub decreases-loop-rest : goal.decreases-loop-rest
decreases-loop-rest l = option_map_or (λ text. length text.now + 1) l.rest 0
