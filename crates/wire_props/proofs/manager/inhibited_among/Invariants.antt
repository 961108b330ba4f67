use Rattle.std.proofs.Common.{◌≡◌, drop}
use Rattle.login_model.specs.Properties.{either_inhibited, inhibited_among}
use Rattle.wire_props.proofs.manager.inhibited_among.Given as goal

-- those so far, and the rest
abbrev pub invariant-loop-lock : goal.invariant-loop-lock
invariant-loop-lock g l =
    let t = g.F.Look.trail l.facts in
    either_inhibited l.inhibited (inhibited_among t l.mode (drop l.lock-index l.locks)) ≡ inhibited_among t l.mode l.locks
