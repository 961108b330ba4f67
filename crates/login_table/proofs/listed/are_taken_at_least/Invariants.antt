use Rattle.std.proofs.Common.{◌≡◌, ◌+◌, length, None}
use Rattle.login_model.specs.Devices.{taken_in}
use Rattle.login_model.specs.Facts.{is_handle_fact}
use Rattle.login_model.specs.Names.{device_lt}
use Rattle.login_model.specs.declared.fact.Key.TheVariants.{Taken}
use Rattle.login_table.specs.Listed.{listed}
use Rattle.login_table.proofs.Listing.{above_those}
use Rattle.login_table.proofs.listed.are_taken_at_least.Given as goal

-- those so far, and the rest
abbrev pub invariant-loop-i : goal.invariant-loop-i
invariant-loop-i g l =
    let t = g.F.Look.trail l.facts in
    length (listed device_lt (taken_in l.session) (Taken l.session) is_handle_fact None t)
    ≡ l.i + length (above_those device_lt (taken_in l.session) (Taken l.session) is_handle_fact None t l.above)
