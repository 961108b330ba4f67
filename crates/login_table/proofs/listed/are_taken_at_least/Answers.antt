use Rattle.std.proofs.Common.{length, None}
use Rattle.login_model.specs.Devices.{taken_in, taken_devices}
use Rattle.login_model.specs.Facts.{is_handle_fact}
use Rattle.login_model.specs.Names.{device_lt}
use Rattle.login_model.specs.declared.fact.Key.TheVariants.{Taken}
use Rattle.login_model.proofs.NameLaws.{device_order, taken_keys}
use Rattle.login_table.proofs.Listing.{kind, all, count-start, count-next, count-few}
use Rattle.login_table.proofs.listed.are_taken_at_least.Goals as goal

pub loop-i-init : goal.loop-i-init
loop-i-init g c =
    let s = c.args.session in
    let k = kind device_lt device_order (taken_in s) (Taken s) is_handle_fact None (taken_keys s) in
    count-start k (g.F.Look.trail c.args.facts.now)

pub returns-in-None : goal.returns-in-None
unfolding taken_devices
returns-in-None g c =
    let t = g.F.Look.trail c.args.facts.now in
    let s = c.args.session in
    let k = kind device_lt device_order (taken_in s) (Taken s) is_handle_fact None (taken_keys s) in
    count-few k t (length (all k t)) c.loop-i.i c.args.least c.loop-i.above c.loop-i.invariant c.in-None.ensures c.loop-i-test.true

pub loop-i-preserved : goal.loop-i-preserved
loop-i-preserved g c =
    let t = g.F.Look.trail c.args.facts.now in
    let s = c.args.session in
    let k = kind device_lt device_order (taken_in s) (Taken s) is_handle_fact None (taken_keys s) in
    count-next k t (length (all k t)) c.loop-i.i c.loop-i.above c.in-Some.device c.loop-i.invariant c.in-Some.ensures
