use Rattle.std.proofs.Common.{◌≡◌, true, sym, ◌∙◌, rules}
use Rattle.device_model.specs.Ears.{heard_of}
use Rattle.login_model.specs.Devices.{is_live}
use Rattle.login_facts.proofs.Listening.{not-heard, ring-spare}
use Rattle.login_facts.proofs.hearing.begin_hearing.Goals as goal

pub listen-requires-clause-spare : goal.listen-requires-clause-spare
listen-requires-clause-spare c =
    let h = c.args.handle in
    let devices = c.args.devices.now in
    let t = c.args.takes.now.trail in
    let live : is_live t h ≡ true = search rules in
    ring-spare devices.ears devices.rings t h c.requires.enough c.listens.ensures.once c.requires.live
    (not-heard (heard_of devices.ears h) (sym c.listens.ensures.value ∙ c.if-listens.false)) live
