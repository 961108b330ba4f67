use Rattle.std.proofs.Common.{◌∙◌, ap}
use Rattle.login_base.specs.declared.ids.HandleNo.{HandleNo}
use Rattle.login_model.specs.Taking.{take_device}
use Rattle.login_core.specs.inner.Draft.{with_trail}
use Rattle.login_core.proofs.board.Draft.take_device.Goals as goal

pub returns : goal.returns
returns c =
    let t = c.args.self.now.trail in
    record {
      marked = c.take_with.ensures.marked
          ∙ ap (with_trail c.args.self.now) (ap (λ (h : HandleNo). take_device c.args.who c.args.session c.args.device h t) c.fresh_handle-handle.ensures);
    }
