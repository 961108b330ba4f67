use Rattle.std.proofs.Common.{◌≡◌, ◌∙◌, ◌∷◌, [], ap, sym}
use Rattle.login_model.specs.Start.{seat0}
use Rattle.login_model.specs.Where.{active_on}
use Rattle.login_core.specs.inner.Concerning.{controller_of, fifo_owner_of, is_named}
use Rattle.login_core.proofs.ConcernLaws.{has-who, holders}
use Rattle.login_core.proofs.board.Draft.active_holders.Goals as goal

pub returns : goal.returns
returns c = λ who.
    let t = c.args.self.now.trail in
    let o = active_on t seat0 in
    let controller = c.controller_of.ensures ∙ ap (controller_of t) c.active-active.ensures in
    let owner = c.fifo_owner_of.ensures ∙ ap (fifo_owner_of t) c.active-active.ensures in
    let is : (c.controller_of.result ∷ c.fifo_owner_of.result ∷ []) ≡ holders t o = (λ i. controller i ∷ owner i ∷ []) in
    ap (is_named who) is ∙ sym (has-who t who o)
