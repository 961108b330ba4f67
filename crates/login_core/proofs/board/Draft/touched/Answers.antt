use Rattle.std.proofs.Common.{◌≡◌, ◌∙◌, ◌∷◌, [], Option, List, ap}
use Rattle.login_base.specs.declared.ids.ConnId.{ConnId}
use Rattle.login_core.specs.inner.Concerning.{controller_of, fifo_owner_of, is_named}
use Rattle.login_core.proofs.ConcernLaws.{listed, touched-is}
use Rattle.login_core.proofs.board.Draft.touched.Goals as goal

pub returns : goal.returns
returns c = λ who.
    let t = c.args.self.now.trail in
    let e = c.args.event.now in
    let controller = c.controller_of.ensures ∙ ap (controller_of t) c.source-source.ensures in
    let owner = c.fifo_owner_of.ensures ∙ ap (fifo_owner_of t) c.source-source.ensures in
    let all : List (Option ConnId) = c.caller.result ∷ c.controller_of.result ∷ c.fifo_owner_of.result ∷ [] in
    let is : all ≡ listed t e = (λ i. c.caller.ensures i ∷ controller i ∷ owner i ∷ []) in
    ap (is_named who) is ∙ touched-is t e who
