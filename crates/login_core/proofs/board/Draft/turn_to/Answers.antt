use Rattle.std.proofs.Common.{◌∙◌, ℕ, ap, arith, Option}
use Rattle.login_model.specs.Procedure.{if_some}
use Rattle.login_laws.specs.Amounts.{amount}
use Rattle.login_core.specs.inner.Places.{turn_to_place}
use Rattle.login_core.specs.inner.Draft.{with_trail}
use Rattle.login_core.proofs.Turned.{turned}
use Rattle.login_core.proofs.board.Draft.turn_to.Goals as goal

pub turn_to_some-requires : goal.turn_to_some-requires
turn_to_some-requires c =
    let t = c.args.self.now.trail in
    let e = ap (λ (o : Option ℕ). if_some (turn_to_place c.args.seat) o t) c.next_place-place.ensures ∙ turned c.args.way c.args.seat t in
    record { room = λ r. (let n = ap (amount r) e in let h = c.requires.room r in omega arith) }

pub returns : goal.returns
returns c =
    let t = c.args.self.now.trail in
    record {
      marked = c.turn_to_some.ensures.marked
          ∙ ap (with_trail c.args.self.now) (ap (λ (o : Option ℕ). if_some (turn_to_place c.args.seat) o t) c.next_place-place.ensures
          ∙ turned c.args.way c.args.seat t);
    }
