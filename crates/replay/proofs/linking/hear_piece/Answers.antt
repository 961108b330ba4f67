use Rattle.std.proofs.Common.{refl, ap, subst}
use Rattle.std.proofs.lemmas.Result.{err_from_is_err_and}
use Rattle.recording.specs.declared.line.Line.TheVariants as line
use Rattle.replay.specs.inner.Player.{PlayerState}
use Rattle.replay.proofs.MadeLines.{nothing-made}
use Rattle.replay.proofs.PieceLines.{PieceHeard, heard-legal, heard-placed, piece-early, piece-made}
use Rattle.replay.proofs.linking.hear_piece.Goals as goal

pub make_heard-requires-clause-legal : goal.make_heard-requires-clause-legal
make_heard-requires-clause-legal g c =
    let heard = c.in_ok-replies.field-0 in
    let p = subst (λ (old : PlayerState). PieceHeard old c.hear.new.self c.args.who c.args.piece.now heard c.beginner-user.result c.is_some.result) c.player.view_is (record {
      hears = c.in_ok-replies.ensures.heard;
      keeps = c.in_ok-replies.ensures.link;
      others = c.hear.ensures.others;
      calls = c.in_ok-replies.ensures.calls;
      begins = c.beginner-user.ensures;
      ends = c.is_some.ensures;
    }) in
    let next = c.requires.next in
    heard-legal c.args.player.now c.hear.new.self next.played c.args.who c.args.piece.now heard c.beginner-user.result c.is_some.result next.behind next.line_is next.may_come c.requires.going p

pub make_heard-requires-clause-placed : goal.make_heard-requires-clause-placed
make_heard-requires-clause-placed g c =
    let heard = c.in_ok-replies.field-0 in
    let p = subst (λ (old : PlayerState). PieceHeard old c.hear.new.self c.args.who c.args.piece.now heard c.beginner-user.result c.is_some.result) c.player.view_is (record {
      hears = c.in_ok-replies.ensures.heard;
      keeps = c.in_ok-replies.ensures.link;
      others = c.hear.ensures.others;
      calls = c.in_ok-replies.ensures.calls;
      begins = c.beginner-user.ensures;
      ends = c.is_some.ensures;
    }) in
    let next = c.requires.next in
    heard-placed c.args.player.now c.hear.new.self next.played c.args.who c.args.piece.now heard c.beginner-user.result c.is_some.result next.behind next.line_is next.may_come c.requires.going p

pub returns-in_err-replies-clause-gives : goal.returns-in_err-replies-clause-gives
returns-in_err-replies-clause-gives g c = λ played s may.
    let p = err_from_is_err_and c.from_residual.result c.from_residual.ensures.1 in
    rw (p.1, p.2) (nothing-made c.args.player.now c.args.player.now played (line.In c.args.who c.args.piece.now) _ s)

pub returns-in_err-is_in-clause-gives : goal.returns-in_err-is_in-clause-gives
returns-in_err-is_in-clause-gives g c = λ played s may.
    let heard = c.in_ok-replies.field-0 in
    let p = subst (λ (old : PlayerState). PieceHeard old c.hear.new.self c.args.who c.args.piece.now heard c.beginner-user.result c.is_some.result) c.player.view_is (record {
      hears = c.in_ok-replies.ensures.heard;
      keeps = c.in_ok-replies.ensures.link;
      others = c.hear.ensures.others;
      calls = c.in_ok-replies.ensures.calls;
      begins = c.beginner-user.ensures;
      ends = c.is_some.ensures;
    }) in
    let e = err_from_is_err_and c.from_residual-in_err-is_in.result c.from_residual-in_err-is_in.ensures.1 in
    rw (e.1, e.2) (piece-early c.args.player.now c.hear.new.self played c.args.who c.args.piece.now heard c.beginner-user.result c.is_some.result s c.requires.next.line_is may c.requires.going p c.args.player.now c.make_heard.new.office _ _ _ c.in_err-is_in.ensures.gives)

pub returns-clause-gives : goal.returns-clause-gives
returns-clause-gives g c = λ played s may.
    let heard = c.in_ok-replies.field-0 in
    let p = subst (λ (old : PlayerState). PieceHeard old c.hear.new.self c.args.who c.args.piece.now heard c.beginner-user.result c.is_some.result) c.player.view_is (record {
      hears = c.in_ok-replies.ensures.heard;
      keeps = c.in_ok-replies.ensures.link;
      others = c.hear.ensures.others;
      calls = c.in_ok-replies.ensures.calls;
      begins = c.beginner-user.ensures;
      ends = c.is_some.ensures;
    }) in
    rw c.end_of.ensures (piece-made c.args.player.now c.hear.new.self played c.args.who c.args.piece.now heard c.beginner-user.result c.is_some.result s c.requires.next.line_is may c.requires.going p
    (record { office = c.make_heard.new.office; used = c.player.inside.used; links = c.player.inside.links.entries }) c.in_ok-is_in.is_in _ _ c.in_ok-is_in.ensures.gives c.in_ok-is_in.ensures.let_in
    (ap (λ (q : PlayerState). q.used) c.player.view_is) (ap (λ (q : PlayerState). q.links) c.player.view_is))
