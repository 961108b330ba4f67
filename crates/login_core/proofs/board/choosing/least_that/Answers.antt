use Rattle.std.proofs.Common.{Bool, subst}
use Rattle.login_core.proofs.Chosen.{fewer, passed-more}
use Rattle.login_core.proofs.board.choosing.least_that.Goals as goal

pub loop-name-smaller : goal.loop-name-smaller
loop-name-smaller g c =
    let teller = c.args.teller.now in
    fewer g.S.Tells.lt (g.S.Tells.is_told teller) (g.S.Tells.among teller) (g.met.S.Tells.whole teller) c.loop-name.from c.in-Some.name c.in-Some.ensures

pub loop-name-preserved : goal.loop-name-preserved
loop-name-preserved g c =
    let teller = c.args.teller.now in
    let says = goal.F-post g c.args.is_met in
    passed-more g.S.Tells.lt (g.met.S.Tells.whole teller).order (g.S.Tells.is_told teller) says c.args.above c.loop-name.from c.in-Some.name
    c.loop-name.invariant c.in-Some.ensures (let P : Bool → Type 0 = says c.in-Some.name in subst P c.if-is_met.false c.is_met.ensures)
