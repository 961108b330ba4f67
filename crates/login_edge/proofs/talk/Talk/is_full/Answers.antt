use Rattle.std.proofs.Common.{rules, ◌≡◌, ◌∙◌, arith, length}
use Rattle.std.specs.Vec.{vec_len}
use Rattle.login_edge.proofs.Cuts.{sized}
use Rattle.login_edge.proofs.talk.Talk.is_full.Goals as goal

pub returns-clause-full : goal.returns-clause-full
returns-clause-full c =
    let i = c.self.invariant in
    let vm : vec_len c.self.inside.marks ≡ length c.self.inside.marks.items = search rules in
    let vh : vec_len c.self.inside.hears ≡ length c.self.inside.hears.items = search rules in
    let vs : vec_len c.self.inside.says ≡ length c.self.inside.says.items = search rules in
    let z = sized c.self.inside.marks.items c.self.inside.hears.items c.self.inside.says.items c.self.inside.bytes c.self.inside.pieces c.args.self.now c.self.view_is (i.0 ∙ vh) (i.1 ∙ vs) in
    let n : c.len.result ≡ length c.args.self.now.talk = omega (arith, c.len.ensures, z.talk, vm) in
    let p = z.pieces in
    rw (n, p) (search rules)

pub returns-clause-bound : goal.returns-clause-bound
returns-clause-bound c =
    let i = c.self.invariant in
    let vm : vec_len c.self.inside.marks ≡ length c.self.inside.marks.items = search rules in
    let vh : vec_len c.self.inside.hears ≡ length c.self.inside.hears.items = search rules in
    let vs : vec_len c.self.inside.says ≡ length c.self.inside.says.items = search rules in
    let z = sized c.self.inside.marks.items c.self.inside.hears.items c.self.inside.says.items c.self.inside.bytes c.self.inside.pieces c.args.self.now c.self.view_is (i.0 ∙ vh) (i.1 ∙ vs) in
    omega (arith, z.talk, z.pieces, i.5, vm)

pub returns-clause-fits : goal.returns-clause-fits
returns-clause-fits c =
    let i = c.self.invariant in
    let vm : vec_len c.self.inside.marks ≡ length c.self.inside.marks.items = search rules in
    let vh : vec_len c.self.inside.hears ≡ length c.self.inside.hears.items = search rules in
    let vs : vec_len c.self.inside.says ≡ length c.self.inside.says.items = search rules in
    let z = sized c.self.inside.marks.items c.self.inside.hears.items c.self.inside.says.items c.self.inside.bytes c.self.inside.pieces c.args.self.now c.self.view_is (i.0 ∙ vh) (i.1 ∙ vs) in
    omega (arith, z.size, z.bytes, i.2, vh, vs)
