use Rattle.std.proofs.Common.{◌≡◌, ◌+◌, ◌<◌, [], length, refl, ap, ◌∙◌, arith, vec_len, Vec, Global}
use Rattle.login_prog.specs.declared.serve.accepting.Child.{Child}
use Rattle.login_prog.specs.inner.Accepting.{listened_of}
use Rattle.login_prog.proofs.ChildrenJoined.{taken-child, taken-keeps}
use Rattle.login_prog.proofs.Keeping.{other-fields}
use Rattle.login_prog.proofs.serve.accepting.Accepting.look_over.Goals as goal

pub loop-place-init : goal.loop-place-init
loop-place-init g c = (refl, λ x t k. other-fields g.L.Link.number g.L.Link.talk g.L.Link.left g.L.Link.faults g.P.Spawner.faults (listened_of g.N.Listener.told g.N.Listener.given g.N.Listener.faults c.args.self.now.listener) x t [] c.args.self.now c.args.self.now.listener _ k)

pub join_link-requires : goal.join_link-requires
join_link-requires g c =
    let kept = c.requires.kept in
    let k = c.loop-place.invariant.1 kept.0 kept.1 kept.3 in
    let long = c.loop-place.self.children.ok.0 in
    let below : c.loop-place.place < length c.loop-place.self.children.items = omega (arith, long) in
    let value = c.swap_remove-child.ensures.value in
    let items = c.swap_remove-child.ensures.items in
    record {
      child = (
        kept.0,
        kept.1,
        [],
        kept.2,
        taken-child g.L.Link.number g.L.Link.talk g.L.Link.left g.L.Link.faults g.P.Spawner.faults (listened_of g.N.Listener.told g.N.Listener.given g.N.Listener.faults c.loop-place.self.listener) kept.0 kept.1 c.loop-place.self c.loop-place.place c.swap_remove-child.result c.swap_remove-child.new.self below value items k,
        taken-keeps g.L.Link.number g.L.Link.talk g.L.Link.left g.L.Link.faults g.P.Spawner.faults (listened_of g.N.Listener.told g.N.Listener.given g.N.Listener.faults c.loop-place.self.listener) kept.0 kept.1 c.loop-place.self c.loop-place.place c.swap_remove-child.result c.swap_remove-child.new.self below value items k,
      );
    }

pub loop-place-preserved-then-load : goal.loop-place-preserved-then-load
loop-place-preserved-then-load g c =
    let long = c.loop-place.self.children.ok.0 in
    let below : c.loop-place.place < length c.loop-place.self.children.items = omega (arith, long) in
    let value = c.swap_remove-child.ensures.value in
    let items = c.swap_remove-child.ensures.items in (
      c.join_link.ensures.desk ∙ c.loop-place.invariant.0,
      λ x t k.
          let i = c.loop-place.invariant.1 x t k in
          c.join_link.ensures.keeps x t [] (taken-child g.L.Link.number g.L.Link.talk g.L.Link.left g.L.Link.faults g.P.Spawner.faults (listened_of g.N.Listener.told g.N.Listener.given g.N.Listener.faults c.loop-place.self.listener) x t c.loop-place.self c.loop-place.place c.swap_remove-child.result c.swap_remove-child.new.self below value items i)
          (taken-keeps g.L.Link.number g.L.Link.talk g.L.Link.left g.L.Link.faults g.P.Spawner.faults (listened_of g.N.Listener.told g.N.Listener.given g.N.Listener.faults c.loop-place.self.listener) x t c.loop-place.self c.loop-place.place c.swap_remove-child.result c.swap_remove-child.new.self below value items i),
    )

pub loop-place-smaller-then-load : goal.loop-place-smaller-then-load
loop-place-smaller-then-load g c =
    let shorter = c.swap_remove-child.ensures.len in
    let same = ap (λ (v : Vec (Child g.row.L.Denot) Global). vec_len v) c.join_link.ensures.children in
    omega (arith, shorter, same)

pub returns-clause-keeps : goal.returns-clause-keeps
returns-clause-keeps g c = c.loop-place.invariant.1
