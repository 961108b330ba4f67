use Rattle.std.proofs.Common.{◌≡◌, ℕ, ◌+◌, length, List, [], ◌∷◌, map, refl, ap, subst, ◌∙◌, sym, arith, Vec, Global}
use Rattle.std.specs.Vec.Iter.{into_iter_items, into_iter_len}
use Rattle.std.specs.List.{AllByRecursion}
use Rattle.login_prog.specs.inner.Accepting.{IsChild, Keeps, held_of, listened_of}
use Rattle.login_prog.specs.declared.serve.accepting.Child.{Child}
use Rattle.login_prog.proofs.ChildrenJoined.{all-taken, first-taken, none-left}
use Rattle.login_prog.proofs.serve.accepting.Accepting.join_links.Goals as goal

pub loop-child-init : goal.loop-child-init
loop-child-init g c =
    let old = c.args.self.now in
    let empty : c.new.result.items ≡ [] = c.new.ensures.items in
    let none : c.replace-children.new.dest.items ≡ [] = ap (λ (v : Vec (Child g.row.L.Denot) Global). v.items) c.replace-children.ensures.after ∙ empty in
    let all : into_iter_items c.into_iter-child-iterator.result ≡ old.children.items = c.into_iter-child-iterator.ensures.into_iter_gives.0 ∙ ap (λ (v : Vec (Child g.row.L.Denot) Global). v.items) c.replace-children.ensures.value in (
      refl,
      none,
      (let same = ap length c.into_iter-child-iterator.ensures.into_iter_gives.0 in let counted = c.into_iter-child-iterator.ensures.into_iter_gives.1 in let long = c.replace-children.result.ok.0 in omega (arith, same, counted, long)),
      λ x t k. (
        subst (λ (cs : List (Child g.row.L.Denot)). AllByRecursion (IsChild g.L.Link.number g.L.Link.talk g.L.Link.left g.L.Link.faults x.desk x.setup) cs) (sym all) k.children,
        subst (λ (cs : List (Child g.row.L.Denot)). Keeps g.L.Link.number g.L.Link.talk g.L.Link.left g.L.Link.faults g.P.Spawner.faults g.N.Listener.told g.N.Listener.given g.N.Listener.faults x t (map held_of cs) (record old { children = c.replace-children.new.dest })) (sym all) (all-taken g.L.Link.number g.L.Link.talk g.L.Link.left g.L.Link.faults g.P.Spawner.faults (listened_of g.N.Listener.told g.N.Listener.given g.N.Listener.faults c.args.self.now.listener) x t old c.replace-children.new.dest none k),
      ),
    )

pub join_link-requires : goal.join_link-requires
join_link-requires g c =
    let kept = c.requires.kept in
    let next = first-taken g.L.Link.number g.L.Link.talk g.L.Link.left g.L.Link.faults g.P.Spawner.faults (listened_of g.N.Listener.told g.N.Listener.given g.N.Listener.faults c.loop-child.self.listener) kept.0 kept.1 c.loop-child.self _ _ c.in-Some.child c.in-Some.ensures.steps.0 (c.loop-child.invariant.3 kept.0 kept.1 kept.3) in
    record { child = (kept.0, kept.1, map held_of (into_iter_items c.next.new.self), kept.2, next.0.0, next.1) }

pub loop-child-preserved : goal.loop-child-preserved
loop-child-preserved g c =
    let i = c.loop-child.invariant in
    let step = c.in-Some.ensures.steps in (
      c.join_link.ensures.desk ∙ i.0,
      ap (λ (v : Vec (Child g.row.L.Denot) Global). v.items) c.join_link.ensures.children ∙ i.1,
      (let was = i.2 in let all = ap length step.0 in let less = step.1 in omega (arith, was, all, less)),
      λ x t k.
          let next = first-taken g.L.Link.number g.L.Link.talk g.L.Link.left g.L.Link.faults g.P.Spawner.faults (listened_of g.N.Listener.told g.N.Listener.given g.N.Listener.faults c.loop-child.self.listener) x t c.loop-child.self _ _ c.in-Some.child step.0 (i.3 x t k) in
          (next.0.1, c.join_link.ensures.keeps x t _ next.0.0 next.1),
    )

pub returns-clause-keeps : goal.returns-clause-keeps
returns-clause-keeps g c = λ x t k.
    let i = c.loop-child.invariant in
    let none : into_iter_items c.loop-child.child-iterator ≡ [] = none-left _ (i.2 ∙ c.in-None.ensures.steps.0) in
    subst (λ (cs : List (Child g.row.L.Denot)). Keeps g.L.Link.number g.L.Link.talk g.L.Link.left g.L.Link.faults g.P.Spawner.faults g.N.Listener.told g.N.Listener.given g.N.Listener.faults x t (map held_of cs) c.loop-child.self) none (i.3 x t k).1
