use Rattle.std.proofs.Common.{refl, ◌∙◌}
use Rattle.login_prog.specs.inner.Accepting.{held_of}
use Rattle.login_prog.proofs.ChildServed.{child-returns, given, unserved-desk, unserved-new, unserved-who}
use Rattle.login_prog.proofs.LinkBack.{hands-above}
use Rattle.login_prog.proofs.serve.accepting.Accepting.join_link.Goals as goal

pub served-out-requires-clause-desk : goal.served-out-requires-clause-desk
served-out-requires-clause-desk g c =
    let r = c.requires.child in
    unserved-desk _ _ _ _ r.0.desk r.0.setup c.args.child r.4 c.join.result c.join.ensures ∙ r.3

pub served-out-requires-clause-above : goal.served-out-requires-clause-above
served-out-requires-clause-above g c = λ none.
    let r = c.requires.child in
    unserved-who _ _ _ _ r.0.desk r.0.setup c.args.child r.4 c.join.result c.join.ensures none (hands-above _ _ _ _ _ _ r.0 r.1 (held_of c.args.child) r.2 c.args.self.now r.5)

pub served-out-requires-clause-new : goal.served-out-requires-clause-new
served-out-requires-clause-new g c = λ none.
    let r = c.requires.child in
    unserved-new _ _ _ _ r.0.desk r.0.setup c.args.child r.4 c.join.result c.join.ensures none

pub end-requires : goal.end-requires
end-requires g c =
    let r = c.requires.child in
    record {
      returned = (
        r.0,
        r.1,
        held_of c.args.child,
        r.2,
        r.3,
        record {
          keeps = r.5;
          who_is = refl;
          back = child-returns _ _ _ _ r.0.desk r.0.setup c.args.child r.4 c.served-out.result (c.served-out.ensures.gives _ _ (given _ _ _ _ r.0.desk r.0.setup c.args.child r.4 c.join.result c.join.ensures));
          dropped = λ e. absurd (c.served-out.ensures.ended e);
        },
      );
    }

pub returns-clause-keeps : goal.returns-clause-keeps
returns-clause-keeps g c = λ x t hands i k.
    c.end.ensures.keeps x t (held_of c.args.child) hands (record {
      keeps = k;
      who_is = refl;
      back = child-returns _ _ _ _ x.desk x.setup c.args.child i c.served-out.result (c.served-out.ensures.gives _ _ (given _ _ _ _ x.desk x.setup c.args.child i c.join.result c.join.ensures));
      dropped = λ e. absurd (c.served-out.ensures.ended e);
    })
