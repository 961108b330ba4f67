use denote.Exit.{no}
use denote.Param.Send.{arg_send, param_send}
use Rattle.std.proofs.Common.{refl, ◌∙◌}
use Rattle.login_prog.specs.inner.Accepting.{asked_once}
use Rattle.login_prog.proofs.JobSent.{link-job-send}
use Rattle.login_prog.proofs.LinkTaken.{back-so, running-so}
use Rattle.login_prog.proofs.Returned.{come-above, come-desk, come-first, come-new, come-room}
use Rattle.login_prog.proofs.serve.accepting.Accepting.start.Goals as goal

pub split-pass-requires-clause-desk : goal.split-pass-requires-clause-desk
split-pass-requires-clause-desk g c = come-desk _ _ _ _ _ _ _ _ _ _ _ c.args.self.now c.requires.came

pub split-pass-requires-clause-first : goal.split-pass-requires-clause-first
split-pass-requires-clause-first g c = come-first _ _ _ _ _ _ _ _ _ _ _ c.args.self.now c.requires.came

pub split-pass-requires-clause-room : goal.split-pass-requires-clause-room
split-pass-requires-clause-room g c = come-room _ _ _ _ _ _ _ _ _ _ _ c.args.self.now c.requires.came

pub split-pass-requires-clause-who : goal.split-pass-requires-clause-who
split-pass-requires-clause-who g c = come-new _ _ _ _ _ _ _ _ _ _ _ c.args.self.now c.requires.came

pub start-requires-send-J : goal.start-requires-send-J
start-requires-send-J g c κs within =
    let b = c.type_bounds in
    param_send _ _ (arg_send _ no _ (link-job-send _ _ _ _ b.sync-R b.send-L b.sync-G))

pub returns-in-Running-clause-keeps : goal.returns-in-Running-clause-keeps
returns-in-Running-clause-keeps g c = λ listened x t m.
    running-so _ _ _ _ _ _ _ _ listened x t c.args.link c.args.uid c.args.self.now m c.requires.some c.requires.unclosed c.split-pass.new.pass c.split-pass.ensures.desk.0 c.split-pass.ensures.first
    c.push_reserved.new.self c.push_reserved.ensures.items _ c.split-pass.result refl refl c.of-before.ensures c.of-came.ensures (c.split-pass.ensures.desk.1 ∙ m.keeps.pass.desk_is) c.split-pass.ensures.new
    (λ out k. c.in-Running.ensures.running _ refl out k) c.start.new.self c.push_reserved-in-Running.new.self (c.in-Running.ensures.same _ refl) c.push_reserved-in-Running.ensures.items

pub end-requires : goal.end-requires
end-requires g c =
    let r = c.requires.came in
    record {
      returned = (
        r.1,
        asked_once r.2,
        _,
        _,
        r.3,
        back-so _ _ _ _ _ _ _ _ r.0 r.1 r.2 c.args.link c.args.uid c.args.self.now r.4 c.requires.some c.requires.unclosed c.split-pass.new.pass c.split-pass.ensures.desk.0 c.split-pass.ensures.first
            c.push_reserved.new.self c.push_reserved.ensures.items c.start.new.self c.in-Back.out c.split-pass.result (c.in-Back.ensures.rose _ refl) (c.split-pass.ensures.desk.1 ∙ r.4.keeps.pass.desk_is) c.split-pass.ensures.new
            (c.in-Back.ensures.back _ refl),
      );
    }

pub returns-in-Back-clause-keeps : goal.returns-in-Back-clause-keeps
returns-in-Back-clause-keeps g c = λ listened x t m.
    c.end.ensures.keeps x (asked_once t) _ _ (back-so _ _ _ _ _ _ _ _ listened x t c.args.link c.args.uid c.args.self.now m c.requires.some c.requires.unclosed c.split-pass.new.pass c.split-pass.ensures.desk.0 c.split-pass.ensures.first
    c.push_reserved.new.self c.push_reserved.ensures.items c.start.new.self c.in-Back.out c.split-pass.result (c.in-Back.ensures.rose _ refl) (c.split-pass.ensures.desk.1 ∙ m.keeps.pass.desk_is) c.split-pass.ensures.new
    (c.in-Back.ensures.back _ refl))
