use Rattle.std.proofs.Common.{codes, ◌++◌}
use Rattle.login_model.specs.Words.{word_if}
use Rattle.login_model.proofs.Joined.{two_lists}
use Rattle.login_model.proofs.lock.Inhibited.push_handled.Goals as goal

pub returns : goal.returns
returns c =
    let power = word_if c.args.self.now.handle_power_key (codes "handle-power-key") in
    let suspend = word_if c.args.self.now.handle_suspend_key (codes "handle-suspend-key") in
    let hibernate = word_if c.args.self.now.handle_hibernate_key (codes "handle-hibernate-key") in
    let lid = word_if c.args.self.now.handle_lid_switch (codes "handle-lid-switch") in
    two_lists c.push_word_if-4.result 58 c.args.out.now.items c.push_word_if.new.out.items c.push_word_if-4.new.out.items power (suspend ++ (hibernate ++ lid)) c.in_ok-push_word_if.ensures
    (two_lists c.push_word_if-4.result 58 c.push_word_if.new.out.items c.push_word_if-2.new.out.items c.push_word_if-4.new.out.items suspend (hibernate ++ lid) c.in_ok-push_word_if-2.ensures
    (two_lists c.push_word_if-4.result 58 c.push_word_if-2.new.out.items c.push_word_if-3.new.out.items c.push_word_if-4.new.out.items hibernate lid c.in_ok-push_word_if-3.ensures c.push_word_if-4.ensures))
