use Rattle.std.specs.Char.{is_ascii_digit}
use Rattle.login_base.proofs.Cuts.{all_pass}
use Rattle.login_conf.proofs.span.digits.Goals as goal

pub returns-in-None-clause-value : goal.returns-in-None-clause-value
returns-in-None-clause-value c = all_pass is_ascii_digit c.args.text.now c.in-None.ensures
