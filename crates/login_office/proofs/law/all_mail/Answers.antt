use Rattle.login_office.proofs.Mails.{all_mail}
use Rattle.login_office.proofs.law.all_mail.Goals as goal

pub returns : goal.returns
returns c = all_mail
