use Rattle.login_laws.proofs.HandleLaws.{next-handle-is-least-free}
use Rattle.login_laws.proofs.law.next_handle_is_least_free.Goals as goal

pub returns : goal.returns
returns c = next-handle-is-least-free
