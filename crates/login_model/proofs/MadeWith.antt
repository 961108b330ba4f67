-- The texts that a session was made with.
use Rattle.std.proofs.Common.{Option, Some, None}
use Rattle.login_model.specs.declared.fact.Fact.{Fact}
use Rattle.login_model.specs.declared.fact.Fact.TheVariants as fact
use Rattle.login_model.specs.declared.session.SessionTexts.{SessionTexts}

abbrev pub texts_in : Fact → Option SessionTexts
texts_in (fact.Session x) = Some x.texts
texts_in _ = None
