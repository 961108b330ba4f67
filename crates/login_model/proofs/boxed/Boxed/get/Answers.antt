use Rattle.std.proofs.Common.{◌≡◌, sym, ◌∙◌, Some}
use Rattle.login_model.proofs.HeldValue.{held-is}
use Rattle.login_model.proofs.boxed.Boxed.get.Goals as goal

pub returns : goal.returns
returns g c =
    let at : c.self.inside.inner.value ≡ Some c.in-Some.value = cc c.in-Some.is in
    sym (held-is c.self.inside.inner.value c.self.inside.is_there c.in-Some.value at) ∙ c.self.view_is
