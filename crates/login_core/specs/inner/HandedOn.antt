-- What is read of a fact and handed on by value, and the fact that it stands for.
use Rattle.std.specs.Prelude.{ℕ, Bool, true, false, Option, Some, None, List}
use Rattle.login_model.specs.declared.fact.Fact.{Fact}
use Rattle.login_model.specs.declared.fact.Fact.TheVariants.{Absent, Device, Known}
use Rattle.login_model.specs.declared.hardware.DevKind.TheVariants.{Drm}
pub use Rattle.switch_core.specs.inner.HandedOn.{controller_fact}

-- a graphics device on the seat, if there is one
abbrev pub graphics_fact : Option (List ℕ) → Fact
graphics_fact (Some seat) = Device Drm seat
graphics_fact None = Absent

-- a user that is absent, or one that is not
abbrev pub absent_or_known : Bool → Fact
absent_or_known true = Absent
absent_or_known false = Known
