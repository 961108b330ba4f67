-- What holds of the numbers of methods.
use Rattle.std.specs.Prelude.{◌<◌, ◌^◌}
use Rattle.wire_calls.specs.declared.method.AnyMethod.{AnyMethod}
use Rattle.wire_calls.specs.declared.method.AnyMethod.TheVariants.{Own}
use Rattle.wire_calls.specs.declared.method.Method.{Method}
use Rattle.wire_calls.specs.declared.method.Method.TheVariants.{User}

-- a user's number is one of 32 bits
abbrev pub FitsMethod : Method → Type 0
FitsMethod (User u m) = u.0 < 2 ^ 32
FitsMethod _ = Unit {0}

abbrev pub FitsAny : AnyMethod → Type 0
FitsAny (Own m) = FitsMethod m
FitsAny _ = Unit {0}
