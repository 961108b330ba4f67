-- Values of which bodies are made.
use Rattle.std.specs.Prelude.{ℕ, Bool, List}
use Rattle.bus_value.specs.Values.{Val, basic}
use Rattle.bus_value.specs.declared.basic_value.BasicValue.TheVariants.{Str, U32, Bool as Flag}

abbrev pub text : List ℕ → Val
text t = basic (Str t)

abbrev pub number : ℕ → Val
number n = basic (U32 n)

abbrev pub flag : Bool → Val
flag b = basic (Flag b)
