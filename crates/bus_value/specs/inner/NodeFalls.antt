-- Each part of a value is smaller than the value.
use Rattle.std.specs.Prelude.{ℕ, ◌≤◌, ◌+◌, List, [], ◌∷◌, max}
use Rattle.std.proofs.Common.{arith}
use denote.Param.Weighed.{most}
use Rattle.bus_value.specs.declared.basic_value.BasicValue.{BasicValue}
use Rattle.bus_value.specs.Values.{Val, vals, entries, parts, parts_in, parts_of}
use Rattle.bus_value.specs.declared.value.Node.{Node}
use Rattle.bus_value.specs.declared.value.Node.TheVariants.{Basic, Array, Struct, Dict, Variant}
use Rattle.bus_value.specs.declared.value.Value.TheDeep.{deep-Node}
use Rattle.bus_value.specs.inner.Nodes.{value_of}

most_values : (vs : List Val) → most (λ v. parts v + 1) vs ≤ parts_in (vals vs) + 1
most_values [] = omega arith
most_values (v ∷ vs) = omega (arith, most_values vs)

most_entries : (f : BasicValue × Val → ℕ) → ((e : BasicValue × Val) → f e ≤ parts e.1 + 1) → (es : List (BasicValue × Val)) → most f es ≤ parts_of (entries es) + 1
most_entries f h [] = omega arith
most_entries f h (e ∷ es) = omega (arith, h e, most_entries f h es)

twice : (m n : ℕ) → m ≤ n → max (max m 0) 0 ≤ n
twice m n h = omega arith

pub deep_parts : (n : Node) → max (deep-Node n) 0 ≤ parts (value_of n)
deep_parts (Basic a) = omega arith
deep_parts (Array t vs) = omega (arith, most_values vs.items)
deep_parts (Struct vs) = omega (arith, most_values vs.items)
deep_parts (Dict b t es) = twice _ _ (most_entries (λ e. max 0 (max (parts e.1 + 1) 0)) (λ e. omega arith) es.items)
deep_parts (Variant v) = omega arith
