-- What is spelled is of its types, and fits.
use Rattle.std.proofs.Common.{ℕ, ◌+◌, List, ◌∷◌, length, replicate, refl}
use Rattle.bus_names.specs.Types.{Shape, listed}
use Rattle.bus_names.specs.Types as types
use Rattle.bus_value.specs.declared.order.Order.{Order}
use Rattle.bus_value.specs.Values.{Val, Vals, vals, count}
use Rattle.bus_value.specs.Values as values
use Rattle.bus_value.specs.Spelling.{spellings}
use Rattle.bus_value.specs.Grammar.{IsSpelled, AreSpelled, pair_type, pairs}
use Rattle.bus_value.specs.Grammar as grammar
use Rattle.bus_value.specs.Laws.{HasSpelling}
use Rattle.bus_value.specs.Typed.{IsTyped, AreTyped, basic, array, struct, dict, variant, none, more}
use Rattle.bus_value.proofs.Fitting.{each_fits}
use Rattle.bus_value.proofs.Rules.{computed}
use Rattle.bus_value.proofs.TypesHold.{typed_spelled}

mutual
  is_typed : (o : Order) (d at : ℕ) (t : Shape) (v : Val) (bytes : List ℕ) → IsSpelled o d at t v bytes → IsTyped d t v
  is_typed o d at t v bytes (grammar.basic {body = body} p h) = basic o body h
  is_typed o d at t v bytes (grammar.array {t = u} {vs = vs} {zeros = zeros} {gap = gap} {elements = elements} p q limit h) =
      array (are_typed o (d + 1) (at + length zeros + 4 + length gap) (replicate (count vs) u) vs elements h)
  is_typed o d at t v bytes (grammar.struct {t = u} {ts = us} {vs = vs} {zeros = zeros} {fields = fields} p h) = struct (are_typed o (d + 1) (at + length zeros) (u ∷ listed us) vs fields h)
  is_typed o d at t v bytes (grammar.dict {b = b} {t = u} {es = es} h) = dict (is_typed o d at (types.array (pair_type b u)) (values.array (pair_type b u) (pairs es)) bytes h)
  is_typed o d at t v bytes (grammar.variant {t = u} {v = w} {letters = letters} {body = body} s deep h) = variant deep (is_typed o (d + 1) (at + length letters) u w body h)

  are_typed : (o : Order) (d at : ℕ) (ts : List Shape) (vs : Vals) (bytes : List ℕ) → AreSpelled o d at ts vs bytes → AreTyped d ts vs
  are_typed o d at ts vs bytes grammar.none = none
  are_typed o d at ts vs bytes (grammar.more {t = u} {ts = us} {v = w} {vs = ws} {first = first} {others = others} h k) =
      more (is_typed o d at u w first h) (are_typed o d (at + length first) us ws others k)

pub has_spelling : HasSpelling
has_spelling o start ts vs = (
  (λ bytes h. (are_typed o 0 start ts (vals vs) bytes h, each_fits (vals vs) o 0 start (computed o start ts vs bytes h).legal)),
  (λ typed fits. (spellings o start (vals vs), typed_spelled o start ts vs (spellings o start (vals vs)) typed fits refl)),
)
