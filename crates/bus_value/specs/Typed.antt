-- Values that are of their types, wherever their bytes stand.
use Rattle.std.specs.Prelude.{ℕ, ◌≤◌, ◌+◌, List, [], ◌∷◌, replicate}
use Rattle.bus_names.specs.declared.basic.Basic.{Basic}
use Rattle.bus_names.specs.Types.{Shape, Shapes, listed}
use Rattle.bus_names.specs.Types as types
use Rattle.bus_value.specs.declared.basic_value.BasicValue.{BasicValue}
use Rattle.bus_value.specs.Values.{Val, Vals, Entries, count}
use Rattle.bus_value.specs.Values as values
use Rattle.bus_value.specs.declared.order.Order.{Order}
use Rattle.bus_value.specs.Grammar.{IsBasic, pair_type, pairs}
use Rattle.bus_value.specs.Limits.{most_open}
use Rattle.bus_value.specs.Nesting.{nesting}

mutual
  -- the value is one of the type, where so many containers are open
  pub data IsTyped : ℕ → Shape → Val → Type 0 where
    -- a basic value is one that bytes can spell
    basic : {depth : ℕ} {b : Basic} {a : BasicValue} (o : Order) (body : List ℕ) → IsBasic o b a body → IsTyped depth (types.basic b) (values.basic a)
    array : {depth : ℕ} {t : Shape} {vs : Vals} → AreTyped (depth + 1) (replicate (count vs) t) vs → IsTyped depth (types.array t) (values.array t vs)
    struct : {depth : ℕ} {t : Shape} {ts : Shapes} {vs : Vals} → AreTyped (depth + 1) (t ∷ listed ts) vs → IsTyped depth (types.struct t ts) (values.struct vs)
    dict : {depth : ℕ} {b : Basic} {t : Shape} {es : Entries} → IsTyped depth (types.array (pair_type b t)) (values.array (pair_type b t) (pairs es)) → IsTyped depth (types.dict b t) (values.dict b t es)
    variant : {depth : ℕ} {t : Shape} {v : Val} → depth + 1 + nesting t ≤ most_open → IsTyped (depth + 1) t v → IsTyped depth types.variant (values.variant v)

  pub data AreTyped : ℕ → List Shape → Vals → Type 0 where
    none : {depth : ℕ} → AreTyped depth [] values.none
    more : {depth : ℕ} {t : Shape} {ts : List Shape} {v : Val} {vs : Vals} → IsTyped depth t v → AreTyped depth ts vs → AreTyped depth (t ∷ ts) (values.more v vs)
