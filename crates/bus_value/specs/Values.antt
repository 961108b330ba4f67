-- Values of the D-Bus Specification ("Type System").
use Rattle.std.specs.Prelude.{ℕ, suc, ◌+◌, List, [], ◌∷◌}
use Rattle.bus_names.specs.declared.basic.Basic.{Basic}
use Rattle.bus_names.specs.Types.{Shape, struct_of}
use Rattle.bus_names.specs.Types as types
use Rattle.bus_value.specs.declared.basic_value.BasicValue.{BasicValue}
use Rattle.bus_value.specs.BasicValues.{kind_of}

-- a value, without where it lies in memory; an array knows its elements' type, a dict those of keys and values
mutual
  pub data Val : Type 0 where
    basic : BasicValue → Val
    array : Shape → Vals → Val
    struct : Vals → Val
    dict : Basic → Shape → Entries → Val
    variant : Val → Val

  pub data Vals : Type 0 where
    none : Vals
    more : Val → Vals → Vals

  pub data Entries : Type 0 where
    no_entries : Entries
    entry : BasicValue → Val → Entries → Entries

abbrev pub vals : List Val → Vals
vals [] = none
vals (v ∷ vs) = more v (vals vs)

-- how many values there are
abbrev pub count : Vals → ℕ
count none = 0
count (more v vs) = suc (count vs)

abbrev pub entries : List (BasicValue × Val) → Entries
entries [] = no_entries
entries (e ∷ es) = entry e.0 e.1 (entries es)

abbrev mutual
  -- how many parts a value has, itself among them; a dict entry is one, and its key and its value are
  pub parts : Val → ℕ
  parts (basic a) = 1
  parts (array t vs) = parts_in vs + 1
  parts (struct vs) = parts_in vs + 1
  parts (dict b t es) = parts_of es + 1
  parts (variant v) = parts v + 1

  pub parts_in : Vals → ℕ
  parts_in none = 0
  parts_in (more v vs) = parts v + parts_in vs

  pub parts_of : Entries → ℕ
  parts_of no_entries = 0
  parts_of (entry a v es) = parts v + 2 + parts_of es

abbrev mutual
  -- a value's type
  pub shape : Val → Shape
  shape (basic a) = types.basic (kind_of a)
  shape (array t vs) = types.array t
  shape (struct vs) = struct_of (shapes vs)
  shape (dict b t es) = types.dict b t
  shape (variant v) = types.variant

  pub shapes : Vals → List Shape
  shapes none = []
  shapes (more v vs) = shape v ∷ shapes vs
