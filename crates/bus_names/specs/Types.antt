-- Types of the D-Bus Specification ("Type System").
use Rattle.std.specs.Prelude.{ℕ, ◌+◌, List, [], ◌∷◌, ◌++◌, max}
use Rattle.std.specs.List.{flat_map}
use Rattle.bus_names.specs.declared.basic.Basic.{Basic}
use Rattle.bus_names.specs.declared.basic.Basic.TheVariants.{Byte, Bool, I16, U16, I32, U32, I64, U64, Double, Str, Path, Sig, Handle}

-- a single complete type, without where it lies in memory; a struct has a first field and maybe others
mutual
  pub data Shape : Type 0 where
    basic : Basic → Shape
    variant : Shape
    array : Shape → Shape
    dict : Basic → Shape → Shape
    struct : Shape → Shapes → Shape

  pub data Shapes : Type 0 where
    none : Shapes
    more : Shape → Shapes → Shapes

-- a list of types as the other fields of a struct
abbrev pub fields_of : List Shape → Shapes
fields_of [] = none
fields_of (t ∷ ts) = more t (fields_of ts)

abbrev pub listed : Shapes → List Shape
listed none = []
listed (more t ts) = t ∷ listed ts

-- the struct of these fields, of which there is one at least
abbrev pub struct_of : List Shape → Shape
struct_of [] = variant
struct_of (t ∷ ts) = struct t (fields_of ts)

-- the letter of a basic type
abbrev pub letter : Basic → ℕ
letter Byte = 121
letter Bool = 98
letter I16 = 110
letter U16 = 113
letter I32 = 105
letter U32 = 117
letter I64 = 120
letter U64 = 116
letter Double = 100
letter Str = 115
letter Path = 111
letter Sig = 103
letter Handle = 104

abbrev mutual
  -- a type's signature
  pub text : Shape → List ℕ
  text (basic b) = letter b ∷ []
  text variant = 118 ∷ []
  text (array t) = 97 ∷ text t
  text (dict b t) = 97 ∷ 123 ∷ letter b ∷ (text t ++ 125 ∷ [])
  text (struct t ts) = 40 ∷ (text t ++ (texts ts ++ 41 ∷ []))

  pub texts : Shapes → List ℕ
  texts none = []
  texts (more t ts) = text t ++ texts ts

-- the signature of types in a row
abbrev pub signature_text : List Shape → List ℕ
signature_text ts = flat_map text ts

abbrev mutual
  -- how deep arrays are nested in a type
  pub arrays : Shape → ℕ
  arrays (basic b) = 0
  arrays variant = 0
  arrays (array t) = arrays t + 1
  arrays (dict b t) = arrays t + 1
  arrays (struct t ts) = max (arrays t) (arrays_in ts)

  pub arrays_in : Shapes → ℕ
  arrays_in none = 0
  arrays_in (more t ts) = max (arrays t) (arrays_in ts)

abbrev mutual
  -- how deep structs are nested in a type
  pub structs : Shape → ℕ
  structs (basic b) = 0
  structs variant = 0
  structs (array t) = structs t
  structs (dict b t) = structs t
  structs (struct t ts) = max (structs t) (structs_in ts) + 1

  pub structs_in : Shapes → ℕ
  structs_in none = 0
  structs_in (more t ts) = max (structs t) (structs_in ts)

-- how deep arrays are nested in types in a row
abbrev pub arrays_all : List Shape → ℕ
arrays_all [] = 0
arrays_all (t ∷ ts) = max (arrays t) (arrays_all ts)

-- how deep structs are nested in types in a row
abbrev pub structs_all : List Shape → ℕ
structs_all [] = 0
structs_all (t ∷ ts) = max (structs t) (structs_all ts)
