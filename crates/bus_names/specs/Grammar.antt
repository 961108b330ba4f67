-- How names are read: byte by byte, with the place that is reached in a name.
use Rattle.std.specs.Prelude.{ℕ, ◌+◌, List, [], ◌∷◌, nat_le, ◌==◌, ◌&&◌, ◌||◌, Bool, true, false, Option, Some, None, if◌then◌else◌}
use Rattle.std.specs.Option.{option_and_then, option_map_or}
use Rattle.login_base.specs.Limits.{most_name}
use Rattle.login_base.specs.Names.{Letters, words, identifiers, labels, numbered}
use Rattle.bus_names.specs.declared.grammar.Grammar.{Grammar}
use Rattle.bus_names.specs.declared.grammar.Grammar.TheVariants.{Path, Interface, Member, WellKnown, Unique}
use Rattle.bus_names.specs.declared.grammar.Place.{Place}
use Rattle.bus_names.specs.declared.grammar.Place.TheVariants.{Slash, Root, First, Opening, Gap, Last}

abbrev pub letters : Grammar → Letters
letters Path = words
letters Interface = identifiers
letters Member = identifiers
letters WellKnown = labels
letters Unique = numbered

abbrev pub stands : Grammar → ℕ → Bool
stands g = (letters g).stands

abbrev pub begins : Grammar → ℕ → Bool
begins g = (letters g).begins

abbrev pub separator : Grammar → ℕ
separator Path = 47
separator Interface = 46
separator Member = 46
separator WellKnown = 46
separator Unique = 46

-- whether an element may follow the last one
abbrev pub repeats : Grammar → Bool
repeats Path = true
repeats Interface = true
repeats Member = false
repeats WellKnown = true
repeats Unique = true

abbrev pub is_path : Grammar → Bool
is_path Path = true
is_path Interface = false
is_path Member = false
is_path WellKnown = false
is_path Unique = false

-- within an element, or behind it
abbrev pub onward : Grammar → Place → Bool → ℕ → Option Place
onward g p more b = if stands g b then Some p else (if (b == separator g) && more then Some Gap else None)

abbrev pub next : Grammar → Place → ℕ → Option Place
next g Slash b = if b == 47 then Some Root else None
next g Root b = if begins g b then Some Last else None
next g First b = if begins g b then Some Opening else None
next g Opening b = onward g Opening true b
next g Gap b = if begins g b then Some Last else None
next g Last b = onward g Last (repeats g) b

-- how many more bytes a name needs at least
abbrev pub wanted : Place → ℕ
wanted Slash = 1
wanted Root = 0
wanted First = 3
wanted Opening = 2
wanted Gap = 1
wanted Last = 0

-- whether a name may have so many bytes
abbrev pub fits : Grammar → ℕ → Bool
fits g n = is_path g || nat_le n most_name

-- the place, where a name can still have as many bytes as it needs
abbrev pub checked : Grammar → ℕ → Place → Option Place
checked g offset p = if fits g (offset + 1 + wanted p) then Some p else None

abbrev pub step : Grammar → ℕ → Place → ℕ → Option Place
step g offset p b = option_and_then (checked g offset) (next g p b)

-- the first byte that no name can have there, or the length where the text is no whole name
unfoldable pub fault_from : Grammar → ℕ → Place → List ℕ → Option ℕ
fault_from g offset p [] = if wanted p == 0 then None else Some offset
fault_from g offset p (b ∷ bs) = option_map_or (λ q. fault_from g (offset + 1) q bs) (step g offset p b) (Some offset)
