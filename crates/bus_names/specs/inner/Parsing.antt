-- What a step of a signature answers.
use Rattle.std.specs.Prelude.{◌≡◌, Result, Ok, Err, ⊤}
use Rattle.bus_names.specs.declared.parse.Refusal.{Refusal}
use Rattle.bus_names.specs.declared.parse.Refusal.TheVariants.{Bad, Deep, NoMemory}
use Rattle.bus_names.specs.declared.parse.Parser.{Parser}

-- what a step answers, unless there was no memory
abbrev pub Steps : Result (Unit {0}) Refusal → Parser → Result Parser Refusal → Type 0
Steps (Ok u) new found = found ≡ Ok new
Steps (Err Bad) new found = found ≡ Err Bad
Steps (Err Deep) new found = found ≡ Err Deep
Steps (Err NoMemory) new found = ⊤
