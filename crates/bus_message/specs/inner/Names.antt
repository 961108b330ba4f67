-- What a reader of names answered.
use Rattle.std.specs.Prelude.{◌≡◌, Option, Some, None, Result, Ok, Err, ⊤}
use Rattle.login_base.specs.declared.memory.NoMemory.{NoMemory}
use Rattle.bus_names.specs.declared.fault.NameFault.{NameFault}
use Rattle.bus_names.specs.declared.fault.NameFault.TheVariants.{BadName, BadLabel, BadSignature, TooDeep}
use Rattle.bus_names.specs.declared.fault.NameFault.TheVariants as faults

-- the text was no name
abbrev pub IsRefused : {A : Type 0} → Result A NameFault → Type 0
IsRefused (Ok name) = ⊥
IsRefused (Err faults.NoMemory) = ⊥
IsRefused (Err (BadName offset)) = ⊤
IsRefused (Err BadLabel) = ⊤
IsRefused (Err (BadSignature offset)) = ⊤
IsRefused (Err (TooDeep offset)) = ⊤

-- the name, if there was one
abbrev pub Names : {A : Type 0} → Result (Option A) NoMemory → Result A NameFault → Type 0
Names (Ok (Some name)) answer = answer ≡ Ok name
Names (Ok None) answer = IsRefused answer
Names (Err e) answer = ⊤
