-- How the end of a link prints.
use Rattle.std.specs.Prelude.{ℕ, List, [], ◌∷◌, ◌++◌, codes}
use Rattle.std.specs.Fmt.{decimal}
use Rattle.bus_auth.specs.declared.table.Ending.TheVariants.{NoNul, EarlyBegin, LineTooLong, TooManyLines}
use Rattle.bus_message.specs.Faults.{number_of}
use Rattle.login_base.specs.declared.ids.ConnId.{ConnId}
use Rattle.login_model.specs.declared.fullness.Fullness.TheVariants.{Entries, Marks}
use Rattle.login_office.specs.declared.end.LinkEnd.{LinkEnd}
use Rattle.login_office.specs.declared.end.LinkEnd.TheVariants as end
use Rattle.login_office.specs.declared.end.Unbegun.{Unbegun}
use Rattle.login_office.specs.declared.end.Unbegun.TheVariants.{Refused, HungUp}

-- the number of why a link did not begin
abbrev pub not_begun_number : Unbegun → ℕ
not_begun_number (Refused NoNul) = 1
not_begun_number (Refused EarlyBegin) = 2
not_begun_number (Refused LineTooLong) = 3
not_begun_number (Refused TooManyLines) = 4
not_begun_number HungUp = 5

-- what follows the number of a link that has ended so, through the line feed
abbrev pub end_text : LinkEnd → List ℕ
end_text end.Closed = 10 ∷ []
end_text (end.NotBegun why) = codes " not-begun " ++ (decimal (not_begun_number why) ++ 10 ∷ [])
end_text (end.Malformed at) = codes " malformed " ++ (decimal at.offset ++ (codes " " ++ (decimal (number_of at.cause) ++ 10 ∷ [])))
end_text end.TooMany = codes " too-many" ++ 10 ∷ []
end_text end.ReadFault = codes " read-fault" ++ 10 ∷ []
end_text end.WriteFault = codes " write-fault" ++ 10 ∷ []
end_text end.NoMemory = codes " no-memory" ++ 10 ∷ []
end_text (end.Full (Entries n)) = codes " full entries " ++ (decimal n ++ 10 ∷ [])
end_text (end.Full (Marks n)) = codes " full marks " ++ (decimal n ++ 10 ∷ [])
end_text (end.Stopped n) = codes " stopped " ++ (decimal n ++ 10 ∷ [])

-- the same, where a link that was closed says so
abbrev pub named_end_text : LinkEnd → List ℕ
named_end_text end.Closed = codes " closed" ++ 10 ∷ []
named_end_text e = end_text e

-- the line of a link that has ended
abbrev pub closed_line : ConnId → LinkEnd → List ℕ
closed_line c e = codes "closed " ++ (decimal c.0 ++ end_text e)

-- how many bytes a number takes at most, and what follows the number of a link that has ended
abbrev pub number_room : ℕ
number_room = 20

abbrev pub end_room : ℕ
end_room = 60
