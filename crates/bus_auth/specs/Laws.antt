-- Laws of handshakes.
use Rattle.std.specs.Prelude.{ℕ, ◌≡◌, List, ◌∷◌, ◌++◌, length}
use Rattle.std.specs.List.{concat}
use Rattle.login_base.specs.declared.ids.Uid.{Uid}
use Rattle.bus_auth.specs.declared.table.Ending.{Ending}
use Rattle.bus_auth.specs.declared.step.AuthState.{AuthState}
use Rattle.bus_auth.specs.Cutting.{Lines, Whole, Open, cut, without_cr, IsLeastLength}
use Rattle.bus_auth.specs.Greeting.{Ended, greet}
use Rattle.bus_auth.specs.Standing.{Handshake}
use Rattle.bus_auth.specs.Hearing.{WasFed, shown}

-- whatever the pieces are, the replies and the state are those of the table run over the lines of all their bytes
abbrev pub InAnyPieces : Type 0
InAnyPieces =
    (auth : Handshake) (pieces : List (List ℕ)) (replies : List ℕ) (state : AuthState) → WasFed auth pieces replies state
    → (replies ≡ (greet auth.uid auth.guid (concat pieces)).replies) × (state ≡ shown (greet auth.uid auth.guid (concat pieces)).state)

-- behind its end a handshake replies nothing and stays as it is
abbrev pub EndedForGood : Type 0
EndedForGood =
    (uid : Uid) (guid text more : List ℕ) (ending : Ending) → (greet uid guid text).state ≡ Ended ending
    → greet uid guid (text ++ more) ≡ greet uid guid text

-- the lines again, each with its CR LF
abbrev pub joined : Lines → List ℕ
joined (Whole line behind more) = line ++ 13 ∷ 10 ∷ joined more
joined (Open line) = line

-- in none of the lines a line ends, and behind each stand the others
abbrev pub AreLines : Lines → Type 0
AreLines (Whole line behind more) = (cut line ≡ Open line) × (behind ≡ joined more) × AreLines more
AreLines (Open line) = cut line ≡ Open line

-- the lines of a text are its bytes, and end where a CR LF stands
abbrev pub LinesOfText : Type 0
LinesOfText = (text : List ℕ) → (joined (cut text) ≡ text) × AreLines (cut text)

-- how long an open line gets at least, whatever follows: so it is too long once no bytes can end it in time
abbrev pub LeastLength : Type 0
LeastLength = (line : List ℕ) → cut line ≡ Open line → IsLeastLength line (length (without_cr line))
