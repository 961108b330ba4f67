-- The logical lines of a text.
use Rattle.std.specs.Prelude.{ℕ, ◌==◌, ◌+◌, List, [], ◌∷◌, ◌++◌, Option, Some, None}
use Rattle.std.specs.List.{slice_split}
use Rattle.login_conf.specs.Text.{continued}

-- a line, with the number of the first line of the text that it is made of
pub record Line : Type 0 where
  pub number : ℕ
  pub text : List ℕ

-- a front of a line, with the line that it goes on in; behind the last line it stands alone
abbrev pub going_on : ℕ → List ℕ → List Line → List Line
going_on number front [] = record { number = number; text = front } ∷ []
going_on number front (next ∷ more) = record { number = number; text = front ++ next.text } ∷ more

-- a line, with what is known of it, and the logical lines behind it: one that ends with a backslash goes on
-- in the next, behind a space
abbrev pub onto_lines : ℕ → List ℕ → Option (List ℕ) → List Line → List Line
onto_lines number line (Some front) more = going_on number (front ++ 32 ∷ []) more
onto_lines number line None more = record { number = number; text = line } ∷ more

-- the logical lines that lines are, numbered from here
abbrev pub joined : ℕ → List (List ℕ) → List Line
joined number [] = []
joined number (line ∷ lines) = onto_lines number line (continued line) (joined (number + 1) lines)

-- the logical lines of a text, whose lines are what line feeds part
abbrev pub lines_of : List ℕ → List Line
lines_of text = joined 1 (slice_split (λ b. b == 10) text)
