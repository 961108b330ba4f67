-- Which command a list of words is.
use Rattle.std.specs.Prelude.{ℕ, List, Option, Some, None}
use Rattle.login_prog.specs.declared.words.Command.{Command}
use Rattle.login_prog.specs.declared.words.Command.TheVariants as command
use Rattle.login_prog.specs.Words.{AreReplay, ServesIn, AreNone}

-- the words are those of the command
abbrev pub AreWordsOf : Command → List (List ℕ) → Type 0
AreWordsOf command.Replay words = AreReplay words
AreWordsOf (command.Serve dir) words = ServesIn dir.now words

-- the words are those of this command, or of no command
abbrev pub Means : List (List ℕ) → Option Command → Type 0
Means words (Some command) = AreWordsOf command words
Means words None = AreNone words
