-- The words of one command are those of no other.
use Rattle.std.proofs.Common.{◌≡◌, ℕ, List, [], ◌∷◌, sym, ap, ◌∙◌, subst, arith}
use Rattle.login_prog.specs.Words.{AreReplay, ServesIn, ServesNot}
use Rattle.login_prog.specs.inner.Words.{AreWordsOf}
use Rattle.login_prog.specs.declared.words.Command.{Command}
use Rattle.login_prog.specs.declared.words.Command.TheVariants as command

abbrev first : List (List ℕ) → ℕ
first [] = 0
first ([] ∷ words) = 0
first ((b ∷ bs) ∷ words) = b

replay-no-serve : (words : List (List ℕ)) → AreReplay words → ServesNot words
replay-no-serve words r dir s = let h : 114 ≡ 115 = ap first (sym r ∙ s.1.1) in omega (arith, h)

-- in the arm of a command the words are those of this one
in-arm : (words : List (List ℕ)) (k arm : Command) → k ≡ arm → AreWordsOf k words → AreWordsOf arm words
in-arm words k arm is h = subst (λ (e : Command). AreWordsOf e words) is h

pub replaying : (words : List (List ℕ)) (k : Command) → k ≡ command.Replay → AreWordsOf k words → ServesNot words
replaying words k is h = replay-no-serve words (in-arm words k command.Replay is h)

abbrev pub IsServe : Command → Type 0
IsServe command.Replay = ⊥
IsServe (command.Serve dir) = Unit {0}

pub serving : (words : List (List ℕ)) (k arm : Command) → k ≡ arm → IsServe arm → AreWordsOf k words → (dir : List ℕ) × ServesIn dir words
serving words k command.Replay is s h = absurd s
serving words k (command.Serve dir) is s h = (dir.now, in-arm words k (command.Serve dir) is h)

pub no-replay : (words : List (List ℕ)) (k arm : Command) → k ≡ arm → IsServe arm → AreWordsOf k words → AreReplay words → ⊥
no-replay words k arm is s h r = let d = serving words k arm is s h in replay-no-serve words r d.0 d.1
