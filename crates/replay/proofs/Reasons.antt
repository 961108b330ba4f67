-- A line is refused for one cause.
use Rattle.std.proofs.Common.{◌≡◌, ℕ, List, refl, ap, sym, ◌∙◌, subst, Option, Some, None}
use Rattle.recording.specs.declared.line.Line.TheVariants.{Go}
use Rattle.recording.specs.declared.line.LineFault.{LineFault}
use Rattle.recording.specs.declared.line.LineFault.TheVariants as fault
use Rattle.recording.specs.Cut.{first_line}
use Rattle.recording.specs.Causes.{line_fault}
use Rattle.recording.proofs.Grammar.{meant_faultless, reads_one}
use Rattle.replay.specs.Front.{Front, Stage, Takes, takes_at}
use Rattle.replay.specs.Causes.{own_fault, IsCause, IsMisplaced, IsBadTable, OneCause}
use Rattle.replay.specs.declared.cause.Cause.{Cause}
use Rattle.replay.specs.declared.cause.Cause.TheVariants.{UnknownWord, BadNumber, BadHex, MissingWord, ExtraWord, TooLong, WrongPlace, BadName, BadAction, Ended}

-- the cause that names a fault of the line itself, or a wrong place
abbrev named : Option LineFault → Cause
named (Some fault.UnknownWord) = UnknownWord
named (Some fault.BadNumber) = BadNumber
named (Some fault.BadHex) = BadHex
named (Some fault.MissingWord) = MissingWord
named (Some fault.ExtraWord) = ExtraWord
named (Some fault.TooLong) = TooLong
named (Some fault.BadName) = BadName
named (Some fault.Ended) = Ended
named (Some fault.NoMemory) = WrongPlace
named None = WrongPlace

named_own : (c : Cause) (f : LineFault) → own_fault c ≡ Some f → named (own_fault c) ≡ c
named_own UnknownWord f e = refl
named_own BadNumber f e = refl
named_own BadHex f e = refl
named_own MissingWord f e = refl
named_own ExtraWord f e = refl
named_own TooLong f e = refl
named_own WrongPlace f e = cc
named_own BadAction f e = cc
named_own BadName f e = refl
named_own Ended f e = refl

-- a fault of the line itself, a wrong place, or a table that is refused
pub data Reason : Front → List ℕ → Cause → Type 0 where
  own : (front : Front) (rest : List ℕ) (c : Cause) (f : LineFault) → line_fault (first_line rest) ≡ Some f → own_fault c ≡ Some f → Reason front rest c
  misplaced : (front : Front) (rest : List ℕ) → IsMisplaced front rest → Reason front rest WrongPlace
  untabled : (front : Front) (rest : List ℕ) → IsBadTable front rest → Reason front rest BadAction

pub reason : (front : Front) (rest : List ℕ) (c : Cause) → IsCause c front rest → Reason front rest c
reason front rest UnknownWord h = Reason.own front rest UnknownWord fault.UnknownWord h refl
reason front rest BadNumber h = Reason.own front rest BadNumber fault.BadNumber h refl
reason front rest BadHex h = Reason.own front rest BadHex fault.BadHex h refl
reason front rest MissingWord h = Reason.own front rest MissingWord fault.MissingWord h refl
reason front rest ExtraWord h = Reason.own front rest ExtraWord fault.ExtraWord h refl
reason front rest TooLong h = Reason.own front rest TooLong fault.TooLong h refl
reason front rest BadName h = Reason.own front rest BadName fault.BadName h refl
reason front rest Ended h = Reason.own front rest Ended fault.Ended h refl
reason front rest WrongPlace h = Reason.misplaced front rest h
reason front rest BadAction h = Reason.untabled front rest h

-- a line that is misplaced has no fault of its own
not_misplaced : (front : Front) (rest : List ℕ) (f : LineFault) → line_fault (first_line rest) ≡ Some f → IsMisplaced front rest → ⊥
not_misplaced front rest f e m = meant_faultless (first_line rest) f e m.line m.read

-- `go` behind lines of a preamble has no fault and is in its place
go_misplaced : (front : Front) (rest : List ℕ) → IsBadTable front rest → IsMisplaced front rest → ⊥
go_misplaced front rest t m =
    let go : m.line ≡ Go = reads_one (first_line rest) m.line Go m.read t.go in
    m.misplaced (subst (Takes front) (sym go) (subst (λ (st : Stage). takes_at st front.preamble front.played Go) (sym t.in_preamble) tt))

same_own : (c d : Cause) (f g : LineFault) (o : Option LineFault) → o ≡ Some f → o ≡ Some g → own_fault c ≡ Some f → own_fault d ≡ Some g → c ≡ d
same_own c d f g o e h a b = sym (named_own c f a) ∙ (ap named (a ∙ (sym e ∙ (h ∙ sym b))) ∙ named_own d g b)

one_reason : (front : Front) (rest : List ℕ) (c d : Cause) → Reason front rest c → Reason front rest d → c ≡ d
one_reason front rest c d (Reason.own _ _ _ f e a) (Reason.own _ _ _ g h b) = same_own c d f g (line_fault (first_line rest)) e h a b
one_reason front rest c d (Reason.own _ _ _ f e a) (Reason.misplaced _ _ m) = absurd (not_misplaced front rest f e m)
one_reason front rest c d (Reason.own _ _ _ f e a) (Reason.untabled _ _ t) = absurd (meant_faultless (first_line rest) f e Go t.go)
one_reason front rest c d (Reason.misplaced _ _ m) (Reason.untabled _ _ t) = absurd (go_misplaced front rest t m)
one_reason front rest c d (Reason.untabled _ _ t) (Reason.own _ _ _ f e a) = absurd (meant_faultless (first_line rest) f e Go t.go)
one_reason front rest c d (Reason.untabled _ _ t) (Reason.misplaced _ _ m) = absurd (go_misplaced front rest t m)
one_reason front rest c d (Reason.untabled _ _ t) (Reason.untabled _ _ s) = refl
one_reason front rest c d (Reason.misplaced _ _ m) (Reason.own _ _ _ f e a) = absurd (not_misplaced front rest f e m)
one_reason front rest c d (Reason.misplaced _ _ m) (Reason.misplaced _ _ n) = refl

pub one_cause : OneCause
one_cause front rest c d h k = one_reason front rest c d (reason front rest c h) (reason front rest d k)
