-- How a link in memory keeps its talk.
use Rattle.std.specs.Prelude.{ℕ, ◌+◌, List, [], ◌∷◌, take, drop}
use Rattle.login_edge.specs.Exchanges.{Exchange, heard, said, quiet, ended}
use Rattle.login_edge.specs.declared.talk.Mark.{Mark}
use Rattle.login_edge.specs.declared.talk.Mark.TheVariants as mark

-- the talk that the marks cut from what was heard and from what was said
abbrev pub talk_of : List Mark → List ℕ → List ℕ → List Exchange
talk_of [] hears says = []
talk_of (mark.Heard n ∷ marks) hears says = heard (take n hears) ∷ talk_of marks (drop n hears) says
talk_of (mark.Said n ∷ marks) hears says = said (take n says) ∷ talk_of marks hears (drop n says)
talk_of (mark.Quiet ∷ marks) hears says = quiet ∷ talk_of marks hears says
talk_of (mark.Ended ∷ marks) hears says = ended ∷ talk_of marks hears says

-- how many bytes the marks cut from what was heard
abbrev pub heard_by : List Mark → ℕ
heard_by [] = 0
heard_by (mark.Heard n ∷ marks) = n + heard_by marks
heard_by (mark.Said n ∷ marks) = heard_by marks
heard_by (mark.Quiet ∷ marks) = heard_by marks
heard_by (mark.Ended ∷ marks) = heard_by marks

-- how many bytes the marks cut from what was said
abbrev pub said_by : List Mark → ℕ
said_by [] = 0
said_by (mark.Heard n ∷ marks) = said_by marks
said_by (mark.Said n ∷ marks) = n + said_by marks
said_by (mark.Quiet ∷ marks) = said_by marks
said_by (mark.Ended ∷ marks) = said_by marks

-- a talk, and for how many bytes and pieces there is room in all
pub record TalkState : Type 0 where
  pub talk : List Exchange
  pub bytes : ℕ
  pub pieces : ℕ
