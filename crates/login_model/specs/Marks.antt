-- The marks of a journal.
use Rattle.std.specs.Prelude.{ℕ, List, [], ◌∷◌, take}
use Rattle.login_model.specs.Trail.{Trail, after}
use Rattle.login_model.specs.declared.mark.Entry.{Entry}

-- the marks of these entries, after the marks so far
abbrev pub after_all : Trail → List Entry → Trail
after_all t [] = t
after_all t (e ∷ es) = after_all (after t e.marks) es

-- the marks of a journal, the newest first
abbrev pub trail_of : List Entry → Trail
trail_of journal = after_all [] journal

-- an entry up to a mark
abbrev pub cut_at : ℕ → Entry → Entry
cut_at n e = record e { marks = take n e.marks }

-- the marks of a journal, and then the first n of an entry
abbrev pub with_marks : List Entry → Entry → ℕ → Trail
with_marks journal e n = after (trail_of journal) (take n e.marks)
