-- What a link in memory tells of its talk.
use Rattle.std.specs.Prelude.{length}
use Rattle.login_edge.specs.Exchanges.{Exchange, heard, said, quiet, ended}
use Rattle.login_edge.specs.declared.talk.Mark.{Mark}
use Rattle.login_edge.specs.declared.talk.Mark.TheVariants as mark

-- a piece by its length, or an answer
abbrev pub mark_of : Exchange → Mark
mark_of (heard piece) = mark.Heard (length piece)
mark_of (said piece) = mark.Said (length piece)
mark_of quiet = mark.Quiet
mark_of ended = mark.Ended
