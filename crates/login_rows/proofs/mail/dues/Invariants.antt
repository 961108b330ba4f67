use Rattle.std.proofs.Common.{◌≡◌}
use Rattle.wire_out.specs.Places.{place_of}
use Rattle.login_rows.proofs.mail.dues.Given as goal

-- all mail by the journal so far was fetched
abbrev pub invariant-loop-line : goal.invariant-loop-line
invariant-loop-line l = l.cursor ≡ place_of l.cursor.who l.core.journal
