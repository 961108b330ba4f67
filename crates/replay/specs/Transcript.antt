-- The transcript of a recording.
use Rattle.std.specs.Prelude.{ℕ, ◌+◌, List, [], ◌∷◌, ◌++◌, length, drop, codes, Option, Some, None}
use Rattle.std.specs.List.{flat_map}
use Rattle.std.specs.Fmt.{decimal}
use Rattle.login_model.specs.declared.mark.Entry.{Entry}
use Rattle.login_conf.specs.Reading.{diagnostics_of}
use Rattle.login_conf.specs.declared.diagnostic.ConfFault.{ConfFault}
use Rattle.login_conf.specs.declared.diagnostic.ConfFault.TheVariants.{BeforeSections, OtherSection, UnknownKey, BadValue, NoEqualsSign}
use Rattle.login_conf.specs.declared.diagnostic.Diagnostic.{Diagnostic}
use Rattle.recording.specs.declared.line.Line.{Line}
use Rattle.login_base.specs.declared.ids.ConnId.{ConnId}
use Rattle.login_model.specs.declared.setup.Setup.{Setup}
use Rattle.login_office.specs.declared.end.LinkEnd.{LinkEnd}
use Rattle.recording.specs.Print.{blocks, out_line}
use Rattle.replay.specs.Closing.{closed_line}
use Rattle.replay.specs.Links.{said, link_end, link_numbers}
use Rattle.replay.specs.Played.{Played, played_lines, journal_of}
use Rattle.replay.specs.PreambleLines.{setup_of, conf_in}

-- its first line
abbrev pub transcript_head : List ℕ
transcript_head = codes "login-transcript 1" ++ 10 ∷ []

-- its last line, after so many entries
abbrev pub transcript_end : ℕ → List ℕ
transcript_end count = codes "end " ++ (decimal count ++ 10 ∷ [])

-- the number of what is wrong with a line of the configuration
abbrev pub diagnostic_number : ConfFault → ℕ
diagnostic_number BeforeSections = 1
diagnostic_number OtherSection = 2
diagnostic_number UnknownKey = 3
diagnostic_number BadValue = 4
diagnostic_number NoEqualsSign = 5

-- what is said of a line of the configuration, by its number among these lines
abbrev pub diagnostic_line : Diagnostic → List ℕ
diagnostic_line d = codes "diag " ++ (decimal d.line ++ (codes " " ++ (decimal (diagnostic_number d.cause) ++ 10 ∷ [])))

-- what a transcript has before its entries
unfoldable pub start_of : List Diagnostic → List ℕ
start_of wrong = transcript_head ++ flat_map diagnostic_line wrong

-- its first line, and what is wrong with the lines of the configuration
abbrev pub transcript_start : List Line → List ℕ
transcript_start preamble = start_of (diagnostics_of (conf_in preamble))

-- the bytes of a link, if there are any
abbrev pub out_text : ConnId → List ℕ → List ℕ
out_text c [] = []
out_text c (b ∷ bs) = out_line c (b ∷ bs)

-- an end that was not there before
abbrev pub closed_text : ConnId → Option LinkEnd → Option LinkEnd → List ℕ
closed_text c None (Some e) = closed_line c e
closed_text c _ _ = []

-- what a line behind these says of a link: what is said on it that was not said before, and that it has ended
abbrev pub due : Setup → List Played → Played → ConnId → List ℕ
due U before p c = drop (length (said U before c)) (said U (before ++ p ∷ []) c)

abbrev pub link_text : Setup → List Played → Played → ConnId → List ℕ
link_text U before p c = out_text c (due U before p c) ++ closed_text c (link_end U before c) (link_end U (before ++ p ∷ []) c)

-- of each link, in the order of their numbers
abbrev pub links_text : Setup → List Played → Played → List ℕ
links_text U before p = flat_map (link_text U before p) (link_numbers (played_lines (before ++ p ∷ [])))

-- entries that a line made behind these lines
abbrev pub entries_text : List Played → List Entry → List ℕ
entries_text before made = blocks (length (journal_of before) + 1) made

-- the transcript of a line: its entries, and then what it says of each link
abbrev pub turn_text : Setup → List Played → Played → List ℕ
turn_text U before p = entries_text before p.made ++ links_text U before p

unfoldable pub turns_text : Setup → List Played → List Played → List ℕ
turns_text U before [] = []
turns_text U before (p ∷ ps) = turn_text U before p ++ turns_text U (before ++ p ∷ []) ps

-- the transcript of lines that others may follow
abbrev pub transcript_front : List Line → List Played → List ℕ
transcript_front preamble played = transcript_start preamble ++ turns_text (setup_of preamble) [] played

-- the transcript of a whole recording with this preamble and these lines
abbrev pub transcript : List Line → List Played → List ℕ
transcript preamble played = transcript_front preamble played ++ transcript_end (length (journal_of played))
