-- Why a line is refused: it is too long; else it has no line feed at its end; else more stands behind its
-- first line feed; else its words are looked at from left to right, and the first that does not fit gives
-- its cause.
use Rattle.std.specs.Prelude.{ℕ, ◌==◌, ◌-◌, not, nat_le, Bool, true, false, if◌then◌else◌, Option, Some, None, List, [], ◌∷◌, length, take, codes}
use Rattle.std.specs.List.{slice_split, last_or, list_any}
use Rattle.std.specs.Option.{option_or}
use Rattle.std.specs.Str.{bytes_eq}
use Rattle.login_base.specs.Number.{number_of, whole_of}
use Rattle.login_base.specs.Seat.{is_seat_name}
use Rattle.recording.specs.declared.line.LineFault.{LineFault}
use Rattle.recording.specs.declared.line.LineFault.TheVariants.{UnknownWord, BadNumber, BadHex, MissingWord, ExtraWord, TooLong, BadName, Ended}
use Rattle.recording.specs.declared.argument.WordKind.{WordKind}
use Rattle.recording.specs.declared.argument.WordKind.TheVariants.{Number, Positive, Small, Signed, Moment, Flag, Text, UserName, SessionId, SeatName, Hex, Guid, Version, DeviceKind, Key, Operation, Anything}
use Rattle.login_model.specs.Words.{device_kind_named, key_named, operation_named}
use Rattle.recording.specs.Words.{positive_of, small_of, signed_of, flag_of, text_of, hex_of}
use Rattle.recording.specs.Hex.{is_guid}
use Rattle.recording.specs.Shapes.{behind_in, line_shapes}
use Rattle.recording.specs.Calls.{call_shapes}
use Rattle.login_model.specs.Limits.{name_limit, text_limit}
use Rattle.recording.specs.Limits.{line_limit}

-- this cause, where the word says nothing
abbrev pub unless : {T : Type 0} → Option T → LineFault → Option LineFault
unless (Some x) cause = None
unless None cause = Some cause

-- this cause, where the test fails
abbrev pub unless_so : Bool → LineFault → Option LineFault
unless_so true cause = None
unless_so false cause = Some cause

-- a name of at most so many bytes
abbrev pub name_fault : ℕ → Option (List ℕ) → Option LineFault
name_fault most None = Some BadHex
name_fault most (Some text) = unless_so (nat_le (length text) most) BadName

-- why a word is none of its kind
abbrev pub word_fault : WordKind → List ℕ → Option LineFault
word_fault Number word = unless (number_of word) BadNumber
word_fault Positive word = unless (positive_of word) BadNumber
word_fault Small word = unless (small_of word) BadNumber
word_fault Signed word = unless (signed_of word) BadNumber
word_fault Moment word = unless (whole_of word) BadNumber
word_fault Flag word = unless (flag_of word) UnknownWord
word_fault Text word = unless (text_of line_limit word) BadHex
word_fault UserName word = name_fault name_limit (text_of line_limit word)
word_fault SessionId word = name_fault text_limit (text_of line_limit word)
word_fault SeatName word = unless_so (is_seat_name word) BadName
word_fault Hex word = unless (hex_of word) BadHex
word_fault Guid word = unless_so (is_guid word) BadHex
word_fault Version word = unless_so (bytes_eq word (codes "1")) UnknownWord
word_fault DeviceKind word = unless (device_kind_named word) UnknownWord
word_fault Key word = unless (key_named word) UnknownWord
word_fault Operation word = unless (operation_named word) UnknownWord
word_fault Anything word = None

-- the first fault of words of these kinds, or of the words behind them
abbrev pub first_fault : List WordKind → (List (List ℕ) → Option LineFault) → List (List ℕ) → Option LineFault
first_fault [] behind words = behind words
first_fault (kind ∷ kinds) behind [] = Some MissingWord
first_fault (kind ∷ kinds) behind (word ∷ words) = option_or (word_fault kind word) (first_fault kinds behind words)

-- no word follows
abbrev pub end_fault : List (List ℕ) → Option LineFault
end_fault [] = None
end_fault (word ∷ words) = Some ExtraWord

-- the fault of the words behind a word of a fixed set, or that it is none of the set
abbrev pub known_fault : Option (List WordKind) → List (List ℕ) → Option LineFault
known_fault None words = Some UnknownWord
known_fault (Some kinds) words = first_fault kinds end_fault words

abbrev pub call_fault : List (List ℕ) → Option LineFault
call_fault [] = Some MissingWord
call_fault (word ∷ words) = known_fault (behind_in word call_shapes) words

-- the first fault of a line's words; a line of the configuration has none
abbrev pub words_fault : List (List ℕ) → Option LineFault
words_fault [] = Some UnknownWord
words_fault (word ∷ words) =
    if bytes_eq word (codes "call") then first_fault (Positive ∷ Positive ∷ []) call_fault words
    else if bytes_eq word (codes "send") then first_fault (Positive ∷ Positive ∷ []) call_fault words
    else if bytes_eq word (codes "conf") then None
    else known_fault (behind_in word line_shapes) words

abbrev pub is_line_feed : Option ℕ → Bool
is_line_feed None = false
is_line_feed (Some b) = b == 10

-- the bytes before a line feed at the end
abbrev pub before_feed : List ℕ → List ℕ
before_feed bytes = take (length bytes - 1) bytes

-- the bytes of a line but for its line feed, if it has one
abbrev pub text_of_line : List ℕ → List ℕ
text_of_line bytes = if is_line_feed (last_or None bytes) then before_feed bytes else bytes

-- why a line with its line feed, or the rest of a recording without one, is no line of the grammar
unfoldable pub line_fault : List ℕ → Option LineFault
line_fault bytes =
    if not (nat_le (length (text_of_line bytes)) line_limit) then Some TooLong
    else if not (is_line_feed (last_or None bytes)) then Some Ended
    else if list_any (λ b. b == 10) (text_of_line bytes) then Some ExtraWord
    else words_fault (slice_split (λ b. b == 32) (text_of_line bytes))
