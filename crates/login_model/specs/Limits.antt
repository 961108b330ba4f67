-- The limits that rules, journals and texts keep.
use Rattle.std.specs.Prelude.{ℕ}

-- the entries and the marks of a journal
abbrev pub entries_limit : ℕ
entries_limit = 200000

abbrev pub marks_limit : ℕ
marks_limit = 4000000

-- the clients that are connected at once
abbrev pub links_limit : ℕ
links_limit = 64

-- the devices that are there, and those that a session has taken
abbrev pub devices_limit : ℕ
devices_limit = 4096

abbrev pub taken_limit : ℕ
taken_limit = 128

-- the inputs that a read answers
abbrev pub inputs_limit : ℕ
inputs_limit = 64

-- the users of a setup
abbrev pub users_limit : ℕ
users_limit = 1024

-- the sessions and the locks that a configuration lets there be
abbrev pub allowed_limit : ℕ
allowed_limit = 32768

-- the longest time of a configuration, in milliseconds
abbrev pub span_limit : ℕ
span_limit = 4000000000000

-- the bytes of a text of an event, and of a user's name
abbrev pub text_limit : ℕ
text_limit = 512

abbrev pub name_limit : ℕ
name_limit = 255

-- the virtual terminals and the signals, each from 1
abbrev pub last_terminal : ℕ
last_terminal = 63

abbrev pub last_signal : ℕ
last_signal = 64
