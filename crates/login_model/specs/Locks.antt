-- Inhibitor locks: what they name, and what they hold up.
use Rattle.std.specs.Prelude.{ℕ, ◌==◌, Bool, List, filter}
use Rattle.std.specs.List.{list_any, list_all, slice_split}
use Rattle.std.specs.Option.{is_some, unwrap_or}
use Rattle.std.specs.Str.{bytes_eq}
use Rattle.login_base.specs.declared.ids.ConnId.{ConnId}
use Rattle.login_base.specs.declared.ids.LockNo.{LockNo}
use Rattle.login_base.specs.declared.ids.Uid.{Uid}
use Rattle.login_model.specs.declared.call.Inhibition.{Inhibition}
use Rattle.login_model.specs.declared.fact.Key.TheVariants as key
use Rattle.login_model.specs.declared.hardware.HardKey.{HardKey}
use Rattle.login_model.specs.declared.hardware.HardKey.TheVariants as hard
use Rattle.login_model.specs.declared.lock.Inhibited.{Inhibited}
use Rattle.login_model.specs.declared.lock.Lock.{Lock}
use Rattle.login_model.specs.declared.lock.LockMode.{LockMode}
use Rattle.login_model.specs.declared.lock.LockMode.TheVariants.{Block}
use Rattle.login_model.specs.declared.operation.OpKind.{OpKind}
use Rattle.login_model.specs.Facts.{handles_key, holds_back}
use Rattle.login_model.specs.Trail.{Trail, value}
use Rattle.login_model.specs.Where.{locks}
use Rattle.login_model.specs.Words.{handled_word, idle_word, lock_words, mode_named, shutdown_word, sleep_word}

-- the words of what is inhibited, which colons part
abbrev pub words_in : List ℕ → List (List ℕ)
words_in text = slice_split (λ b. b == 58) text

abbrev pub has_word : List (List ℕ) → List ℕ → Bool
has_word words word = list_any (λ w. bytes_eq w word) words

abbrev pub is_what : List ℕ → Bool
is_what text = list_all (has_word lock_words) (words_in text)

abbrev pub is_mode : List ℕ → Bool
is_mode text = is_some (mode_named text)

-- what a text of such words names
abbrev pub what_in : List (List ℕ) → Inhibited
what_in words = record {
  shutdown = has_word words shutdown_word;
  sleep = has_word words sleep_word;
  idle = has_word words idle_word;
  handle_power_key = has_word words (handled_word hard.Power);
  handle_suspend_key = has_word words (handled_word hard.Suspend);
  handle_hibernate_key = has_word words (handled_word hard.Hibernate);
  handle_lid_switch = has_word words (handled_word hard.Lid);
}

unfoldable pub what_of : List ℕ → Inhibited
what_of text = what_in (words_in text)

unfoldable pub mode_of : List ℕ → LockMode
mode_of text = unwrap_or (mode_named text) Block

-- the lock that a call asks for
abbrev pub asked_lock : ConnId → Uid → Inhibition → Lock
asked_lock c u x = record { what = what_of x.what; mode = mode_of x.mode; uid = u; who = x.who; why = x.why; holder = c }

-- the locks of a mode that hold up an operation, in order
unfoldable pub matching : Trail → OpKind → LockMode → List LockNo
matching t k mode = filter (λ l. holds_back k mode (value t (key.Lock l))) (locks t)

-- the locks of any mode that take a key from the login manager, in order
unfoldable pub key_locks : Trail → HardKey → List LockNo
key_locks t k = filter (λ l. handles_key k (value t (key.Lock l))) (locks t)
