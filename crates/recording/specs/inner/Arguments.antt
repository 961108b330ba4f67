-- How words are read as values, one after another: a reading gives a value and the words behind it.
use Rattle.std.specs.Prelude.{ℕ, ◌≡◌, nat_le, Bool, if◌then◌else◌, Option, Some, None, Result, Ok, Err, List, [], ◌∷◌, length, codes}
use Rattle.std.specs.Option.{option_and_then, option_map}
use Rattle.std.specs.Str.{bytes_eq}
use Rattle.login_base.specs.Number.{number_of}
use Rattle.login_base.specs.declared.ids.Uid.{Uid}
use Rattle.login_base.specs.declared.ids.ConnId.{ConnId}
use Rattle.login_base.specs.declared.ids.HandleNo.{HandleNo}
use Rattle.login_base.specs.declared.ids.DevNo.{DevNo}
use Rattle.login_model.specs.declared.call.Creation.{Creation}
use Rattle.login_model.specs.declared.call.Inhibition.{Inhibition}
use Rattle.login_model.specs.declared.call.PropertyName.{PropertyName}
use Rattle.recording.specs.declared.line.LineFault.{LineFault}
use Rattle.recording.specs.declared.line.LineFault.TheVariants.{NoMemory}
use Rattle.recording.specs.declared.argument.WordKind.{WordKind}
use Rattle.recording.specs.declared.word.Misread.{Misread}
use Rattle.recording.specs.declared.word.Misread.TheVariants.{Misfit, NoMemory as Unread}
use Rattle.recording.specs.Words.{flag_of, text_of}
use Rattle.recording.specs.Causes.{first_fault}
use Rattle.recording.specs.Limits.{line_limit}

-- a reading of one word
abbrev pub single : {T : Type 0} → (List ℕ → Option T) → List (List ℕ) → Option (T × List (List ℕ))
single read [] = None
single read (word ∷ words) = option_map (λ x. (x, words)) (read word)

-- one reading, and another behind it
abbrev pub pair_of : {A B : Type 0} → (List (List ℕ) → Option (A × List (List ℕ))) → (List (List ℕ) → Option (B × List (List ℕ))) → List (List ℕ) → Option ((A × B) × List (List ℕ))
pair_of a b words = option_and_then (λ x. option_map (λ y. ((x.0, y.0), y.1)) (b x.1)) (a words)

-- what is made of a reading's value
abbrev pub made : {A B : Type 0} → (A → B) → (List (List ℕ) → Option (A × List (List ℕ))) → List (List ℕ) → Option (B × List (List ℕ))
made f a words = option_map (λ x. (f x.0, x.1)) (a words)

-- the value, where no word is left
abbrev pub last_of : {T : Type 0} → T × List (List ℕ) → Option T
last_of (x, []) = Some x
last_of (x, word ∷ words) = None

abbrev pub whole : {T : Type 0} → Option (T × List (List ℕ)) → Option T
whole o = option_and_then last_of o

-- a value where there is no word
abbrev pub alone : {T : Type 0} → T → List (List ℕ) → Option T
alone x [] = Some x
alone x _ = None

-- a text of at most so many bytes
abbrev pub within : ℕ → List ℕ → Option (List ℕ)
within most text = if nat_le (length text) most then Some text else None

abbrev pub name_of : ℕ → List ℕ → Option (List ℕ)
name_of most word = option_and_then (within most) (text_of line_limit word)

abbrev pub version_of : List ℕ → Option ℕ
version_of word = if bytes_eq word (codes "1") then Some 1 else None

abbrev pub user_id : ℕ → Uid
user_id n = record { 0 = n }

abbrev pub connection_id : ℕ → ConnId
connection_id n = record { 0 = n }

abbrev pub handle_number : ℕ → HandleNo
handle_number n = record { 0 = n }

abbrev pub numbers : List (List ℕ) → Option (ℕ × List (List ℕ))
numbers words = single number_of words

abbrev pub texts : List (List ℕ) → Option (List ℕ × List (List ℕ))
texts words = single (text_of line_limit) words

abbrev pub users : List (List ℕ) → Option (Uid × List (List ℕ))
users words = made user_id numbers words

abbrev pub device_number : ℕ × ℕ → DevNo
device_number x = record { major = x.0; minor = x.1 }

abbrev pub devices : List (List ℕ) → Option (DevNo × List (List ℕ))
devices words = made device_number (pair_of numbers numbers) words

abbrev pub property : List ℕ × (List ℕ × List ℕ) → PropertyName
property x = record { path = x.0; interface = x.1.0; name = x.1.1 }

abbrev pub properties : List (List ℕ) → Option (PropertyName × List (List ℕ))
properties words = made property (pair_of texts (pair_of texts texts)) words

abbrev pub inhibition : (List ℕ × List ℕ) × (List ℕ × List ℕ) → Inhibition
inhibition x = record { what = x.0.0; who = x.0.1; why = x.1.0; mode = x.1.1 }

abbrev pub inhibitions : List (List ℕ) → Option (Inhibition × List (List ℕ))
inhibitions words = made inhibition (pair_of (pair_of texts texts) (pair_of texts texts)) words

-- whose a session is, what it is for, where it is, and where its user is
abbrev pub Created : Type 0
Created = ((Uid × (ℕ × List ℕ)) × (List ℕ × (List ℕ × List ℕ))) × ((List ℕ × (ℕ × List ℕ)) × ((List ℕ × Bool) × (List ℕ × List ℕ)))

abbrev pub creation : Created → Creation
creation x = record {
  uid = x.0.0.0;
  process = x.0.0.1.0;
  service = x.0.0.1.1;
  session_type = x.0.1.0;
  class = x.0.1.1.0;
  desktop = x.0.1.1.1;
  seat = x.1.0.0;
  vt = x.1.0.1.0;
  tty = x.1.0.1.1;
  display = x.1.1.0.0;
  remote = x.1.1.0.1;
  remote_user = x.1.1.1.0;
  remote_host = x.1.1.1.1;
}

abbrev pub creations : List (List ℕ) → Option (Creation × List (List ℕ))
creations words =
    made creation (pair_of (pair_of (pair_of users (pair_of numbers texts)) (pair_of texts (pair_of texts texts)))
    (pair_of (pair_of texts (pair_of numbers texts)) (pair_of (pair_of texts (single flag_of)) (pair_of texts texts)))) words

-- a value was read of words of these kinds, and this is left
pub record Takes {T : Type 0} (kinds : List WordKind) (of : List (List ℕ) → Option (T × List (List ℕ))) (words : List (List ℕ)) (x : T) (rest : List (List ℕ)) : Type 0 where
  pub gives : of words ≡ Some (x, rest)
  pub goes_on : (behind : List (List ℕ) → Option LineFault) → first_fault kinds behind words ≡ behind rest

-- words of these kinds have this fault, whatever stands behind them
abbrev pub Refuses : List WordKind → List (List ℕ) → LineFault → Type 0
Refuses kinds words fault = (behind : List (List ℕ) → Option LineFault) → first_fault kinds behind words ≡ Some fault

-- a reading gives the value that there is, or the fault; want of memory may come at any time
abbrev pub Reads : {T : Type 0} → Option T → Option LineFault → Result T LineFault → Type 0
Reads o fault (Ok x) = o ≡ Some x
Reads o fault (Err NoMemory) = Unit {0}
Reads o fault (Err found) = fault ≡ Some found

-- a word that is misread has this cause
abbrev pub Misreads : {T : Type 0} → LineFault → Result T Misread → Result T LineFault → Type 0
Misreads cause (Ok x) found = found ≡ Ok x
Misreads cause (Err Misfit) found = found ≡ Err cause
Misreads cause (Err Unread) found = found ≡ Err NoMemory
