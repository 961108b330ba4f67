-- What the words of a call say, as its reader goes over them.
use Rattle.std.specs.Prelude.{ℕ, ℤ, Bool, if◌then◌else◌, Option, None, List, [], ◌∷◌, codes}
use Rattle.std.specs.Option.{option_map}
use Rattle.std.specs.Str.{bytes_eq}
use Rattle.login_base.specs.declared.ids.HandleNo.{HandleNo}
use Rattle.login_model.specs.declared.call.Call.{Call}
use Rattle.login_model.specs.declared.call.Call.TheVariants as call
use Rattle.login_model.specs.Words.{operation_named}
use Rattle.recording.specs.Words.{flag_of, signed_of}
use Rattle.recording.specs.inner.Arguments.{single, pair_of, made, whole, alone, handle_number, numbers, texts, users, devices, properties, inhibitions, creations}

abbrev pub handles : List (List ℕ) → Option (HandleNo × List (List ℕ))
handles words = made handle_number numbers words

abbrev pub flags : List (List ℕ) → Option (Bool × List (List ℕ))
flags words = single flag_of words

abbrev pub signeds : List (List ℕ) → Option (ℤ × List (List ℕ))
signeds words = single signed_of words

-- a call of the bus itself, of a property, or a word for another message
unfoldable pub other_call_of : List ℕ → List (List ℕ) → Option Call
other_call_of word words =
    if bytes_eq word (codes "get") then option_map call.GetProperty (whole (properties words))
    else if bytes_eq word (codes "get-all") then option_map (λ x. call.GetAllProperties x.0 x.1) (whole (pair_of texts texts words))
    else if bytes_eq word (codes "set") then option_map call.SetProperty (whole (properties words))
    else if bytes_eq word (codes "ping") then alone call.Ping words
    else if bytes_eq word (codes "machine-id") then alone call.GetMachineId words
    else if bytes_eq word (codes "hello") then alone call.Hello words
    else if bytes_eq word (codes "owner") then option_map call.GetNameOwner (whole (texts words))
    else if bytes_eq word (codes "add-match") then option_map call.AddMatch (whole (texts words))
    else if bytes_eq word (codes "remove-match") then option_map call.RemoveMatch (whole (texts words))
    else if bytes_eq word (codes "nothing") then alone call.NoCall words
    else if bytes_eq word (codes "no-object") then alone call.NoObject words
    else if bytes_eq word (codes "no-method") then alone call.NoMethod words
    else if bytes_eq word (codes "bad-args") then alone call.BadArguments words
    else None

-- a call of a seat, a user or the machine, or one of the others
unfoldable pub seat_call_of : List ℕ → List (List ℕ) → Option Call
seat_call_of word words =
    if bytes_eq word (codes "switch") then option_map (λ x. call.SwitchTo x.0 x.1) (whole (pair_of texts numbers words))
    else if bytes_eq word (codes "next") then option_map call.SwitchToNext (whole (texts words))
    else if bytes_eq word (codes "prev") then option_map call.SwitchToPrevious (whole (texts words))
    else if bytes_eq word (codes "terminate-seat") then option_map call.TerminateSeat (whole (texts words))
    else if bytes_eq word (codes "terminate-user") then option_map call.TerminateUser (whole (users words))
    else if bytes_eq word (codes "kill-user") then option_map (λ x. call.KillUser x.0 x.1) (whole (pair_of users signeds words))
    else if bytes_eq word (codes "linger") then option_map (λ x. call.SetLinger x.0 x.1) (whole (pair_of users flags words))
    else if bytes_eq word (codes "read") then option_map call.ReadInput (whole (handles words))
    else if bytes_eq word (codes "set-mode") then option_map (λ x. call.SetMode x.0 x.1) (whole (pair_of handles numbers words))
    else if bytes_eq word (codes "close") then option_map call.Close (whole (handles words))
    else other_call_of word words

-- a call of a session, or one of the others
unfoldable pub session_call_of : List ℕ → List (List ℕ) → Option Call
session_call_of word words =
    if bytes_eq word (codes "activate") then option_map call.Activate (whole (texts words))
    else if bytes_eq word (codes "activate-on") then option_map (λ x. call.ActivateOnSeat x.0 x.1) (whole (pair_of texts texts words))
    else if bytes_eq word (codes "lock") then option_map call.Lock (whole (texts words))
    else if bytes_eq word (codes "unlock") then option_map call.Unlock (whole (texts words))
    else if bytes_eq word (codes "kill") then option_map (λ x. call.Kill x.0 x.1.0 x.1.1) (whole (pair_of texts (pair_of texts signeds) words))
    else if bytes_eq word (codes "terminate") then option_map call.Terminate (whole (texts words))
    else if bytes_eq word (codes "idle") then option_map (λ x. call.SetIdle x.0 x.1) (whole (pair_of texts flags words))
    else if bytes_eq word (codes "locked") then option_map (λ x. call.SetLocked x.0 x.1) (whole (pair_of texts flags words))
    else if bytes_eq word (codes "control") then option_map (λ x. call.Control x.0 x.1) (whole (pair_of texts flags words))
    else if bytes_eq word (codes "uncontrol") then option_map call.Uncontrol (whole (texts words))
    else if bytes_eq word (codes "take") then option_map (λ x. call.TakeDevice x.0 x.1) (whole (pair_of texts devices words))
    else if bytes_eq word (codes "release") then option_map (λ x. call.ReleaseDevice x.0 x.1) (whole (pair_of texts devices words))
    else if bytes_eq word (codes "paused") then option_map (λ x. call.PauseComplete x.0 x.1) (whole (pair_of texts devices words))
    else seat_call_of word words

-- a call of the manager, or one of the others
unfoldable pub manager_call_of : List ℕ → List (List ℕ) → Option Call
manager_call_of word words =
    if bytes_eq word (codes "create") then option_map call.Create (whole (creations words))
    else if bytes_eq word (codes "get-session") then option_map call.GetSession (whole (texts words))
    else if bytes_eq word (codes "get-user") then option_map call.GetUser (whole (users words))
    else if bytes_eq word (codes "get-seat") then option_map call.GetSeat (whole (texts words))
    else if bytes_eq word (codes "list-sessions") then alone call.ListSessions words
    else if bytes_eq word (codes "list-users") then alone call.ListUsers words
    else if bytes_eq word (codes "list-seats") then alone call.ListSeats words
    else if bytes_eq word (codes "list-inhibitors") then alone call.ListInhibitors words
    else if bytes_eq word (codes "lock-all") then alone call.LockAll words
    else if bytes_eq word (codes "unlock-all") then alone call.UnlockAll words
    else if bytes_eq word (codes "power") then option_map call.Power (whole (single operation_named words))
    else if bytes_eq word (codes "can") then option_map call.Can (whole (single operation_named words))
    else if bytes_eq word (codes "inhibit") then option_map call.Inhibit (whole (inhibitions words))
    else session_call_of word words

-- by the first word
unfoldable pub call_of : List (List ℕ) → Option Call
call_of [] = None
call_of (word ∷ words) = manager_call_of word words
