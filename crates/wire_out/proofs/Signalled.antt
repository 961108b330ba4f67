-- The signals of a notice can be written.
use Rattle.std.proofs.Common.{◌≡◌, ℕ, ◌+◌, ◌≤◌, List, [], ◌∷◌, ◌++◌, length, Bool, true, false, Option, Some, None, refl, arith, codes}
use Rattle.std.specs.List.{AllByRecursion}
use Rattle.login_base.specs.declared.ids.SessId.{SessId}
use Rattle.login_base.specs.declared.ids.Uid.{Uid}
use Rattle.login_base.specs.declared.ids.DevNo.{DevNo}
use Rattle.login_model.specs.Paths.{seat_path, session_path, user_path}
use Rattle.login_model.specs.Words.{pause_word}
use Rattle.login_model.specs.declared.mark.Notice.{Notice}
use Rattle.login_model.specs.declared.mark.Notice.TheVariants as notice
use Rattle.login_model.specs.declared.mark.PauseKind.{PauseKind}
use Rattle.login_model.specs.declared.mark.PauseKind.TheVariants as pause
use Rattle.bus_names.specs.declared.basic.Basic.TheVariants as kinds
use Rattle.bus_names.specs.Signatures.{IsWithin}
use Rattle.bus_names.specs.Types.{signature_text}
use Rattle.bus_names.specs.Types as types
use Rattle.bus_value.specs.declared.basic_value.BasicValue.TheVariants.{Str}
use Rattle.bus_value.specs.declared.order.Order.TheVariants.{Little}
use Rattle.bus_value.specs.Grammar as rules_of
use Rattle.bus_value.specs.Lengths.{basic_end, entries_end, value_end}
use Rattle.bus_value.specs.Nesting.{nesting}
use Rattle.bus_value.specs.Spelling.{first_element, next_boundary, spelling}
use Rattle.login_base.specs.Texts.{is_text}
use Rattle.bus_value.specs.Typed as typed
use Rattle.bus_value.specs.Values.{Val, array, dict, entry, no_entries, none, shape, shapes, vals, variant}
use Rattle.bus_message.specs.declared.message.Message.{Message}
use Rattle.wire_out.specs.Messages.{flag, number, path, text}
use Rattle.wire_out.specs.Signals.{active_changed, changed, manager_signal, seat_changed, session_signal, signals}
use Rattle.wire_out.specs.References.{session_reference}
use Rattle.wire_out.specs.inner.Parts.{IsBody, IsWritable, most_body}
use Rattle.wire_out.specs.inner.Sendable.{CanBeTold, IsSeat}
use Rattle.wire_out.specs.inner.Numbers.{HasNoticeNumbers, IsNumber, IsNumberIf}
use Rattle.wire_out.proofs.Properties.{reference_part}
use Rattle.wire_out.proofs.ValueParts.{body_of, id_part, one, seat_reference_parts, session_part, user_part}
use Rattle.wire_out.proofs.Parts.{IsPart, entries_room, flag_part, more_parts, no_parts, number_part, text_part, weaker}
use Rattle.wire_out.proofs.Texts.{plain_text, seat_path_short, session_path_short}
use Rattle.wire_out.proofs.Writable.{signal_writable}

-- ---- signals of sessions and of the manager

of_session : (s : SessId) (member : List ℕ) (vs : List Val) → IsNumber s.0 → length member ≤ 255 → IsBody most_body vs → IsWritable (session_signal s member vs)
of_session s member vs n short b = let l = session_path_short s n in signal_writable (session_path s) _ member vs (omega (arith, l)) (omega arith) short b

of_manager : (member : List ℕ) (vs : List Val) → length member ≤ 255 → IsBody most_body vs → IsWritable (manager_signal member vs)
of_manager member vs short b = signal_writable _ _ member vs (omega arith) (omega arith) short b

pause_part : (k : PauseKind) → IsPart 16 (text (pause_word k))
pause_part pause.Pause = weaker 13 16 (text (codes "pause")) (omega arith) (text_part (codes "pause") (plain_text (codes "pause") refl) (omega arith))
pause_part pause.Force = weaker 13 16 (text (codes "force")) (omega arith) (text_part (codes "force") (plain_text (codes "force") refl) (omega arith))
pause_part pause.Gone = weaker 12 16 (text (codes "gone")) (omega arith) (text_part (codes "gone") (plain_text (codes "gone") refl) (omega arith))

device_body : (n : ℕ) (d : DevNo) (v : Val) → IsNumber d.major → IsNumber d.minor → IsPart n v → n ≤ 16 → IsWithin (shapes (vals (number d.major ∷ number d.minor ∷ v ∷ []))) → IsBody most_body (number d.major ∷ number d.minor ∷ v ∷ [])
device_body n d v a b p small w =
    body_of (8 + (8 + (n + 0))) _ w (omega (arith, small)) (more_parts 8 (8 + (n + 0)) _ _ (number_part d.major a) (more_parts 8 (n + 0) _ _ (number_part d.minor b) (one n v p)))

session_body : (s : SessId) → IsNumber s.0 → IsBody most_body (session_reference s)
session_body s n =
    body_of 140 (session_reference s) (record { nested = record { in_arrays = omega arith; in_structs = omega arith }; short = omega arith }) (omega arith)
    (more_parts 32 108 _ _ (id_part s n) (one 108 _ (session_part s n)))

user_body : (u : Uid) → IsNumber u.0 → IsBody most_body (number u.0 ∷ path (user_path u) ∷ [])
user_body u n =
    body_of 56 (number u.0 ∷ path (user_path u) ∷ []) (record { nested = record { in_arrays = omega arith; in_structs = omega arith }; short = omega arith }) (omega arith)
    (more_parts 8 48 _ _ (number_part u.0 n) (one 48 _ (user_part u n)))

seat_body : (seat : List ℕ) → IsSeat seat → IsBody most_body (text seat ∷ path (seat_path seat) ∷ [])
seat_body seat h =
    body_of 1071 (text seat ∷ path (seat_path seat) ∷ []) (record { nested = record { in_arrays = omega arith; in_structs = omega arith }; short = omega arith }) (omega arith)
    (seat_reference_parts seat h)

flag_body : (b : Bool) → IsBody most_body (flag b ∷ [])
flag_body b = body_of 8 (flag b ∷ []) (record { nested = record { in_arrays = omega arith; in_structs = omega arith }; short = omega arith }) (omega arith) (one 8 _ (flag_part b))

no_body : IsBody most_body []
no_body = body_of 0 [] (record { nested = record { in_arrays = omega arith; in_structs = omega arith }; short = omega arith }) (omega arith) no_parts

-- ---- properties that changed

abbrev changed_values : List ℕ → List ℕ → Val → List Val
changed_values interface property v =
    text interface ∷ dict kinds.Str types.variant (entry (Str property) (variant v) no_entries) ∷ array (types.basic kinds.Str) none ∷ []

property_bound : (at m : ℕ) (property : List ℕ) (v : Val) → length property ≤ 255 → IsWithin (shape v ∷ []) → m ≤ 255 → IsPart m v
    → entries_end (first_element at 8) (entry (Str property) (variant v) no_entries) ≤ at + 1024
property_bound at m property v short w small p =
    let s = p.short (basic_end (next_boundary (first_element at 8)) (Str property) + (length (signature_text (shape v ∷ [])) + 2)) in
    let l = w.short in
    omega (arith, s, l, short, small)

property_body : (interface property : List ℕ) (v : Val) (m : ℕ) → is_text interface ≡ true → length interface ≤ 255 → is_text property ≡ true → length property ≤ 255
    → IsWithin (shapes (vals (changed_values interface property v))) → IsWithin (shape v ∷ []) → nesting (shape v) ≤ 8 → m ≤ 255 → IsPart m v
    → IsBody most_body (changed_values interface property v)
property_body interface property v m i long q short ws w deep small p = record {
  types = ws;
  typed =
      typed.more (typed.basic Little _ (rules_of.string i (omega (arith, long))))
      (typed.more (typed.dict (typed.array (typed.more (typed.struct (typed.more (typed.basic Little _ (rules_of.string q (omega (arith, short)))) (typed.more (typed.variant (omega (arith, deep)) (p.typed 3)) typed.none))) typed.none)))
      (typed.more (typed.array typed.none) typed.none));
  fits = λ at.
      let next : ℕ = at + length (spelling Little at (text interface)) in
      let bound = property_bound next m property v short w small p in (
        omega (arith, long),
        (
          (entries_room next 1024 (entry (Str property) (variant v) no_entries) bound (omega arith), ((omega (arith, short), (w, p.fits _)), tt)),
          ((omega arith, tt), tt),
        ),
      );
  short = λ at.
      let a = property_bound (value_end at (text interface)) m property v short w small p in
      omega (arith, a, long);
}

changed_writable : (object interface property : List ℕ) (v : Val) → length object ≤ 1024 → IsBody most_body (changed_values interface property v)
    → IsWritable (changed object interface property v)
changed_writable object interface property v short b = signal_writable object _ _ _ short (omega arith) (omega arith) b

active_writable : (before : Option SessId) (b : Bool) → IsNumberIf before → AllByRecursion IsWritable (active_changed before b)
active_writable None b n = tt
active_writable (Some s) b n =
    let l = session_path_short s n in (
      changed_writable (session_path s) (codes "org.freedesktop.login1.Session") (codes "Active") (flag b) (omega (arith, l))
          (property_body (codes "org.freedesktop.login1.Session") (codes "Active") (flag b) 8 (plain_text (codes "org.freedesktop.login1.Session") refl) (omega arith) (plain_text (codes "Active") refl) (omega arith)
          (record { nested = record { in_arrays = omega arith; in_structs = omega arith }; short = omega arith })
          (record { nested = record { in_arrays = omega arith; in_structs = omega arith }; short = omega arith })
          (omega arith) (omega arith) (flag_part b)),
      tt,
    )

seat_writable : (seat : List ℕ) (now : Option SessId) → IsSeat seat → IsNumberIf now → IsWritable (seat_changed seat now)
seat_writable seat (Some s) h n =
    let l = seat_path_short seat h in
    changed_writable (seat_path seat) (codes "org.freedesktop.login1.Seat") (codes "ActiveSession") _ (omega (arith, l))
    (property_body (codes "org.freedesktop.login1.Seat") (codes "ActiveSession") _ 91 (plain_text (codes "org.freedesktop.login1.Seat") refl) (omega arith) (plain_text (codes "ActiveSession") refl) (omega arith)
    (record { nested = record { in_arrays = omega arith; in_structs = omega arith }; short = omega arith })
    (record { nested = record { in_arrays = omega arith; in_structs = omega arith }; short = omega arith })
    (omega arith) (omega arith) (reference_part (Some s) n))
seat_writable seat None h n =
    let l = seat_path_short seat h in
    changed_writable (seat_path seat) (codes "org.freedesktop.login1.Seat") (codes "ActiveSession") _ (omega (arith, l))
    (property_body (codes "org.freedesktop.login1.Seat") (codes "ActiveSession") _ 91 (plain_text (codes "org.freedesktop.login1.Seat") refl) (omega arith) (plain_text (codes "ActiveSession") refl) (omega arith)
    (record { nested = record { in_arrays = omega arith; in_structs = omega arith }; short = omega arith })
    (record { nested = record { in_arrays = omega arith; in_structs = omega arith }; short = omega arith })
    (omega arith) (omega arith) (reference_part None n))

both_all : (xs ys : List Message) → AllByRecursion IsWritable xs → AllByRecursion IsWritable ys → AllByRecursion IsWritable (xs ++ ys)
both_all [] ys g h = h
both_all (x ∷ xs) ys g h = (g.0, both_all xs ys g.1 h)

-- ---- all signals

pub signals_writable : (n : Notice) → CanBeTold n → HasNoticeNumbers n → AllByRecursion IsWritable (signals n)
unfolding signals
signals_writable (notice.Pause s d kind) c n = (
  of_session s (codes "PauseDevice") _ n.session (omega arith)
      (device_body 16 d _ n.major n.minor (pause_part kind) (omega arith) (record { nested = record { in_arrays = omega arith; in_structs = omega arith }; short = omega arith })),
  tt,
)
signals_writable (notice.Resume s d h) c n = (
  of_session s (codes "ResumeDevice") _ n.0.session (omega arith)
      (device_body 8 d _ n.0.major n.0.minor (number_part h.0 n.1) (omega arith) (record { nested = record { in_arrays = omega arith; in_structs = omega arith }; short = omega arith })),
  tt,
)
signals_writable (notice.Lock s) c n = (of_session s (codes "Lock") [] n (omega arith) no_body, tt)
signals_writable (notice.Unlock s) c n = (of_session s (codes "Unlock") [] n (omega arith) no_body, tt)
signals_writable (notice.SessionNew s) c n = (of_manager (codes "SessionNew") _ (omega arith) (session_body s n), tt)
signals_writable (notice.SessionRemoved s) c n = (of_manager (codes "SessionRemoved") _ (omega arith) (session_body s n), tt)
signals_writable (notice.UserNew u) c n = (of_manager (codes "UserNew") _ (omega arith) (user_body u n), tt)
signals_writable (notice.UserRemoved u) c n = (of_manager (codes "UserRemoved") _ (omega arith) (user_body u n), tt)
signals_writable (notice.SeatNew seat) c n = (of_manager (codes "SeatNew") _ (omega arith) (seat_body seat c), tt)
signals_writable (notice.SeatRemoved seat) c n = (of_manager (codes "SeatRemoved") _ (omega arith) (seat_body seat c), tt)
signals_writable (notice.PrepareShutdown begins) c n = (of_manager (codes "PrepareForShutdown") _ (omega arith) (flag_body begins), tt)
signals_writable (notice.PrepareSleep begins) c n = (of_manager (codes "PrepareForSleep") _ (omega arith) (flag_body begins), tt)
signals_writable (notice.Active seat before now) c n =
    both_all (active_changed before false) _ (active_writable before false n.0)
    (both_all (active_changed now true) _ (active_writable now true n.1) (seat_writable seat now c n.1, tt))
