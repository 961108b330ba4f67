-- The bodies of replies and signals can be written.
use Rattle.std.proofs.Common.{◌≡◌, ℕ, ◌+◌, ◌*◌, ◌^◌, ◌≤◌, List, [], ◌∷◌, length, map, false, refl, arith, codes}
use Rattle.std.proofs.lemmas.List.{length-map}
use Rattle.std.proofs.Math.Nat.{mul-le-mul_right}
use Rattle.std.specs.Fmt.{decimal}
use Rattle.login_base.specs.declared.ids.ConnId.{ConnId}
use Rattle.login_base.specs.declared.ids.Uid.{Uid}
use Rattle.login_base.proofs.Decimals.{decimal_short}
use Rattle.login_model.specs.Paths.{runtime_path, seat_path, session_path, unique_name, user_path}
use Rattle.login_model.specs.Words.{mode_word, say_word}
use Rattle.login_model.specs.Texts.{IsText}
use Rattle.login_model.specs.declared.answer.Answer.{Answer}
use Rattle.login_model.specs.declared.answer.Answer.TheVariants as answer
use Rattle.login_model.specs.declared.answer.Created.{Created}
use Rattle.login_model.specs.declared.answer.Input.{Input}
use Rattle.login_model.specs.declared.answer.KnownUser.{KnownUser}
use Rattle.login_model.specs.declared.answer.SessionRow.{SessionRow}
use Rattle.login_model.specs.declared.lock.Lock.{Lock}
use Rattle.login_model.specs.declared.lock.LockMode.{LockMode}
use Rattle.login_model.specs.declared.lock.LockMode.TheVariants as mode
use Rattle.login_model.specs.declared.table.Say.{Say}
use Rattle.login_model.specs.declared.table.Say.TheVariants as says
use Rattle.bus_names.specs.Signatures.{IsWithin}
use Rattle.bus_names.specs.declared.basic.Basic.TheVariants as kinds
use Rattle.bus_names.specs.Types.{Shape, basic, struct_of}
use Rattle.bus_value.specs.Values.{Val, shape}
use Rattle.wire_out.specs.Messages.{flag, number, path, structure, text}
use Rattle.wire_out.specs.Replies.{answer_values, created_values, input_type, input_values, lock_type, lock_values, reference_type, rows, session_type, session_values, user_type, user_values}
use Rattle.wire_out.specs.References.{seat_reference}
use Rattle.wire_out.specs.inner.Parts.{IsBody, most_body}
use Rattle.wire_out.specs.inner.Sendable.{CanBeAnswered, IsLockRow, IsSeat, IsSeatIf, IsSessionRow}
use Rattle.wire_out.specs.inner.Numbers.{HasAnswerNumbers, HasCreatedNumbers, HasInputNumbers, HasLockNumbers, HasSessionNumbers, IsNumber}
use Rattle.wire_out.proofs.Parts.{AreParts, AreRows, IsPart, array_part, flag_part, half_part, more_parts, no_parts, number_part, signed_part, struct_part, text_part, weaker}
use Rattle.wire_out.proofs.Texts.{ArePlain, decimal_plain, plain_append, plain_text, runtime_plain, runtime_short, text_is}
use Rattle.wire_out.proofs.Properties.{rows_body, value_body}
use Rattle.wire_out.proofs.ValueParts.{all_there, body_of, id_part, one, rows_by, said_part, seat_if_part, seat_part, seat_reference_parts, session_part, user_part, what_part}

directory_part : (u : Uid) → IsNumber u.0 → IsPart 38 (text (runtime_path u))
directory_part u h =
    let l = runtime_short u h in
    weaker (length (runtime_path u) + 8) 38 (text (runtime_path u)) (omega (arith, l)) (text_part (runtime_path u) (plain_text (runtime_path u) (runtime_plain u h)) (omega (arith, l)))

-- ---- rows of lists

session_values_parts : (x : SessionRow) → IsSessionRow x → HasSessionNumbers x → AreParts 674 (session_values x)
session_values_parts x h n =
    let named = weaker (length x.name + 8) 263 (text x.name) (omega (arith, h.named.short)) (text_part x.name (text_is 255 x.name h.named) (omega (arith, h.named.short))) in
    more_parts 32 642 _ _ (id_part x.session n.session)
    (more_parts 8 634 _ _ (number_part x.uid.0 n.uid)
    (more_parts 263 371 _ _ named
    (more_parts 263 108 _ _ (seat_if_part x.seat h.seat)
    (more_parts 108 0 _ _ (session_part x.session n.session) no_parts))))

user_values_parts : (x : KnownUser) → IsText 255 x.name → IsNumber x.uid.0 → AreParts 319 (user_values x)
user_values_parts x h n =
    let named = weaker (length x.name + 8) 263 (text x.name) (omega (arith, h.short)) (text_part x.name (text_is 255 x.name h) (omega (arith, h.short))) in
    more_parts 8 311 _ _ (number_part x.uid.0 n) (more_parts 263 48 _ _ named (more_parts 48 0 _ _ (user_part x.uid n) no_parts))

mode_part : (m : LockMode) → IsPart 16 (text (mode_word m))
mode_part mode.Block = weaker 13 16 (text (codes "block")) (omega arith) (text_part (codes "block") (plain_text (codes "block") refl) (omega arith))
mode_part mode.Delay = weaker 13 16 (text (codes "delay")) (omega arith) (text_part (codes "delay") (plain_text (codes "delay") refl) (omega arith))

lock_values_parts : (x : Lock) → IsLockRow x → HasLockNumbers x → AreParts 1175 (lock_values x)
lock_values_parts x h n =
    more_parts 103 1072 _ _ (what_part x.what)
    (more_parts 520 552 _ _ (said_part x.who h.who)
    (more_parts 520 32 _ _ (said_part x.why h.why)
    (more_parts 16 16 _ _ (mode_part x.mode)
    (more_parts 8 8 _ _ (number_part x.uid.0 n.uid)
    (more_parts 8 0 _ _ (number_part x.holder.0 n.holder) no_parts)))))

input_values_parts : (x : Input) → HasInputNumbers x → AreParts 24 (input_values x)
input_values_parts x n =
    more_parts 8 16 _ _ (half_part x.kind n.kind) (more_parts 8 8 _ _ (half_part x.code n.code) (more_parts 8 0 _ _ (signed_part x.value n.value) no_parts))

created_values_parts : (x : Created) → IsSeatIf x.seat → HasCreatedNumbers x → AreParts 473 (created_values x)
created_values_parts x h n =
    more_parts 32 441 _ _ (id_part x.session n.session)
    (more_parts 108 333 _ _ (session_part x.session n.session)
    (more_parts 38 295 _ _ (directory_part x.uid n.uid)
    (more_parts 8 287 _ _ (number_part x.fifo.0 n.fifo)
    (more_parts 8 279 _ _ (number_part x.uid.0 n.uid)
    (more_parts 263 16 _ _ (seat_if_part x.seat h)
    (more_parts 8 8 _ _ (number_part x.vt n.vt)
    (more_parts 8 0 _ _ (flag_part false) no_parts)))))))

-- ---- lists of rows

-- an array of few rows is a part of a body
rows_part : {T : Type 0} (n k : ℕ) (t : Shape) (ts : List Shape) (values : T → List Val) (xs : List T) → AreRows n (struct_of (t ∷ ts)) (map (λ x. structure (values x)) xs)
    → length xs ≤ k → k * n ≤ 2 ^ 26 → IsPart (2 ^ 26 + 16) (rows (struct_of (t ∷ ts)) values xs)
rows_part n k t ts values xs h few small =
    let vs : List Val = map (λ x. structure (values x)) xs in
    let long : length vs ≡ length xs = length-map xs (λ x. structure (values x)) in
    let fewer : length vs * n ≤ k * n = mul-le-mul_right n (omega (arith, long, few)) in
    weaker (length vs * n + 16) (2 ^ 26 + 16) _ (omega (arith, fewer, small)) (array_part n t ts vs h (omega (arith, fewer, small)))

-- ---- bodies

listed_body : (v : Val) → IsWithin (shape v ∷ []) → IsPart (2 ^ 26 + 16) v → IsBody most_body (v ∷ [])
listed_body v w p = body_of (2 ^ 26 + 16 + 0) (v ∷ []) w (omega arith) (one (2 ^ 26 + 16) v p)

say_part : (x : Say) → IsPart 32 (text (say_word x))
say_part says.No = weaker 10 32 (text (codes "no")) (omega arith) (text_part (codes "no") (plain_text (codes "no") refl) (omega arith))
say_part says.Challenge = weaker 17 32 (text (codes "challenge")) (omega arith) (text_part (codes "challenge") (plain_text (codes "challenge") refl) (omega arith))
say_part says.Yes = weaker 11 32 (text (codes "yes")) (omega arith) (text_part (codes "yes") (plain_text (codes "yes") refl) (omega arith))

unique_part : (who : ConnId) → IsNumber who.0 → IsPart 32 (text (unique_name who))
unique_part who n =
    let l = decimal_short who.0 n in
    let p : ArePlain (unique_name who) = plain_append (codes ":1.") (decimal who.0) refl (decimal_plain who.0 (omega (arith, n))) in
    weaker (length (unique_name who) + 8) 32 (text (unique_name who)) (omega (arith, l)) (text_part (unique_name who) (plain_text (unique_name who) p) (omega (arith, l)))

-- the values of a reply are a body
pub answer_body : (x : Answer) → CanBeAnswered x → HasAnswerNumbers x → IsBody most_body (answer_values x)
unfolding answer_values
answer_body answer.Nothing c n = body_of 0 [] (record { nested = record { in_arrays = omega arith; in_structs = omega arith }; short = omega arith }) (omega arith) no_parts
answer_body (answer.Created x) c n = body_of 473 (created_values x) (record { nested = record { in_arrays = omega arith; in_structs = omega arith }; short = omega arith }) (omega arith) (created_values_parts x c n)
answer_body (answer.Session s) c n = body_of 108 (path (session_path s) ∷ []) (record { nested = record { in_arrays = omega arith; in_structs = omega arith }; short = omega arith }) (omega arith) (one 108 _ (session_part s n))
answer_body (answer.User u) c n = body_of 48 (path (user_path u) ∷ []) (record { nested = record { in_arrays = omega arith; in_structs = omega arith }; short = omega arith }) (omega arith) (one 48 _ (user_part u n))
answer_body (answer.Seat seat) c n = body_of 808 (path (seat_path seat) ∷ []) (record { nested = record { in_arrays = omega arith; in_structs = omega arith }; short = omega arith }) (omega arith) (one 808 _ (seat_part seat c))
answer_body (answer.Sessions xs) c n =
    listed_body (rows session_type session_values xs) (record { nested = record { in_arrays = omega arith; in_structs = omega arith }; short = omega arith })
    (rows_part 682 32768 _ (basic kinds.U32 ∷ basic kinds.Str ∷ basic kinds.Str ∷ basic kinds.Path ∷ []) session_values xs
    (rows_by 682 session_type session_values IsSessionRow HasSessionNumbers (λ x p q. (struct_part 674 _ _ (session_values_parts x p q), refl)) xs c.1 n) c.0 (omega arith))
answer_body (answer.Users xs) c n =
    listed_body (rows user_type user_values xs) (record { nested = record { in_arrays = omega arith; in_structs = omega arith }; short = omega arith })
    (rows_part 327 1025 _ (basic kinds.Str ∷ basic kinds.Path ∷ []) user_values xs
    (rows_by 327 user_type user_values (λ (x : KnownUser). IsText 255 x.name) (λ (x : KnownUser). IsNumber x.uid.0) (λ x p q. (struct_part 319 _ _ (user_values_parts x p q), refl)) xs c.1 n) c.0 (omega arith))
answer_body (answer.Seats xs) c n =
    listed_body (rows reference_type seat_reference xs) (record { nested = record { in_arrays = omega arith; in_structs = omega arith }; short = omega arith })
    (rows_part 1079 4097 _ (basic kinds.Path ∷ []) seat_reference xs
    (rows_by 1079 reference_type seat_reference IsSeat (λ x. Unit {0}) (λ x p q. (struct_part 1071 _ _ (seat_reference_parts x p), refl)) xs c.1 (all_there xs)) c.0 (omega arith))
answer_body (answer.Inhibitors xs) c n =
    listed_body (rows lock_type lock_values xs) (record { nested = record { in_arrays = omega arith; in_structs = omega arith }; short = omega arith })
    (rows_part 1183 32768 _ (basic kinds.Str ∷ basic kinds.Str ∷ basic kinds.Str ∷ basic kinds.U32 ∷ basic kinds.U32 ∷ []) lock_values xs
    (rows_by 1183 lock_type lock_values IsLockRow HasLockNumbers (λ x p q. (struct_part 1175 _ _ (lock_values_parts x p q), refl)) xs c.1 n) c.0 (omega arith))
answer_body (answer.Can say) c n = body_of 32 (text (say_word say) ∷ []) (record { nested = record { in_arrays = omega arith; in_structs = omega arith }; short = omega arith }) (omega arith) (one 32 _ (say_part say))
answer_body (answer.Inputs xs) c n =
    listed_body (rows input_type input_values xs) (record { nested = record { in_arrays = omega arith; in_structs = omega arith }; short = omega arith })
    (rows_part 32 64 _ (basic kinds.U16 ∷ basic kinds.I32 ∷ []) input_values xs
    (rows_by 32 input_type input_values (λ x. Unit {0}) HasInputNumbers (λ x p q. (struct_part 24 _ _ (input_values_parts x q), refl)) xs (all_there xs) n) c (omega arith))
answer_body (answer.Handle h) c n = body_of 8 (number h.0 ∷ []) (record { nested = record { in_arrays = omega arith; in_structs = omega arith }; short = omega arith }) (omega arith) (one 8 _ (number_part h.0 n))
answer_body (answer.Taken h inactive) c n =
    body_of 16 (number h.0 ∷ flag inactive ∷ []) (record { nested = record { in_arrays = omega arith; in_structs = omega arith }; short = omega arith }) (omega arith)
    (more_parts 8 8 _ _ (number_part h.0 n) (one 8 _ (flag_part inactive)))
answer_body (answer.Property x) c n = value_body x c n
answer_body (answer.Properties rs) c n = rows_body rs c.0 c.1 n
answer_body (answer.MachineId guid) c n = body_of 520 (text guid ∷ []) (record { nested = record { in_arrays = omega arith; in_structs = omega arith }; short = omega arith }) (omega arith) (one 520 _ (said_part guid c))
answer_body (answer.UniqueName who) c n = body_of 32 (text (unique_name who) ∷ []) (record { nested = record { in_arrays = omega arith; in_structs = omega arith }; short = omega arith }) (omega arith) (one 32 _ (unique_part who n))
