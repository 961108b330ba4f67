-- Values that are read to the end of the bytes.
use Rattle.std.proofs.Common.{◌≡◌, ℕ, ◌+◌, ◌-◌, ◌<◌, ◌≤◌, List, [], ◌∷◌, length, length-drop, drop, refl, ap, ◌∙◌, None, Ok, Err, subst, arith}
use Rattle.std.proofs.Math.ListN.{drop_of_length-le}
use Rattle.bus_names.specs.Types.{Shape}
use Rattle.bus_value.specs.declared.fault.ValueFault.{ValueFault}
use Rattle.bus_value.specs.declared.fault.ValueFault.TheVariants.{BadLength}
use Rattle.bus_value.specs.declared.order.Order.{Order}
use Rattle.bus_value.specs.declared.reader.Reader.{Reader}
use Rattle.bus_value.specs.Values.{Val}
use Rattle.bus_value.specs.Faults.{reported}
use Rattle.bus_value.specs.Reading.{Answer, read, in_turn, levels, ended, read_all}

-- the values of the types, from the start on
abbrev pub first_values : Order → ℕ → List Shape → List ℕ → Answer (List Val)
first_values o start ts bytes = in_turn (read (levels 0) o 0 None) ts (start + 0) (drop 0 bytes)

starts : (o : Order) (start : ℕ) (ts : List Shape) (bytes : List ℕ) (q : Answer (List Val)) → first_values o start ts bytes ≡ q → read_all o start ts bytes ≡ ended q
unfolding read_all
starts o start ts bytes q e =
    let same : start ≡ start + 0 = omega arith in
    ap (λ (n : ℕ). ended (in_turn (read (levels 0) o 0 None) ts n bytes)) same ∙ ap (λ (a : Answer (List Val)). ended a) e

pub all_read : (o : Order) (start : ℕ) (ts : List Shape) (bytes : List ℕ) (vs : List Val) (end : ℕ) → first_values o start ts bytes ≡ Ok (vs, (start + end, drop end bytes)) → length bytes ≤ end → read_all o start ts bytes ≡ Ok vs
all_read o start ts bytes vs end e h = starts o start ts bytes (Ok (vs, (start + end, drop end bytes))) e ∙ ap (λ (x : List ℕ). ended (Ok (vs, (start + end, x)))) (drop_of_length-le bytes h)

left_over : (vs : List Val) (at : ℕ) (x : List ℕ) → 0 < length x → ended (Ok (vs, (at, x))) ≡ Err (BadLength (reported at))
left_over vs at [] h = absurd (omega arith)
left_over vs at (b ∷ x) h = refl

pub all_left : (o : Order) (start : ℕ) (ts : List Shape) (bytes : List ℕ) (vs : List Val) (end : ℕ) → first_values o start ts bytes ≡ Ok (vs, (start + end, drop end bytes)) → end < length bytes → read_all o start ts bytes ≡ Err (BadLength (reported (start + end)))
all_left o start ts bytes vs end e h =
    let l : length (drop end bytes) ≡ length bytes - end = length-drop end bytes in
    starts o start ts bytes (Ok (vs, (start + end, drop end bytes))) e ∙ left_over vs (start + end) (drop end bytes) (omega arith)

pub all_fails : (o : Order) (start : ℕ) (ts : List Shape) (bytes : List ℕ) (e : ValueFault) → first_values o start ts bytes ≡ Err e → read_all o start ts bytes ≡ Err e
all_fails o start ts bytes e h = starts o start ts bytes (Err e) h

pub placed : (r x : Reader) (ts us : List Shape) (bytes : List ℕ) (q : Answer (List Val)) → r ≡ x → ts ≡ us → in_turn (read (levels r.depth) r.order r.depth r.array) ts (r.start + 0) (drop 0 bytes) ≡ q →
    in_turn (read (levels x.depth) x.order x.depth x.array) us (x.start + 0) (drop 0 bytes) ≡ q
placed r x ts us bytes q a b h =
    subst (λ (vs : List Shape). in_turn (read (levels x.depth) x.order x.depth x.array) vs (x.start + 0) (drop 0 bytes) ≡ q) b
    (subst (λ (y : Reader). in_turn (read (levels y.depth) y.order y.depth y.array) ts (y.start + 0) (drop 0 bytes) ≡ q) a h)
