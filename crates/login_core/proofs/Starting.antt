-- A core before the first event.
use Rattle.std.proofs.Common.{◌≡◌, ◌≤◌, ◌+◌, ℕ, true, false, None, List, [], length, refl, ap, sym, subst, ◌∙◌, arith}
use Rattle.login_base.specs.declared.ids.ConnId.{ConnId}
use Rattle.login_model.specs.Full.{taken_by, taken_count}
use Rattle.device_model.specs.Ears.{heard_of}
use Rattle.device_model.specs.declared.ears.Ear.{Ear}
use Rattle.login_model.specs.Legal.{IsLegal, trail_of}
use Rattle.login_laws.specs.Need.{need}
use Rattle.login_model.specs.Names.{names}
use Rattle.login_model.specs.Setups.{IsSetup}
use Rattle.login_model.specs.Stopping.{stop_from}
use Rattle.login_laws.specs.Amounts.{Part, keys_in}
use Rattle.login_laws.specs.Keys.{switch_keys}
use Rattle.login_model.specs.Trail.{Trail, value}
use Rattle.login_model.specs.Where.{connections, locks, open_sessions, sessions}
use Rattle.login_model.specs.declared.mark.Entry.{Entry}
use Rattle.login_model.specs.declared.setup.Setup.{Setup}
use Rattle.login_core.specs.inner.Board.{IsBegun}
use Rattle.login_facts.specs.Ears.{AreEars, heard_evdev}
use Rattle.login_core.specs.inner.Inside.{HaveEnds, IsCore}
use Rattle.login_core.specs.inner.Ledger.{end_room}
use Rattle.login_core.specs.inner.Spares.{HaveTexts}
use Rattle.login_core.specs.declared.board.Board.{Board}
use Rattle.login_core.specs.declared.room.texts.Texts.{Texts}

no-connections : length (connections []) ≡ 0
unfolding connections names
no-connections = refl

no-need : need [] ≡ 0
unfolding need connections sessions open_sessions locks taken_by names value
no-need = refl

no-keys-yet : (p : Part) → keys_in p [] + switch_keys p [] ≡ 0
unfolding keys_in value
no-keys-yet p = refl

false-true : false ≡ true → ⊥
false-true e = cc

no-texts : (x : Texts) → HaveTexts x []
unfolding value
no-texts x = record { closing = record { each = λ s e. absurd (false-true e) }; gone = record { each = λ s e. absurd (false-true e) } }

-- nobody is connected
no-ends : (ends : ConnId → ℕ) → HaveEnds ends []
unfolding value
no-ends ends = λ c i. absurd (false-true i)

no-taken : taken_count [] ≡ 0
unfolding sessions taken_by names
no-taken = refl

-- nobody listens, and no device is taken
no-ears : (es : List Entry) (ears : List Ear) (rings : ℕ) → es ≡ [] → ears ≡ [] → AreEars es ears rings
unfolding heard_of value
no-ears es ears rings j q =
    let n = ap (λ (js : List Entry). taken_count (trail_of js)) j in
    let m = no-taken in
    record { heard = λ h. ap (λ (xs : List Ear). heard_of xs h) q ∙ ap (λ (js : List Entry). heard_evdev js h) (sym j); enough = omega arith }

pub core-new : (U : Setup) (m : Board) (x : Texts) → IsSetup U → m.journal.items ≡ [] → m.draft.trail ≡ [] → m.draft.ears ≡ [] → IsBegun m → 1 ≤ m.journal.entries → IsCore U m x None
core-new U m x u j k q g n =
    let P : List Entry → Type 0 = IsLegal U in
    let t : trail_of m.journal.items ≡ [] = ap trail_of j in
    let c = ap (λ (u : Trail). length (connections u)) t ∙ no-connections in
    let d = ap (λ (u : Trail). length u + need u) t in
    let e = no-need in
    let l = ap length j in
    let Q : Trail → Type 0 = HaveTexts x in
    let E : Trail → Type 0 = HaveEnds (end_room m.journal) in
    record {
      set_up = u;
      legal = subst P (sym j) tt;
      begun = g;
      no_marks = k ∙ sym t;
      stop_is = ap (stop_from 1) (sym j);
      entries = omega arith;
      reach = omega arith;
      keys = λ p. (let keys = ap (λ (u : Trail). keys_in p u + switch_keys p u) t in let none = no-keys-yet p in omega arith);
      within = omega arith;
      ends = subst E (sym t) (no-ends (end_room m.journal));
      ears = no-ears m.journal.items m.draft.ears m.draft.rings j q;
      kept_texts = subst Q (sym t) (no-texts x);
      few_entries = omega arith;
      few_marks = omega arith;
    }
