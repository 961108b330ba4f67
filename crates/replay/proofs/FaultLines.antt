-- A table that is refused is refused at a line of an action.
use Rattle.std.proofs.Common.{◌≡◌, ◌<◌, ◌+◌, ◌-◌, eqb, ℕ, zero, suc, Bool, true, false, cond, List, [], ◌∷◌, ◌++◌, length, length-append, slice_index_or, Option, Some, None, Err, refl, arith, ap, sym, ◌∙◌}
use Rattle.std.specs.List.{slice_split, onto_first, count_by}
use Rattle.std.specs.Option.{option_and_then, option_or, unwrap_or}
use Rattle.std.proofs.lemmas.Bool.Decides.{nat_tests}
use Rattle.std.proofs.lemmas.List.Splits.{slice_split-cons_no, length-slice_split}
use Rattle.login_model.specs.declared.action.Action.{Action as AnAction}
use Rattle.login_policy.specs.declared.fault.TableFault.{TableFault}
use Rattle.login_policy.specs.declared.fault.TableFault.TheVariants.{Repeated}
use Rattle.login_policy.specs.Reading.{Line as TableLine, Saying, lines_of, lines_of_parts, saying, action_named, actions_in, is_among, name_fault, fault_of, first_fault, line_of_fault, table_of}
use Rattle.recording.specs.Bytes.{AreRaw}
use Rattle.recording.specs.declared.line.Line.{Line}
use Rattle.recording.specs.declared.line.Line.TheVariants.{Action}
use Rattle.replay.specs.PreambleLines.{table_in, action_lines, number_at_fault, line_at_fault, HasTable, IsPreambleAfter, IsPreamble}
use Rattle.replay.specs.Refused.{IsActionLine}

-- the line that a fault names
abbrev named_line : Option TableFault → Option ℕ
named_line fault = option_and_then line_of_fault fault

name_told : (n : ℕ) (before : List AnAction) (action : Option AnAction) (fault : TableFault) → name_fault n before action ≡ Some fault → Some n ≡ line_of_fault fault
name_told n before None fault e = ap named_line e
name_told n before (Some action) fault e = by (is_among action before) e
  where
    by : (among : Bool) → cond among (Some (Repeated n)) None ≡ Some fault → Some n ≡ line_of_fault fault
    by true h = ap named_line h
    by false h = cc

fault_told : (n : ℕ) (before : List AnAction) (said : Option Saying) (fault : TableFault) → fault_of n before said ≡ Some fault → Some n ≡ line_of_fault fault
fault_told n before None fault e = ap named_line e
fault_told n before (Some said) fault e = name_told n before (action_named said.name) fault e

-- a fault names one of these lines, behind so many
record Names (before count : ℕ) (fault : TableFault) : Type 0 where
  pub place : ℕ
  pub named : line_of_fault fault ≡ Some (before + place + 1)
  pub within : place < count

first_told : (before lines : List TableLine) (fault : TableFault) → first_fault before lines ≡ Some fault → Names (length before) (length lines) fault
first_told before [] fault e = cc
first_told before (line ∷ more) fault e = by (fault_of (length before + 1) (actions_in before) (saying line)) refl e (first_told (before ++ line ∷ []) more fault)
  where
    by : (o : Option TableFault) → fault_of (length before + 1) (actions_in before) (saying line) ≡ o → option_or o (first_fault (before ++ line ∷ []) more) ≡ Some fault
        → (first_fault (before ++ line ∷ []) more ≡ Some fault → Names (length (before ++ line ∷ [])) (length more) fault) → Names (length before) (length (line ∷ more)) fault
    by (Some found) is h rest = record {
      place = 0;
      named = sym (fault_told (length before + 1) (actions_in before) (saying line) fault (is ∙ h)) ∙ ap (λ (n : ℕ). Some n) (omega arith);
      within = omega arith;
    }
    by None is h rest =
        let there = rest h in
        record { place = there.place + 1; named = there.named ∙ ap (λ (n : ℕ). Some n) (omega (arith, length-append before (line ∷ []))); within = omega (arith, there.within) }

-- the table has as many lines as there are lines of actions
split_fed : (text rest : List ℕ) → AreRaw text → slice_split (λ b. eqb b 10) (text ++ 10 ∷ rest) ≡ text ∷ slice_split (λ b. eqb b 10) rest
split_fed [] rest h = refl
split_fed (b ∷ bs) rest h =
    slice_split-cons_no (λ b. eqb b 10) b (bs ++ 10 ∷ rest) (other b h.0.1) ∙ ap (onto_first b) (split_fed bs rest h.1)
  where
    other : (n : ℕ) → (n ≡ 10 → ⊥) → eqb n 10 ≡ false
    other n k = grind (arith, nat_tests)

line_before : (line : List ℕ) (more : List (List ℕ)) (n : ℕ) → length more ≡ n + 1 → lines_of_parts (line ∷ more) ≡ Some line ∷ lines_of_parts more
line_before line [] n e = absurd (omega (arith, e))
line_before [] (next ∷ more) n e = refl
line_before (b ∷ bs) (next ∷ more) n e = refl

line_fed : (text rest : List ℕ) → AreRaw text → lines_of (text ++ 10 ∷ rest) ≡ Some text ∷ lines_of rest
line_fed text rest h =
    ap lines_of_parts (split_fed text rest h) ∙ line_before text (slice_split (λ b. eqb b 10) rest) (count_by (λ b. eqb b 10) rest) (length-slice_split (λ b. eqb b 10) rest)

table_length : (before ls : List Line) (n : ℕ) → IsPreambleAfter before ls → length (lines_of (table_in ls)) ≡ length (action_lines n ls)
table_length before [] n h = refl
table_length before (Action text ∷ ls) n h =
    let rest = table_length (before ++ Action text ∷ []) ls (n + 1) h.2 in
    ap length (line_fed text (table_in ls) h.0.0) ∙ ap suc rest
table_length before (l ∷ ls) n h = table_length (before ++ l ∷ []) ls (n + 1) h.2

-- each of the numbers is that of a line of an action
record IsAction (n : ℕ) (ls : List Line) (number : ℕ) : Type 0 where
  pub before : List Line
  pub text : List ℕ
  pub behind : List Line
  pub split : ls ≡ before ++ Action text ∷ behind
  pub number_is : number ≡ length before + n

behind_one : (n : ℕ) (l : Line) (ls : List Line) (number : ℕ) → IsAction (n + 1) ls number → IsAction n (l ∷ ls) number
behind_one n l ls number r = record { before = l ∷ r.before; text = r.text; behind = r.behind; split = ap (λ (rest : List Line). l ∷ rest) r.split; number_is = omega (arith, r.number_is) }

action_at : (n : ℕ) (ls : List Line) (place : ℕ) → place < length (action_lines n ls) → IsAction n ls (slice_index_or (action_lines n ls) place 0)
action_at n [] place l = absurd (omega (arith, l))
action_at n (Action text ∷ ls) zero l = record { before = []; text = text; behind = ls; split = refl; number_is = omega arith }
action_at n (Action text ∷ ls) (suc place) l = behind_one n (Action text) ls _ (action_at (n + 1) ls place (omega (arith, l)))
action_at n (x ∷ ls) place l = behind_one n x ls _ (action_at (n + 1) ls place l)

-- the table is refused
told_at : (ls : List Line) (fault : TableFault) → IsPreamble ls → first_fault [] (lines_of (table_in ls)) ≡ Some fault → IsActionLine ls (number_at_fault (Err fault) (action_lines 2 ls))
told_at ls fault h e =
    let names = first_told [] (lines_of (table_in ls)) fault e in
    let there = action_at 2 ls names.place (omega (arith, names.within, table_length [] ls 2 h)) in
    let place : unwrap_or (line_of_fault fault) 0 - 1 ≡ names.place = ap (λ (o : Option ℕ). unwrap_or o 0 - 1) names.named ∙ omega arith in
    record {
      before = there.before;
      text = there.text;
      behind = there.behind;
      split = there.split;
      number_is = ap (λ (k : ℕ). slice_index_or (action_lines 2 ls) k 0) place ∙ there.number_is;
    }

pub fault_is_told : (ls : List Line) → IsPreamble ls → (HasTable ls → ⊥) → IsActionLine ls (line_at_fault ls)
unfolding table_of
fault_is_told ls h refused = by (first_fault [] (lines_of (table_in ls))) refl
  where
    by : (o : Option TableFault) → first_fault [] (lines_of (table_in ls)) ≡ o → IsActionLine ls (line_at_fault ls)
    by None e = absurd (refused (rw e tt))
    by (Some fault) e = rw e (told_at ls fault h e)
