-- The lines of a table's text, one more at a time.
use Rattle.std.proofs.Common.{◌≡◌, ℕ, ◌+◌, eqb, Bool, true, false, List, [], ◌∷◌, ◌++◌, length, map, Option, Some, None, Result, Ok, Err, refl, ap, sym, ◌∙◌, arith, append_assoc, append-nil, length-append}
use Rattle.std.specs.List.{slice_split, count_by, flat_map}
use Rattle.std.specs.Option.{option_or}
use Rattle.std.proofs.lemmas.Grind.{flat_map-append}
use Rattle.std.proofs.lemmas.List.{map-append}
use Rattle.std.proofs.lemmas.List.Splits.{length-slice_split}
use Rattle.login_model.specs.declared.action.Action.{Action}
use Rattle.login_model.specs.declared.table.Row.{Row}
use Rattle.login_model.specs.Table.{default_table, with_row}
use Rattle.login_policy.specs.declared.fault.TableFault.{TableFault}
use Rattle.login_policy.specs.declared.fault.TableFault.TheVariants.{BadLine, UnknownAction, Repeated, NoMemory}
use Rattle.login_policy.specs.declared.reader.Reader.{Reader}
use Rattle.login_policy.specs.Reading.{Line, ActionRow, lines_of, lines_of_parts, saying, given, rows_in, actions_in, fault_of, first_fault, with_rows, table_unless, table_of, ReadsTable}
use Rattle.login_policy.specs.inner.UnderWay.{IsReadTo, Took, Takes}

-- the parts of a text
abbrev parts : List ℕ → List (List ℕ)
parts text = slice_split (λ b. eqb b 10) text

-- a line with parts behind it
line_before : (line : List ℕ) (more : List (List ℕ)) (n : ℕ) → length more ≡ n + 1 → lines_of_parts (line ∷ more) ≡ Some line ∷ lines_of_parts more
line_before line [] n e = absurd (omega (arith, e))
line_before [] (next ∷ more) n e = refl
line_before (b ∷ bs) (next ∷ more) n e = refl

next_line : (rest line behind : List ℕ) → parts rest ≡ line ∷ parts behind → lines_of_parts (parts rest) ≡ Some line ∷ lines_of_parts (parts behind)
next_line rest line behind e =
    ap lines_of_parts e ∙ line_before line (parts behind) (count_by (λ b. eqb b 10) behind) (length-slice_split (λ b. eqb b 10) behind)

rows-more : (lines : List Line) (line : Line) → rows_in (lines ++ line ∷ []) ≡ rows_in lines ++ given (saying line)
rows-more lines line =
    flat_map-append (λ (l : Line). given (saying l)) lines (line ∷ []) ∙ ap (λ (r : List ActionRow). rows_in lines ++ r) (append-nil (given (saying line)))

actions-more : (lines : List Line) (line : Line) → actions_in (lines ++ line ∷ []) ≡ actions_in lines ++ map (λ (one : ActionRow). one.action) (given (saying line))
actions-more lines line = ap (map (λ (one : ActionRow). one.action)) (rows-more lines line) ∙ map-append (λ (one : ActionRow). one.action) (rows_in lines) (given (saying line))

with_rows-append : (table : List Row) (a b : List ActionRow) → with_rows table (a ++ b) ≡ with_rows (with_rows table a) b
with_rows-append table [] b = refl
with_rows-append table (one ∷ a) b = with_rows-append (with_row table one.action one.row) a b

-- one more line was read
pub read_on : (old new : Reader) (text rest line behind : List ℕ) → IsReadTo old rest text → parts rest ≡ line ∷ parts behind → Took old new (saying (Some line)) → IsReadTo new behind text
read_on old new text rest line behind is cut took =
    let number : length (is.lines ++ Some line ∷ []) ≡ length is.lines + 1 = length-append is.lines (Some line ∷ []) in
    let next = next_line rest line behind cut in
    let none : fault_of (length is.lines + 1) (actions_in is.lines) (saying (Some line)) ≡ None
    = rw (← is.number, ← is.said) took.faultless in
    record {
      lines = is.lines ++ Some line ∷ [];
      number = omega (arith, took.number, is.number, number);
      said = took.said ∙ (ap (λ (a : List Action). a ++ map (λ (one : ActionRow). one.action) (given (saying (Some line)))) is.said ∙ sym (actions-more is.lines (Some line)));
      table = took.table ∙ (ap (λ (t : List Row). with_rows t (given (saying (Some line)))) is.table
          ∙ (sym (with_rows-append default_table (rows_in is.lines) (given (saying (Some line)))) ∙ ap (with_rows default_table) (sym (rows-more is.lines (Some line)))));
      text_is = is.text_is ∙ (ap (λ (l : List Line). is.lines ++ l) next ∙ sym (append_assoc is.lines (Some line ∷ []) (lines_of_parts (parts behind))));
      faultless = is.faultless ∙ (ap (first_fault is.lines) next
          ∙ ap (λ (f : Option TableFault). option_or f (first_fault (is.lines ++ Some line ∷ []) (lines_of_parts (parts behind)))) none);
    }

-- a line is at fault
refused : (reader : Reader) (text rest line behind : List ℕ) (fault : TableFault) → IsReadTo reader rest text → parts rest ≡ line ∷ parts behind
    → fault_of reader.number reader.said (saying (Some line)) ≡ Some fault → table_of text ≡ Err fault
unfolding table_of
refused reader text rest line behind fault is cut e =
    let found : fault_of (length is.lines + 1) (actions_in is.lines) (saying (Some line)) ≡ Some fault = rw (← is.number, ← is.said) e in
    let first : first_fault [] (lines_of text) ≡ Some fault
    = is.faultless ∙ (ap (first_fault is.lines) (next_line rest line behind cut)
    ∙ ap (λ (f : Option TableFault). option_or f (first_fault (is.lines ++ Some line ∷ []) (lines_of_parts (parts behind)))) found) in
    ap (λ (f : Option TableFault). table_unless f (lines_of text)) first

-- where the next line is not taken, its fault is the text's
pub not_taken : (old new : Reader) (text rest line behind : List ℕ) (fault : TableFault) → IsReadTo old rest text → parts rest ≡ line ∷ parts behind
    → Takes old new (saying (Some line)) (Err fault) → ReadsTable text (Err fault)
not_taken old new text rest line behind NoMemory is cut e = tt
not_taken old new text rest line behind (BadLine number) is cut e = refused old text rest line behind (BadLine number) is cut e
not_taken old new text rest line behind (UnknownAction number) is cut e = refused old text rest line behind (UnknownAction number) is cut e
not_taken old new text rest line behind (Repeated number) is cut e = refused old text rest line behind (Repeated number) is cut e

-- no line is left
pub read_whole : (reader : Reader) (text rest : List ℕ) → IsReadTo reader rest text → parts rest ≡ rest ∷ [] → length rest ≡ 0 → table_of text ≡ Ok reader.table
unfolding table_of
read_whole reader text [] is cut e =
    let none : first_fault [] (lines_of text) ≡ None = is.faultless ∙ ap (λ (p : List (List ℕ)). first_fault is.lines (lines_of_parts p)) cut in
    let lines : lines_of text ≡ is.lines = is.text_is ∙ (ap (λ (p : List (List ℕ)). is.lines ++ lines_of_parts p) cut ∙ append-nil is.lines) in
    ap (λ (f : Option TableFault). table_unless f (lines_of text)) none ∙ ap Ok (ap (λ (l : List Line). with_rows default_table (rows_in l)) lines ∙ sym is.table)
read_whole reader text (b ∷ bs) is cut e = absurd (omega (arith, e))

-- something is left that no line feed ends
pub unended : (reader : Reader) (text rest : List ℕ) → IsReadTo reader rest text → parts rest ≡ rest ∷ [] → (length rest ≡ 0 → ⊥) → table_of text ≡ Err (BadLine reader.number)
unfolding table_of saying
unended reader text [] is cut some = absurd (some refl)
unended reader text (b ∷ bs) is cut some =
    let first : first_fault [] (lines_of text) ≡ Some (BadLine (length is.lines + 1)) = is.faultless ∙ ap (λ (p : List (List ℕ)). first_fault is.lines (lines_of_parts p)) cut in
    ap (λ (f : Option TableFault). table_unless f (lines_of text)) first ∙ ap (λ (n : ℕ). Err (BadLine n)) (sym is.number)

-- nothing is read
pub read_none : (reader : Reader) (text : List ℕ) → reader.table ≡ default_table → reader.said ≡ [] → reader.number ≡ 1 → IsReadTo reader text text
read_none reader text table said number = record { lines = []; number = number; said = said; table = table; text_is = refl; faultless = refl }
