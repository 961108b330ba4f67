-- How the reading of a preamble goes on and ends.
use Rattle.std.proofs.Common.{◌≡◌, ℕ, ◌+◌, ◌-◌, ◌<◌, slice_index_or, List, [], ◌∷◌, ◌++◌, length, length-append, append-nil, refl, arith, ap, sym, ◌∙◌, subst, Option, Some, None, Result, Ok, Err}
use Rattle.std.specs.Option.{IfSome}
use Rattle.login_edge.specs.Texts.{Gains}
use Rattle.login_edge.proofs.Gained.{Gains-nothing}
use Rattle.login_model.specs.declared.setup.UserRow.{UserRow}
use Rattle.login_model.specs.declared.setup.Setup.{Setup}
use Rattle.login_model.specs.Limits.{users_limit}
use Rattle.login_model.specs.declared.table.Row.{Row}
use Rattle.login_conf.specs.Reading.{conf_of, diagnostics_of}
use Rattle.login_conf.specs.declared.diagnostic.Diagnostic.{Diagnostic}
use Rattle.login_policy.specs.Reading.{table_of, line_of_fault, ReadsTable}
use Rattle.login_policy.specs.declared.fault.TableFault.{TableFault}
use Rattle.login_policy.specs.declared.fault.TableFault.TheVariants.{BadLine, UnknownAction, Repeated}
use Rattle.login_policy.specs.declared.fault.TableFault.TheVariants as unread
use Rattle.login_model.specs.Setups.{IsNewUser}
use Rattle.recording.specs.declared.line.Line.{Line}
use Rattle.recording.specs.declared.line.Line.TheVariants.{Header, Guid, User, Conf, Action, Go, Event, Link, In, Hangup, End}
use Rattle.recording.specs.Lines.{IsLine}
use Rattle.replay.specs.Written.{WereRead}
use Rattle.replay.specs.PreambleLines.{guid_in, users_in, conf_in, table_in, action_lines, guid_or_default, table_or_default, IsRead, number_at_fault, setup_of, MayFollow, IsPreamble}
use Rattle.replay.specs.Recording.{most_lines}
use Rattle.replay.specs.Front.{Front, fresh, headed, ended, lines_of, text_of, takes_at, IsFront}
use Rattle.replay.specs.Outcome.{RefusedAt, Broken, Fronted}
use Rattle.replay.specs.Preamble.{WasSetUp}
use Rattle.replay.specs.Ahead.{Partly, EndsBehind, EndsPast}
use Rattle.replay.specs.inner.Opening.{SaySo, OpensNot, IsSetupOf, IsRefusedAt, MakesTable, MakesSetup}
use Rattle.replay.specs.inner.Running.{EndsEarly}
use Rattle.replay.specs.declared.cause.Cause.TheVariants.{UnknownWord, BadNumber, BadHex, MissingWord, ExtraWord, TooLong, WrongPlace, BadName, BadAction, Ended}
use Rattle.replay.specs.declared.early.Early.{Early}
use Rattle.replay.specs.declared.early.Early.TheVariants as early
use Rattle.replay.specs.declared.preamble.Preamble.{Preamble}
use Rattle.replay.proofs.Written.{read_on, nothing_read}
use Rattle.replay.proofs.Preambles.{preamble_more, guid_guid, guid_more, users_more, conf_more, table_more, actions_more}
use Rattle.replay.proofs.Ends.{Reached, breaks_here, behind_here, past_here, misplaced_here, untabled_here, fresh_front, fresh_is_front, headed_front, headed_is_front}

abbrev Out : Type 0
Out = Option (List ℕ)

each_out : (o : Option (List ℕ)) (P : List ℕ → Out → Type 0) → ((out : Out) → IfSome o (λ x. P x out)) → IfSome o (λ x. (out : Out) → P x out)
each_out None P h = tt
each_out (Some x) P h = λ out. h out

-- what the lines of a preamble say so far, behind the header
pub record Said (p : Preamble) (number : ℕ) (before left : Option (List ℕ)) : Type 0 where
  pub lines : List Line
  pub is_preamble : IsPreamble lines
  pub say_so : SaySo lines p
  pub number_is : number ≡ length lines + 1
  pub read : WereRead before lines left

-- nothing was said yet
pub said_nothing : (p : Preamble) (before : Option (List ℕ)) → p.guid ≡ None → p.users ≡ [] → p.conf.items ≡ [] → p.table.items ≡ [] → p.action_lines ≡ [] → Said p 1 before before
said_nothing p before g u c t a = record {
  lines = [];
  is_preamble = tt;
  say_so = record { guid = g; users = u; conf = c; table = t; actions = a };
  number_is = refl;
  read = nothing_read before;
}

-- and one line more
pub said_more : (p q : Preamble) (number : ℕ) (before left after : Option (List ℕ)) (l : Line) → (s : Said p number before left) → WereRead left (l ∷ []) after
    → ((ls : List Line) → number ≡ length ls + 1 → SaySo ls p → SaySo (ls ++ l ∷ []) q × MayFollow ls l) → IsLine l → Said q (number + 1) before after
said_more p q number before left after l s r takes is =
    let t = takes s.lines s.number_is s.say_so in
    record {
      lines = s.lines ++ l ∷ [];
      is_preamble = preamble_more s.lines l s.is_preamble is t.1;
      say_so = t.0;
      number_is = omega (arith, s.number_is, length-append s.lines (l ∷ []));
      read = read_on before s.lines left (l ∷ []) after s.read r;
    }

-- what lines say, and a line that says nothing of this
same_users : (ls : List Line) (l : Line) → users_in (l ∷ []) ≡ [] → users_in (ls ++ l ∷ []) ≡ users_in ls
same_users ls l e = users_more ls (l ∷ []) ∙ (ap (λ (rows : List UserRow). users_in ls ++ rows) e ∙ append-nil (users_in ls))

same_conf : (ls : List Line) (l : Line) → conf_in (l ∷ []) ≡ [] → conf_in (ls ++ l ∷ []) ≡ conf_in ls
same_conf ls l e = conf_more ls (l ∷ []) ∙ (ap (λ (text : List ℕ). conf_in ls ++ text) e ∙ append-nil (conf_in ls))

same_table : (ls : List Line) (l : Line) → table_in (l ∷ []) ≡ [] → table_in (ls ++ l ∷ []) ≡ table_in ls
same_table ls l e = table_more ls (l ∷ []) ∙ (ap (λ (text : List ℕ). table_in ls ++ text) e ∙ append-nil (table_in ls))

same_actions : (ls : List Line) (l : Line) → action_lines (2 + length ls) (l ∷ []) ≡ [] → action_lines 2 (ls ++ l ∷ []) ≡ action_lines 2 ls
same_actions ls l e = actions_more 2 ls (l ∷ []) ∙ (ap (λ (numbers : List ℕ). action_lines 2 ls ++ numbers) e ∙ append-nil (action_lines 2 ls))

-- an identity is taken where none was given
pub guid_said : (p : Preamble) (guid : List ℕ) → p.guid ≡ None → (lines : List Line) → SaySo lines p
    → SaySo (lines ++ Guid guid ∷ []) (record p { guid = Some guid }) × (guid_in lines ≡ None)
guid_said p guid none lines h =
    let first : guid_in lines ≡ None = sym h.guid ∙ none in
    let l = Guid guid in (
      record {
        guid = sym (guid_guid lines guid first);
        users = h.users ∙ sym (same_users lines l refl);
        conf = h.conf ∙ sym (same_conf lines l refl);
        table = h.table ∙ sym (same_table lines l refl);
        actions = h.actions ∙ sym (same_actions lines l refl);
      },
      first,
    )

-- a user is taken behind others
pub user_said : (p : Preamble) (row : UserRow) (users : List UserRow) → users ≡ p.users ++ row ∷ [] → IsNewUser row.uid.0 p.users × (length p.users < users_limit) → (lines : List Line) → SaySo lines p
    → SaySo (lines ++ User row ∷ []) (record p { users = users }) × (IsNewUser row.uid.0 (users_in lines) × (length (users_in lines) < users_limit))
user_said p row users e next lines h =
    let l = User row in
    let more : users ≡ users_in (lines ++ l ∷ []) = e ∙ (ap (λ (us : List UserRow). us ++ row ∷ []) h.users ∙ sym (users_more lines (l ∷ []))) in (
      record {
        guid = h.guid ∙ sym (guid_more lines (l ∷ []) refl);
        users = more;
        conf = h.conf ∙ sym (same_conf lines l refl);
        table = h.table ∙ sym (same_table lines l refl);
        actions = h.actions ∙ sym (same_actions lines l refl);
      },
      subst (λ (us : List UserRow). IsNewUser row.uid.0 us × (length us < users_limit)) h.users next,
    )

-- a line of the configuration
pub conf_said : (p q : Preamble) (text : List ℕ) → q.guid ≡ p.guid → q.users ≡ p.users → q.conf.items ≡ p.conf.items ++ (text ++ 10 ∷ []) → q.table.items ≡ p.table.items → q.action_lines ≡ p.action_lines
    → (lines : List Line) → SaySo lines p → SaySo (lines ++ Conf text ∷ []) q × Unit {0}
conf_said p q text g u c t a lines h =
    let l = Conf text in (
      record {
        guid = g ∙ (h.guid ∙ sym (guid_more lines (l ∷ []) refl));
        users = u ∙ (h.users ∙ sym (same_users lines l refl));
        conf = c ∙ (ap (λ (before : List ℕ). before ++ (text ++ 10 ∷ [])) h.conf ∙ sym (conf_more lines (l ∷ [])));
        table = t ∙ (h.table ∙ sym (same_table lines l refl));
        actions = a ∙ (h.actions ∙ sym (same_actions lines l refl));
      },
      tt,
    )

-- a line of the table
pub action_said : (p q : Preamble) (text : List ℕ) (number : ℕ) → q.guid ≡ p.guid → q.users ≡ p.users → q.conf.items ≡ p.conf.items → q.table.items ≡ p.table.items ++ (text ++ 10 ∷ [])
    → q.action_lines ≡ p.action_lines ++ number ∷ [] → (lines : List Line) → number ≡ length lines + 2 → SaySo lines p → SaySo (lines ++ Action text ∷ []) q × Unit {0}
action_said p q text number g u c t a lines count h =
    let l = Action text in
    let at : action_lines 2 (lines ++ l ∷ []) ≡ action_lines 2 lines ++ number ∷ []
    = actions_more 2 lines (l ∷ []) ∙ ap (λ (n : ℕ). action_lines 2 lines ++ n ∷ []) (omega (arith, count)) in (
      record {
        guid = g ∙ (h.guid ∙ sym (guid_more lines (l ∷ []) refl));
        users = u ∙ (h.users ∙ sym (same_users lines l refl));
        conf = c ∙ (h.conf ∙ sym (same_conf lines l refl));
        table = t ∙ (ap (λ (before : List ℕ). before ++ (text ++ 10 ∷ [])) h.table ∙ sym (table_more lines (l ∷ [])));
        actions = a ∙ (ap (λ (numbers : List ℕ). numbers ++ number ∷ []) h.actions ∙ sym at);
      },
      tt,
    )

-- all that was read, behind the header
pub said_after : (p : Preamble) (number : ℕ) (all before left : Option (List ℕ)) → WereRead all (Header 1 ∷ []) before → (s : Said p number before left) → Reached all (headed_front s.lines) left
said_after p number all before left r s = read_on all (Header 1 ∷ []) before s.lines left r s.read

-- a front with nothing written, behind which no line follows
behind_opens : (f : Front) (number : ℕ) (all left now : Out) (e : Early) → IsFront f → Reached all f left → number ≡ length (lines_of f) → number < most_lines → (f.stage ≡ ended → ⊥)
    → ((out : Out) → Gains out out (text_of f)) → EndsBehind number left now e → OpensNot all now e
behind_opens f number all left now (early.Script line cause) h a count within not_ended w e =
    each_out all (λ text out. RefusedAt line cause text out out) (λ out. behind_here f number all left now out out (early.Script line cause) h a count within not_ended (w out) e)
behind_opens f number all left now early.ReadFault h a count within not_ended w e =
    each_out all (λ text out. Broken text now out out) (λ out. behind_here f number all left now out out early.ReadFault h a count within not_ended (w out) e)
behind_opens f number all left now early.NoMemory h a count within not_ended w e =
    each_out all (λ text out. Fronted text now out out) (λ out. behind_here f number all left now out out early.NoMemory h a count within not_ended (w out) e)
behind_opens f number all left now early.WriteFault h a count within not_ended w e = absurd e
behind_opens f number all left now (early.Full full) h a count within not_ended w e = absurd e

past_opens : (f : Front) (all left now : Out) (e : Early) → IsFront f → Reached all f left → length (lines_of f) ≡ most_lines → (f.stage ≡ ended → ⊥)
    → ((out : Out) → Gains out out (text_of f)) → EndsPast left now e → OpensNot all now e
past_opens f all left now (early.Script line cause) h a full not_ended w e =
    each_out all (λ text out. RefusedAt line cause text out out) (λ out. past_here f all left now out out (early.Script line cause) h a full not_ended (w out) e)
past_opens f all left now early.ReadFault h a full not_ended w e =
    each_out all (λ text out. Broken text now out out) (λ out. past_here f all left now out out early.ReadFault h a full not_ended (w out) e)
past_opens f all left now early.NoMemory h a full not_ended w e =
    each_out all (λ text out. Fronted text now out out) (λ out. past_here f all left now out out early.NoMemory h a full not_ended (w out) e)
past_opens f all left now early.WriteFault h a full not_ended w e = absurd e
past_opens f all left now (early.Full count) h a full not_ended w e = absurd e

-- how it ends behind lines of the preamble
pub said_behind : (p : Preamble) (number : ℕ) (all before left now : Out) (e : Early) → WereRead all (Header 1 ∷ []) before → Said p number before left → number < most_lines
    → EndsBehind number left now e → OpensNot all now e
said_behind p number all before left now e r s within b =
    behind_opens (headed_front s.lines) number all left now e (headed_is_front s.lines s.is_preamble) (said_after p number all before left r s) (omega (arith, s.number_is)) within (λ k. cc) Gains-nothing b

pub said_past : (p : Preamble) (number : ℕ) (all before left now : Out) (e : Early) → WereRead all (Header 1 ∷ []) before → Said p number before left → number ≡ most_lines
    → EndsPast left now e → OpensNot all now e
said_past p number all before left now e r s full b =
    past_opens (headed_front s.lines) all left now e (headed_is_front s.lines s.is_preamble) (said_after p number all before left r s) (omega (arith, s.number_is, full)) (λ k. cc) Gains-nothing b

pub said_misplaced : (p : Preamble) (number : ℕ) (all before left after : Out) (l : Line) → WereRead all (Header 1 ∷ []) before → Said p number before left → number < most_lines
    → WereRead left (l ∷ []) after → ((ls : List Line) → SaySo ls p → takes_at headed ls [] l → ⊥) → OpensNot all after (early.Script (number + 1) WrongPlace)
said_misplaced p number all before left after l r s within read bars = each_out all (λ text out. RefusedAt (number + 1) WrongPlace text out out) (λ out.
    misplaced_here (headed_front s.lines) number all left after out out l (headed_is_front s.lines s.is_preamble) (said_after p number all before left r s) (omega (arith, s.number_is)) within (Gains-nothing out) read (bars s.lines s.say_so))

pub said_fronted : (p : Preamble) (number : ℕ) (all before left now : Out) → WereRead all (Header 1 ∷ []) before → Said p number before left
    → IfSome left (λ text. Partly text now) → OpensNot all now early.NoMemory
said_fronted p number all before left now r s part = each_out all (λ text out. Fronted text now out out) (λ out.
    breaks_here (headed_front s.lines) all left now out out early.NoMemory (headed_is_front s.lines s.is_preamble) (said_after p number all before left r s) (Gains-nothing out) part)

table_is : (r : Result (List Row) TableFault) (table : List Row) → r ≡ Ok table → (table ≡ table_or_default r) × IsRead r
table_is (Ok rows) table e = (cc, tt)
table_is (Err fault) table e = cc

setup_is : (s : Setup) (wrong : List Diagnostic) (p : Preamble) (ls : List Line) → SaySo ls p → IsSetupOf p s wrong → s ≡ setup_of ls
unfolding setup_of
setup_is s wrong p ls h m =
    let guid : s.guid ≡ guid_or_default (guid_in ls) = m.guid ∙ ap guid_or_default h.guid in
    let users : s.users ≡ users_in ls = m.users ∙ h.users in
    let conf : s.conf ≡ conf_of (conf_in ls) = m.conf ∙ ap conf_of h.conf in
    let conf_text : s.conf_text ≡ conf_in ls = m.conf_text ∙ h.conf in
    let table : s.table ≡ table_or_default (table_of (table_in ls)) = (table_is _ _ (ap table_of (sym h.table) ∙ m.table)).0 in
    let table_text : s.table_text ≡ table_in ls = m.table_text ∙ h.table in
    λ i. record { guid = guid i; users = users i; conf = conf i; conf_text = conf_text i; table = table i; table_text = table_text i }

-- the preamble ends
pub said_whole : (p : Preamble) (s : Setup) (wrong : List Diagnostic) (number : ℕ) (all before left after : Option (List ℕ)) (l : Line) → WereRead all (Header 1 ∷ []) before → Said p number before left
    → number < most_lines → (read : WereRead left (l ∷ []) after) → l ≡ Go → IsSetupOf p s wrong → WasSetUp all s wrong (number + 1) after
said_whole p s wrong number all before left after l r said within read go m = record {
  preamble = said.lines;
  is_preamble = said.is_preamble;
  table = (table_is _ _ (ap table_of (sym said.say_so.table) ∙ m.table)).1;
  setup_is = setup_is s wrong p said.lines said.say_so m;
  wrong_is = m.wrong_is ∙ ap diagnostics_of said.say_so.conf;
  count_is = omega (arith, said.number_is, length-append said.lines (Go ∷ []));
  within = omega (arith, within);
  read = read_on all (Header 1 ∷ said.lines) left (Go ∷ []) after (said_after p number all before left r said) (subst (λ (x : Line). WereRead left (x ∷ []) after) go read);
}

-- or its table is refused
table_not : (r : Result (List Row) TableFault) (fault : TableFault) → r ≡ Err fault → IsRead r → ⊥
table_not (Ok rows) fault e h = cc
table_not (Err found) fault e h = h

pub said_untabled : (p : Preamble) (line number : ℕ) (all before left after : Out) (l : Line) → WereRead all (Header 1 ∷ []) before → Said p number before left → number < most_lines
    → WereRead left (l ∷ []) after → l ≡ Go → IsRefusedAt p line → OpensNot all after (early.Script line BadAction)
said_untabled p line number all before left after l r s within read go is = each_out all (λ text out. RefusedAt line BadAction text out out) (λ out.
    let found : table_of (table_in s.lines) ≡ Err is.fault = ap table_of (sym s.say_so.table) ∙ is.refused in
    let at : line ≡ number_at_fault (table_of (table_in s.lines)) (action_lines 2 s.lines)
    = is.number_is ∙ (ap (λ (numbers : List ℕ). number_at_fault (Err is.fault) numbers) s.say_so.actions ∙ ap (λ (t : Result (List Row) TableFault). number_at_fault t (action_lines 2 s.lines)) (sym found)) in
    untabled_here (headed_front s.lines) number line all left after out out (headed_is_front s.lines s.is_preamble) (said_after p number all before left r s) (omega (arith, s.number_is)) within (Gains-nothing out)
    (subst (λ (x : Line). WereRead left (x ∷ []) after) go read) refl (table_not _ _ found) at)

-- a table that is refused, at the line of an action
pub untabled : (p : Preamble) (fault : TableFault) (action number : ℕ) → ReadsTable p.table.items (Err fault) → line_of_fault fault ≡ Some action → number ≡ slice_index_or p.action_lines (action - 1) 0
    → MakesTable p (Err (early.Script number BadAction))
untabled p (BadLine n) action number r e is = record { fault = BadLine n; refused = r; number_is = is ∙ ap (λ (k : ℕ). slice_index_or p.action_lines (k - 1) 0) (sym (let same : n ≡ action = cc in same)) }
untabled p (UnknownAction n) action number r e is = record { fault = UnknownAction n; refused = r; number_is = is ∙ ap (λ (k : ℕ). slice_index_or p.action_lines (k - 1) 0) (sym (let same : n ≡ action = cc in same)) }
untabled p (Repeated n) action number r e is = record { fault = Repeated n; refused = r; number_is = is ∙ ap (λ (k : ℕ). slice_index_or p.action_lines (k - 1) 0) (sym (let same : n ≡ action = cc in same)) }
untabled p unread.NoMemory action number r e is = cc

-- what makes no table makes no setup
pub table_unmade : (p : Preamble) (e : Early) → MakesTable p (Err e) → MakesSetup p (Err e)
table_unmade p (early.Script line BadAction) h = h
table_unmade p early.NoMemory h = tt
table_unmade p (early.Script line UnknownWord) h = absurd h
table_unmade p (early.Script line BadNumber) h = absurd h
table_unmade p (early.Script line BadHex) h = absurd h
table_unmade p (early.Script line MissingWord) h = absurd h
table_unmade p (early.Script line ExtraWord) h = absurd h
table_unmade p (early.Script line TooLong) h = absurd h
table_unmade p (early.Script line WrongPlace) h = absurd h
table_unmade p (early.Script line BadName) h = absurd h
table_unmade p (early.Script line Ended) h = absurd h
table_unmade p early.ReadFault h = absurd h
table_unmade p early.WriteFault h = absurd h
table_unmade p (early.Full count) h = absurd h

-- it makes no setup
unmade : (p : Preamble) (number : ℕ) (all before left after now : Out) (l : Line) (e : Early) → WereRead all (Header 1 ∷ []) before → Said p number before left → number < most_lines
    → WereRead left (l ∷ []) after → l ≡ Go → IfSome left (λ text. Partly text now) → MakesSetup p (Err e) → OpensNot all now e
unmade p number all before left after now l (early.Script line BadAction) r s within read go part m = said_untabled p line number all before left after l r s within read go m
unmade p number all before left after now l early.NoMemory r s within read go part m = said_fronted p number all before left now r s part
unmade p number all before left after now l (early.Script line UnknownWord) r s within read go part m = absurd m
unmade p number all before left after now l (early.Script line BadNumber) r s within read go part m = absurd m
unmade p number all before left after now l (early.Script line BadHex) r s within read go part m = absurd m
unmade p number all before left after now l (early.Script line MissingWord) r s within read go part m = absurd m
unmade p number all before left after now l (early.Script line ExtraWord) r s within read go part m = absurd m
unmade p number all before left after now l (early.Script line TooLong) r s within read go part m = absurd m
unmade p number all before left after now l (early.Script line WrongPlace) r s within read go part m = absurd m
unmade p number all before left after now l (early.Script line BadName) r s within read go part m = absurd m
unmade p number all before left after now l (early.Script line Ended) r s within read go part m = absurd m
unmade p number all before left after now l early.ReadFault r s within read go part m = absurd m
unmade p number all before left after now l early.WriteFault r s within read go part m = absurd m
unmade p number all before left after now l (early.Full count) r s within read go part m = absurd m

pub said_unmade : (p q : Preamble) (number : ℕ) (all before left after now : Out) (l : Line) (e : Early) → WereRead all (Header 1 ∷ []) before → Said p number before left → number < most_lines
    → WereRead left (l ∷ []) after → (l ≡ Go) × (q ≡ p) → IfSome left (λ text. Partly text now) → MakesSetup q (Err e) → OpensNot all now e
said_unmade p q number all before left after now l e r s within read go part m =
    unmade p number all before left after now l e r s within read go.0 part (subst (λ (x : Preamble). MakesSetup x (Err e)) go.1 m)

-- how it ends before the first line
pub fresh_behind : (before now : Out) (e : Early) → EndsBehind 0 before now e → OpensNot before now e
fresh_behind before now e b = behind_opens fresh_front 0 before before now e fresh_is_front (nothing_read before) refl (omega arith) (λ k. cc) Gains-nothing b

pub fresh_misplaced : (before after : Out) (l : Line) → WereRead before (l ∷ []) after → (takes_at fresh [] [] l → ⊥) → OpensNot before after (early.Script 1 WrongPlace)
fresh_misplaced before after l read bars = each_out before (λ text out. RefusedAt 1 WrongPlace text out out) (λ out.
    misplaced_here fresh_front 0 before before after out out l fresh_is_front (nothing_read before) refl (omega arith) (Gains-nothing out) read bars)

-- the header is the one there is
pub is_the_header : (l : Line) → IsLine l → takes_at fresh [] [] l → l ≡ Header 1
is_the_header (Header version) f t = ap Header f
is_the_header (Guid guid) f t = absurd t
is_the_header (User row) f t = absurd t
is_the_header (Conf text) f t = absurd t
is_the_header (Action text) f t = absurd t
is_the_header Go f t = absurd t
is_the_header (Event e) f t = absurd t
is_the_header (Link c u) f t = absurd t
is_the_header (In c bytes) f t = absurd t
is_the_header (Hangup c) f t = absurd t
is_the_header End f t = absurd t

pub header_read : (before mid : Option (List ℕ)) (l : Line) → WereRead before (l ∷ []) mid → IsLine l → takes_at fresh [] [] l → WereRead before (Header 1 ∷ []) mid
header_read before mid l r f t = subst (λ (x : Line). WereRead before (x ∷ []) mid) (is_the_header l f t) r

-- all is left
all_left : (left : Out) → IfSome left (λ text. Partly text left)
all_left None = tt
all_left (Some text) = record { part = []; rest = text; split = refl; left_is = refl }

-- nothing was read and nothing written
pub nothing_done : (left out : Out) → IfSome left (λ text. Fronted text left out out)
nothing_done left out = breaks_here fresh_front left left left out out early.NoMemory fresh_is_front (nothing_read left) (Gains-nothing out) (all_left left)

at_out : (o : Out) (P : List ℕ → Out → Type 0) (out : Out) → IfSome o (λ x. (out : Out) → P x out) → IfSome o (λ x. P x out)
at_out None P out h = tt
at_out (Some x) P out h = h out

-- what ends a preamble ends the replay
opens_ends_all : (all left out : Out) (e : Early) → OpensNot all left e → EndsEarly all left out out e
opens_ends_all all left out (early.Script line cause) h = at_out all (λ text o. RefusedAt line cause text o o) out h
opens_ends_all all left out early.ReadFault h = at_out all (λ text o. Broken text left o o) out h
opens_ends_all all left out early.NoMemory h = at_out all (λ text o. Fronted text left o o) out h
opens_ends_all all left out early.WriteFault h = absurd h
opens_ends_all all left out (early.Full count) h = absurd h

pub opens_ends : (before all left out : Out) (e : Early) → before ≡ all → OpensNot before left e → EndsEarly all left out out e
opens_ends before all left out e same h = opens_ends_all all left out e (subst (λ (o : Out). OpensNot o left e) same h)
