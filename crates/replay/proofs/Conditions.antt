-- The setup that a preamble says meets the conditions of one.
use Rattle.std.proofs.Common.{◌≡◌, ◌≢◌, ◌≤◌, ◌<◌, ◌+◌, ◌&&◌, ◌==◌, Bool, true, false, ℕ, List, [], ◌∷◌, ◌++◌, length, length-append, refl, arith, ap, sym, ◌∙◌, subst, append_assoc, append-nil, Option, Some, None, Result, Ok, Err, IfOk}
use Rattle.std.proofs.lemmas.Bool.Decides.{nat_tests}
use Rattle.std.specs.List.{AllByRecursion, list_all, last_or}
use Rattle.login_base.specs.Hex.{is_hex_digit}
use Rattle.login_conf.specs.Reading.{diagnostics_of}
use Rattle.login_conf.specs.declared.diagnostic.Diagnostic.{Diagnostic}
use Rattle.login_model.specs.declared.table.Row.{Row}
use Rattle.login_policy.specs.Reading.{table_of}
use Rattle.login_policy.specs.declared.fault.TableFault.{TableFault}
use Rattle.login_model.specs.Limits.{users_limit}
use Rattle.login_model.specs.Setups.{IsSetup, IsGuid, IsUserRow, IsNewUser, AreDistinct}
use Rattle.login_model.specs.declared.setup.Setup.{Setup}
use Rattle.login_model.specs.declared.setup.UserRow.{UserRow}
use Rattle.recording.specs.Hex.{is_guid}
use Rattle.recording.specs.Lines.{IsLine}
use Rattle.recording.specs.declared.line.Line.{Line}
use Rattle.recording.specs.declared.line.Line.TheVariants.{Header, Guid, User, Conf, Action, Go, Event, Link, In, Hangup, End}
use Rattle.replay.specs.PreambleLines.{guid_in, users_in, conf_in, table_in, guid_or_default, table_or_default, IsRead, setup_of, MayFollow, IsPreambleAfter, IsPreamble}
use Rattle.replay.specs.Preamble.{WasSetUp, IsFromTexts}
use Rattle.replay.specs.inner.Opening.{Opens}
use Rattle.replay.specs.declared.early.Early.{Early}
use Rattle.replay.specs.declared.preamble.Opening.{Opening}
use Rattle.replay.proofs.Preambles.{guid_guid, guid_more, users_more}

both : (a b : Bool) → (a && b) ≡ true → (a ≡ true) × (b ≡ true)
both true true e = (refl, refl)
both true false e = cc
both false b e = cc

-- the users that lines give are as a setup's
record AreUsers (rows : List UserRow) : Type 0 where
  pub users : AllByRecursion IsUserRow rows
  pub distinct : AreDistinct rows
  pub most : length rows ≤ users_limit

rows_more : (rows : List UserRow) (row : UserRow) → AllByRecursion IsUserRow rows → IsUserRow row → AllByRecursion IsUserRow (rows ++ row ∷ [])
rows_more [] row h r = (r, tt)
rows_more (x ∷ rows) row h r = (h.0, rows_more rows row h.1 r)

new_more : (uid : ℕ) (rows : List UserRow) (row : UserRow) → IsNewUser uid rows → row.uid.0 ≢ uid → IsNewUser uid (rows ++ row ∷ [])
new_more uid [] row h n = (n, tt)
new_more uid (x ∷ rows) row h n = (h.0, new_more uid rows row h.1 n)

distinct_more : (rows : List UserRow) (row : UserRow) → AreDistinct rows → IsNewUser row.uid.0 rows → AreDistinct (rows ++ row ∷ [])
distinct_more [] row h n = (tt, tt)
distinct_more (x ∷ rows) row h n = (new_more x.uid.0 rows row h.0 (λ e. n.0 (sym e)), distinct_more rows row h.1 n.1)

one_user_more : (rows : List UserRow) (row : UserRow) → AreUsers rows → IsUserRow row → IsNewUser row.uid.0 rows → length rows < users_limit → AreUsers (rows ++ row ∷ [])
one_user_more rows row h r n few = record {
  users = rows_more rows row h.users r;
  distinct = distinct_more rows row h.distinct n;
  most = omega (arith, length-append rows (row ∷ []));
}

guid_is : (guid : List ℕ) → is_guid guid ≡ true → IsGuid guid
guid_is guid h =
    let p = both (length guid == 32) (list_all is_hex_digit guid) h in
    record { digits = p.1; long = same (length guid) p.0 }
  where
    same : (n : ℕ) → (n == 32) ≡ true → n ≡ 32
    same n e = grind (arith, nat_tests)

-- what lines say is as a setup's
record AreFit (lines : List Line) : Type 0 where
  pub guid : IsGuid (guid_or_default (guid_in lines))
  pub users : AreUsers (users_in lines)

guid_fits : (before : List Line) (guid : List ℕ) → AreFit before → is_guid guid ≡ true → guid_in before ≡ None → AreFit (before ++ Guid guid ∷ [])
guid_fits before guid h g none = record {
  guid = subst (λ (o : Option (List ℕ)). IsGuid (guid_or_default o)) (sym (guid_guid before guid none)) (guid_is guid g);
  users = subst AreUsers (sym (users_more before (Guid guid ∷ []) ∙ append-nil (users_in before))) h.users;
}

user_fits : (before : List Line) (row : UserRow) → AreFit before → IsUserRow row → IsNewUser row.uid.0 (users_in before) → length (users_in before) < users_limit → AreFit (before ++ User row ∷ [])
user_fits before row h r n few = record {
  guid = subst (λ (o : Option (List ℕ)). IsGuid (guid_or_default o)) (sym (guid_more before (User row ∷ []) refl)) h.guid;
  users = subst AreUsers (sym (users_more before (User row ∷ []))) (one_user_more (users_in before) row h.users r n few);
}

-- a line that gives neither
other_fits : (before : List Line) (l : Line) → AreFit before → guid_in (l ∷ []) ≡ None → users_in (l ∷ []) ≡ [] → AreFit (before ++ l ∷ [])
other_fits before l h g u = record {
  guid = subst (λ (o : Option (List ℕ)). IsGuid (guid_or_default o)) (sym (guid_more before (l ∷ []) g)) h.guid;
  users = subst AreUsers (sym (users_more before (l ∷ []) ∙ (ap (λ (rows : List UserRow). users_in before ++ rows) u ∙ append-nil (users_in before)))) h.users;
}

line_fits : (before : List Line) (l : Line) → AreFit before → IsLine l → MayFollow before l → AreFit (before ++ l ∷ [])
line_fits before (Guid guid) h f m = guid_fits before guid h f m
line_fits before (User row) h f m = user_fits before row h (record { not_root = f.0; named = f.3 }) m.0 m.1
line_fits before (Header version) h f m = absurd m
line_fits before (Conf text) h f m = other_fits before (Conf text) h refl refl
line_fits before (Action text) h f m = other_fits before (Action text) h refl refl
line_fits before Go h f m = absurd m
line_fits before (Event e) h f m = absurd m
line_fits before (Link c u) h f m = absurd m
line_fits before (In c bytes) h f m = absurd m
line_fits before (Hangup c) h f m = absurd m
line_fits before End h f m = absurd m

lines_fit : (before ls : List Line) → AreFit before → IsPreambleAfter before ls → AreFit (before ++ ls)
lines_fit before [] h p = subst AreFit (sym (append-nil before)) h
lines_fit before (l ∷ ls) h p = subst AreFit (append_assoc before (l ∷ []) ls) (lines_fit (before ++ l ∷ []) ls (line_fits before l h p.0 p.1) p.2)

nothing_fits : AreFit []
nothing_fits = record { guid = record { digits = refl; long = refl }; users = record { users = tt; distinct = tt; most = omega arith } }

-- lines, each with a line feed
ends_line : (o : Option ℕ) (text rest : List ℕ) → last_or o (text ++ 10 ∷ rest) ≡ last_or (Some 10) rest
ends_line o [] rest = refl
ends_line o (b ∷ text) rest = ends_line (Some b) text rest

conf_whole : (ls : List Line) → last_or (Some 10) (conf_in ls) ≡ Some 10
conf_whole [] = refl
conf_whole (Conf text ∷ ls) = ends_line (Some 10) text (conf_in ls) ∙ conf_whole ls
conf_whole (_ ∷ ls) = conf_whole ls

table_whole : (ls : List Line) → last_or (Some 10) (table_in ls) ≡ Some 10
table_whole [] = refl
table_whole (Action text ∷ ls) = ends_line (Some 10) text (table_in ls) ∙ table_whole ls
table_whole (_ ∷ ls) = table_whole ls

preamble_is_setup : (ls : List Line) → IsPreamble ls → IsSetup (setup_of ls)
unfolding setup_of
preamble_is_setup ls p =
    let h = lines_fit [] ls nothing_fits p in
    record { guid = h.guid; users = h.users.users; distinct = h.users.distinct; most = h.users.most; conf_text = conf_whole ls; table_text = table_whole ls }

was_setup : (before : Option (List ℕ)) (s : Setup) (wrong : List Diagnostic) (count : ℕ) (left : Option (List ℕ)) → WasSetUp before s wrong count left → IsSetup s
was_setup before s wrong count left h = subst IsSetup (sym h.setup_is) (preamble_is_setup h.preamble h.is_preamble)

-- a setup that was read meets the conditions of one
pub opens_set_up : (before after left : Option (List ℕ)) (r : Result Opening Early) → Opens before after left r → IfOk r (λ opening. IsSetup opening.setup)
opens_set_up before after left (Ok opening) h = was_setup before opening.setup opening.wrong opening.lines_read after h
opens_set_up before after left (Err e) h = tt

-- and it is what its texts say
read_table : (r : Result (List Row) TableFault) → IsRead r → r ≡ Ok (table_or_default r)
read_table (Ok table) h = refl
read_table (Err fault) h = absurd h

texts_say : (ls : List Line) (s : Setup) → s ≡ setup_of ls → IsRead (table_of (table_in ls)) → IsFromTexts s (diagnostics_of (conf_in ls))
unfolding setup_of
texts_say ls s e h =
    subst (λ (v : Setup). IsFromTexts v (diagnostics_of (conf_in ls))) (sym e) (record { conf = refl; wrong_is = refl; table = read_table (table_of (table_in ls)) h })

was_from_texts : (before : Option (List ℕ)) (s : Setup) (wrong : List Diagnostic) (count : ℕ) (left : Option (List ℕ)) → WasSetUp before s wrong count left → IsFromTexts s wrong
was_from_texts before s wrong count left h = subst (IsFromTexts s) (sym h.wrong_is) (texts_say h.preamble s h.setup_is h.table)

pub opens_from_texts : (before after left : Option (List ℕ)) (r : Result Opening Early) → Opens before after left r → IfOk r (λ opening. IsFromTexts opening.setup opening.wrong)
opens_from_texts before after left (Ok opening) h = was_from_texts before opening.setup opening.wrong opening.lines_read after h
opens_from_texts before after left (Err e) h = tt
