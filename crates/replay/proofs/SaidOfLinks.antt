-- What is said to those who hear is what a line says of each link.
use Rattle.std.proofs.Common.{◌≡◌, ℕ, ◌==◌, ◌&&◌, ◌||◌, not, Bool, true, false, if◌then◌else◌, Option, Some, None, IsSome, Result, Ok, Err, OnOk, List, [], ◌∷◌, ◌++◌, drop, length, filter, refl, ap, sym, ◌∙◌, subst, append-nil, ◌⊎◌, inl, inr}
use Rattle.std.specs.Option.{is_some}
use Rattle.std.proofs.lemmas.Bool.{eq-eqb}
use Rattle.std.proofs.Math.Seq.{drop-append_seam}
use Rattle.bus_message.specs.declared.message.Message.{Message}
use Rattle.login_base.specs.declared.ids.ConnId.{ConnId}
use Rattle.login_base.specs.declared.ids.Uid.{Uid}
use Rattle.login_core.specs.State.{CoreState}
use Rattle.login_model.proofs.FactLaws.{same-conn}
use Rattle.login_model.proofs.InOrder.{Ascending, IsIn, filter-ascending, filter-keeps, in-insert, insert-ascending, insert-came, insert-keeps}
use Rattle.login_model.proofs.NameLaws.{conn_order}
use Rattle.login_model.specs.Legal.{IsUnused, events_of, trail_of}
use Rattle.login_model.specs.declared.event.Event.TheVariants as event
use Rattle.login_model.specs.Names.{conn_lt}
use Rattle.login_model.specs.Where.{is_connected}
use Rattle.login_model.specs.declared.mark.Entry.{Entry}
use Rattle.login_model.specs.declared.setup.Setup.{Setup}
use Rattle.login_office.proofs.Histories.{ended_for_good}
use Rattle.login_office.specs.Hearing.{TellerState}
use Rattle.login_office.specs.Links.{end_heard, is_begun, malformed}
use Rattle.login_office.specs.Offices.{OfficeState, teller_of}
use Rattle.login_office.specs.declared.end.LinkEnd.{LinkEnd}
use Rattle.login_office.specs.declared.end.LinkEnd.TheVariants as end
use Rattle.login_office.specs.declared.end.Unbegun.TheVariants.{HungUp}
use Rattle.recording.specs.declared.line.Line.{Line}
use Rattle.recording.specs.declared.line.Line.TheVariants as line
use Rattle.replay.specs.Links.{begins, end_by, ending, events_of_user, heard, is_hung_up, is_let_in, is_open_link, line_events, link_end, link_line_events, link_numbers, link_user, new_calls, shown_or, was_let_in}
use Rattle.replay.specs.Played.{Played, played_lines, journal_of}
use Rattle.replay.specs.Recording.{MayCome}
use Rattle.replay.specs.Transcript.{closed_text, due, link_text, links_text, out_text}
use Rattle.replay.specs.inner.Apart.{AreApart}
use Rattle.replay.specs.declared.early.Early.{Early}
use Rattle.replay.specs.declared.own.Own.{Own}
use Rattle.replay.specs.inner.Player.{Brings, HasMade, HasTeller, HasTold, Tells, own_end, own_replies}
use Rattle.replay.specs.inner.Telling.{AllFetched, IsOwnOf, all_told, hearers, hears, is_this, own_who, teller_if, told_text, unfetched}
use Rattle.replay.proofs.Hearers.{hearers-enumerated}
use Rattle.replay.proofs.LinkLines.{brought, heard-more}
use Rattle.replay.proofs.LinkStanding.{LineStanding, event-apart, link-apart, malformed-end}
use Rattle.replay.proofs.OpenMail.{apart-before, no-mail-apart}
use Rattle.replay.proofs.SaidGrows.{due-is, grown, legal-before, legal-made, link-was, standing}
use Rattle.replay.proofs.SameTexts.{same-texts, texts-of}
use Rattle.wire_out.specs.Mail.{bytes_of, mail}

-- ---- the numbers of links

pub numbers-ascend : (lines : List Line) → Ascending conn_lt (link_numbers lines)
numbers-ascend [] = tt
numbers-ascend (line.Link b v ∷ lines) = insert-ascending conn_lt conn_order b (link_numbers lines) (numbers-ascend lines)
numbers-ascend (_ ∷ lines) = numbers-ascend lines

there-first : (lines : List Line) (b c : ConnId) (v u : Uid) (t : Bool) → (b.0 == c.0) ≡ t → (if t then Some v else link_user lines c) ≡ Some u
    → (link_user lines c ≡ Some u → IsIn c (link_numbers lines)) → IsIn c (link_numbers (line.Link b v ∷ lines))
there-first lines b c v u true same h more = subst (λ (x : ConnId). IsIn x (link_numbers (line.Link b v ∷ lines))) (same-conn b c same) (in-insert conn_lt conn_order b (link_numbers lines))
there-first lines b c v u false same h more = insert-keeps conn_lt c b (link_numbers lines) (more h)

pub number-there : (lines : List Line) (c : ConnId) (u : Uid) → link_user lines c ≡ Some u → IsIn c (link_numbers lines)
number-there [] c u e = absurd (let z : None ≡ Some u = e in cc)
number-there (line.Link b v ∷ lines) c u e = there-first lines b c v u (b.0 == c.0) refl e (λ h. number-there lines c u h)
number-there (_ ∷ lines) c u e = number-there lines c u e

has-user : (b : Bool) (v : Uid) (o : Option Uid) → (b ≡ true) ⊎ ((u : Uid) × (o ≡ Some u)) → (u : Uid) × ((if b then Some v else o) ≡ Some u)
has-user true v o h = (v, refl)
has-user false v o (inl h) = absurd (let z : false ≡ true = h in cc)
has-user false v o (inr h) = h

user-first : (lines : List Line) (b c : ConnId) (v : Uid) → (c ≡ b) ⊎ IsIn c (link_numbers lines) → (IsIn c (link_numbers lines) → (u : Uid) × (link_user lines c ≡ Some u))
    → ((b.0 == c.0) ≡ true) ⊎ ((u : Uid) × (link_user lines c ≡ Some u))
user-first lines b c v (inl same) more = inl (eq-eqb b.0 c.0 (sym (ap (λ (x : ConnId). x.0) same)))
user-first lines b c v (inr j) more = inr (more j)

pub number-user : (lines : List Line) (c : ConnId) → IsIn c (link_numbers lines) → (u : Uid) × (link_user lines c ≡ Some u)
number-user [] c i = absurd i
number-user (line.Link b v ∷ lines) c i = has-user (b.0 == c.0) v (link_user lines c) (user-first lines b c v (insert-came conn_lt c b (link_numbers lines) i) (λ j. number-user lines c j))
number-user (_ ∷ lines) c i = number-user lines c i

-- ---- small laws

some-of : (o : Option LinkEnd) → IsSome o → (e : LinkEnd) × (o ≡ Some e)
some-of (Some e) h = (e, refl)
some-of None h = absurd (let z : false ≡ true = h in cc)

neither-of : (a b : Bool) → a || b ≡ false → (a ≡ false) × (b ≡ false)
neither-of true b e = absurd (let z : true ≡ false = e in cc)
neither-of false b e = (refl, e)

nothing-behind : (ms : List Message) → drop (length ms) ms ≡ []
nothing-behind ms = ap (λ (xs : List Message). drop (length ms) xs) (sym (append-nil ms)) ∙ drop-append_seam ms []

others-replies : (own : Option Own) (c : ConnId) → is_this (own_who own) c ≡ false → own_replies own c ≡ []
others-replies None c n = refl
others-replies (Some w) c n = ap (λ (b : Bool). if b then w.replies else []) n

others-end : (own : Option Own) (c : ConnId) → is_this (own_who own) c ≡ false → own_end own c ≡ None
others-end None c n = refl
others-end (Some w) c n = ap (λ (b : Bool). if b then w.end else None) n

shown-out : (x : Option LinkEnd) (e : LinkEnd) (hung : Bool) → shown_or x end.Closed hung ≡ Some e → not (is_some x) && not hung ≡ false
shown-out (Some y) e hung h = refl
shown-out None e true h = refl
shown-out None e false h = absurd (let z : None ≡ Some e = h in cc)

-- a link that has ended is not connected
ended-out : (u : Uid) (guid X : List ℕ) (begun let_in hung : Bool) (e : LinkEnd) → is_begun u guid X ≡ begun
    → (if not begun then shown_or (end_heard u guid X) (end.NotBegun HungUp) hung
    else if not let_in then Some end.TooMany
    else shown_or (end_heard u guid X) end.Closed hung) ≡ Some e
    → begun && (let_in && (not (is_some (malformed u guid X)) && not hung)) ≡ false
ended-out u guid X false let_in hung e b h = refl
ended-out u guid X true false hung e b h = refl
ended-out u guid X true true hung e b h = ap (λ (z : Bool). not z && not hung) (malformed-end u guid X b) ∙ shown-out (end_heard u guid X) e hung h

shown-some : (x : Option LinkEnd) (at_end e : LinkEnd) → shown_or x at_end false ≡ Some e → x ≡ Some e
shown-some (Some y) at_end e h = h
shown-some None at_end e h = absurd (let z : None ≡ Some e = h in cc)

and-zero : (a : Bool) → a && false ≡ false
and-zero true = refl
and-zero false = refl

-- and more bytes do not let it begin
ended-begins-not : (c : ConnId) (u : Uid) (guid X more : List ℕ) (begun let_in : Bool) (e : LinkEnd) → is_begun u guid X ≡ begun
    → (if not begun then shown_or (end_heard u guid X) (end.NotBegun HungUp) false
    else if not let_in then Some end.TooMany
    else shown_or (end_heard u guid X) end.Closed false) ≡ Some e
    → is_begun u guid (X ++ more) && not (is_begun u guid X) ≡ false
ended-begins-not c u guid X more true let_in e b h = ap (λ (z : Bool). is_begun u guid (X ++ more) && not z) b ∙ and-zero (is_begun u guid (X ++ more))
ended-begins-not c u guid X more false let_in e b h =
    let s = ended_for_good c u guid X more e (shown-some (end_heard u guid X) (end.NotBegun HungUp) e h) in
    ap (λ (z : Bool). z && not (is_begun u guid X)) (s.begins ∙ b)

not-hung : (a b : Bool) → a && not b ≡ true → b ≡ false
not-hung true false e = refl
not-hung true true e = absurd (let z : false ≡ true = e in cc)
not-hung false b e = absurd (let z : false ≡ true = e in cc)

no-user-end : (U : Setup) (before : List Played) (c : ConnId) → link_user (played_lines before) c ≡ None → link_end U before c ≡ None
unfolding link_end
no-user-end U before c e = ap (λ (o : Option Uid). end_by U (journal_of before) c o (heard (played_lines before) c) (is_hung_up (played_lines before) c)) e

-- ---- a link that has ended

module _ (U : Setup) (before : List Played) (c : ConnId) (u : Uid) (e : LinkEnd) (s : LineStanding U (played_lines before) (journal_of before))
    (is : link_user (played_lines before) c ≡ Some u) (ended : link_end U before c ≡ Some e) where
  pub ended-unconnected : is_connected (trail_of (journal_of before)) c ≡ false
  unfolding link_end
  ended-unconnected =
      let J = journal_of before in
      let X = heard (played_lines before) c in
      let hung = is_hung_up (played_lines before) c in
      (s.links c u is).connected
      ∙ ended-out u U.guid X (is_begun u U.guid X) (was_let_in c J) hung e refl
      (sym (ap (λ (x : Option Uid). end_by U J c x X hung) is) ∙ ended)

  begins-not : (more : List ℕ) → is_hung_up (played_lines before) c ≡ false → begins U u (heard (played_lines before) c) (heard (played_lines before) c ++ more) ≡ false
  unfolding link_end
  begins-not more still =
      let J = journal_of before in
      let X = heard (played_lines before) c in
      ended-begins-not c u U.guid X more (is_begun u U.guid X) (was_let_in c J) e refl
      (sym (λ i. end_by U J c (is i) X (still i)) ∙ ended)

  -- its lines make nothing
  makes-nothing : (l : Line) → is_open_link (played_lines before) c ≡ true → link_line_events U before l c ≡ []
  makes-nothing l going =
      let J = journal_of before in
      let lines = played_lines before in
      let X = heard lines c in
      let more = brought lines l c in
      let now = is_hung_up (lines ++ l ∷ []) c in
      let still = not-hung (is_some (link_user lines c)) (is_hung_up lines c) going in
      let turns = new_calls U c u X (X ++ more) ++ ending U c u (X ++ more) now in
      (λ i. events_of_user U J c (is i) X (heard-more lines l c i) now)
      ∙ (ap (λ (x : Bool). (if x then event.Connect c u ∷ [] else []) ++ (if is_let_in U J c u x then turns else [])) (begins-not more still)
      ∙ ap (λ (x : Bool). if x then turns else []) ended-unconnected)

  -- so no line's events connect or disconnect it
  line-apart : (l : Line) (b : ConnId) → is_open_link (played_lines before) b ≡ true → (t : Bool) → (b.0 == c.0) ≡ t → AreApart c (link_line_events U before l b)
  line-apart l b going false test =
      let lines = played_lines before in
      link-apart U (journal_of before) b c (link_user lines b) (heard lines b) (heard (lines ++ l ∷ []) b) (is_hung_up (lines ++ l ∷ []) b) test
  line-apart l b going true test =
      let same : c ≡ b = sym (same-conn b c test) in
      subst (λ (x : ConnId). AreApart c (link_line_events U before l x)) same
      (subst (AreApart c) (sym (makes-nothing l (ap (λ (x : ConnId). is_open_link (played_lines before) x) same ∙ going))) tt)

  pub ended-apart : (l : Line) → MayCome before l → AreApart c (line_events U before l)
  ended-apart (line.Event x) m = (event-apart before x c u m is, tt)
  ended-apart (line.Link b v) m = tt
  ended-apart (line.In b bytes) m = line-apart (line.In b bytes) b m (b.0 == c.0) refl
  ended-apart (line.Hangup b) m = line-apart (line.Hangup b) b m (b.0 == c.0) refl
  ended-apart (line.Header v) m = absurd m
  ended-apart (line.Guid g) m = absurd m
  ended-apart (line.User r) m = absurd m
  ended-apart (line.Conf t) m = absurd m
  ended-apart (line.Action t) m = absurd m
  ended-apart line.Go m = absurd m
  ended-apart line.End m = absurd m

-- ---- behind a line whose entries were made

module _ (office : OfficeState) (before : List Played) (p : Played) (own : Option Own) (m : HasMade office before p) (b : Brings office.core.setup before p own) (o : IsOwnOf office p own) where
  abbrev U : Setup
  U = office.core.setup

  abbrev J : List Entry
  J = journal_of before

  abbrev Then : List Entry
  Then = journal_of (before ++ p ∷ [])

  abbrev lines : List Line
  lines = played_lines before

  abbrev now : List Line
  now = played_lines (before ++ p ∷ [])

  -- the bytes of the mail that the line brings
  abbrev new_bytes : ConnId → List ℕ
  new_bytes c = bytes_of (drop (length (mail c J)) (mail c Then))

  is_grown : Then ≡ J ++ p.made
  is_grown = grown U before p m.turns m.turn m.legal

  stands : LineStanding U lines J
  stands = standing U before p m.turns m.turn m.legal

  -- ---- who is not connected, and not the line's own link

  no-new-mail : (c : ConnId) → AreApart c (events_of p.made) → is_connected (trail_of J) c ≡ false → mail c Then ≡ mail c J
  no-new-mail c away out = ap (mail c) is_grown ∙ no-mail-apart U J p.made c (legal-before U before p m.turns m.turn m.legal) away out

  no-new-bytes : (c : ConnId) → AreApart c (events_of p.made) → is_connected (trail_of J) c ≡ false → new_bytes c ≡ []
  no-new-bytes c away out = ap (λ (ms : List Message). bytes_of (drop (length (mail c J)) ms)) (no-new-mail c away out) ∙ ap bytes_of (nothing-behind (mail c J))

  unconnected-before : (c : ConnId) → AreApart c (events_of p.made) → is_connected (trail_of office.core.journal) c ≡ false → is_connected (trail_of J) c ≡ false
  unconnected-before c away out =
      sym (apart-before U J p.made c (legal-made U before p m.turns m.turn m.legal) away)
      ∙ (ap (λ (j : List Entry). is_connected (trail_of j) c) (sym is_grown ∙ sym m.journal) ∙ out)

  ended-away : (c : ConnId) (u : Uid) (e : LinkEnd) → link_user lines c ≡ Some u → link_end U before c ≡ Some e → AreApart c (events_of p.made)
  ended-away c u e is ended = subst (AreApart c) (sym m.turn.events) (ended-apart U before c u e stands is ended p.line m.turn.may_come)

  -- ---- what is said to a number

  mail-of : (c : ConnId) (t : TellerState) → teller_of office c ≡ Some t → Tells U J now c t → unfetched office.core.journal (teller_of office c) ≡ new_bytes c
  mail-of c t there h =
      ap (unfetched office.core.journal) there
      ∙ (ap (λ (n : ℕ). bytes_of (drop n (mail t.place.who office.core.journal))) h.fetched
      ∙ (ap (λ (x : ConnId). bytes_of (drop (length (mail c J)) (mail x office.core.journal))) h.owner
      ∙ ap (λ (j : List Entry). bytes_of (drop (length (mail c J)) (mail c j))) m.journal))

  -- to a link, what the line says of it
  of-link : (c : ConnId) (u : Uid) → link_user now c ≡ Some u → (t : Option TellerState) → teller_of office c ≡ t → HasTeller U J now c (link_end U before c) t
      → told_text office own c ≡ link_text U before p c
  of-link c u is (Some t) there h =
      let bytes : own_replies own c ++ unfetched office.core.journal (teller_of office c) ≡ due U before p c =
      ap (λ (w : List ℕ). own_replies own c ++ w) (mail-of c t there h.0) ∙ sym (due-is U before p m.turns m.turn m.legal c u is (own_replies own c) (b.replies c u is)) in
      ap (λ (w : List ℕ). out_text c w ++ closed_text c None (own_end own c)) bytes
      ∙ (ap (λ (e : Option LinkEnd). out_text c (due U before p c) ++ closed_text c None e) (sym (b.ends c h.1))
      ∙ ap (λ (e : Option LinkEnd). out_text c (due U before p c) ++ closed_text c e (link_end U (before ++ p ∷ []) c)) (sym h.1))
  of-link c u is None there h =
      let none = o.none c there in
      let ended = some-of (link_end U before c) (h (ap (λ (x : Option Uid). is_some x) is)) in
      let quiet : new_bytes c ≡ [] = by ended.0 ended.1 (link-was U before p m.turns m.turn m.legal c u is) in
      let bytes : own_replies own c ++ unfetched office.core.journal (teller_of office c) ≡ due U before p c =
      ap (λ (w : List ℕ). own_replies own c ++ w) (ap (unfetched office.core.journal) there ∙ sym quiet) ∙ sym (due-is U before p m.turns m.turn m.legal c u is (own_replies own c) (b.replies c u is)) in
      ap (λ (w : List ℕ). out_text c w ++ closed_text c None (own_end own c)) bytes
      ∙ (ap (λ (e : Option LinkEnd). out_text c (due U before p c) ++ closed_text c None e) none.1
      ∙ ap (λ (e : Option LinkEnd). out_text c (due U before p c) ++ closed_text c e (link_end U (before ++ p ∷ []) c)) (sym ended.1))
    where
      by : (e : LinkEnd) → link_end U before c ≡ Some e → (link_user lines c ≡ Some u) ⊎ ((link_user lines c ≡ None) × IsUnused c J) → new_bytes c ≡ []
      by e ended (inl was) = no-new-bytes c (ended-away c u e was ended) (ended-unconnected U before c u e stands was ended)
      by e ended (inr new) = absurd (let z : None ≡ Some e = sym (no-user-end U before c new.0) ∙ ended in cc)

  told-link : (c : ConnId) (u : Uid) → link_user now c ≡ Some u → told_text office own c ≡ link_text U before p c
  told-link c u is = of-link c u is (teller_of office c) refl (m.tellers c)

  -- nothing, to one who has no new mail
  nothing-told : (c : ConnId) → own_replies own c ≡ [] → own_end own c ≡ None → unfetched office.core.journal (teller_of office c) ≡ [] → told_text office own c ≡ []
  nothing-told c replies ends none =
      ap (λ (w : List ℕ). out_text c (own_replies own c ++ w) ++ closed_text c None (own_end own c)) none
      ∙ (ap (λ (w : List ℕ). out_text c (w ++ []) ++ closed_text c None (own_end own c)) replies
      ∙ ap (λ (e : Option LinkEnd). closed_text c None e) ends)

  -- to one that does not hear
  told-deaf : (c : ConnId) → is_connected (trail_of office.core.journal) c ≡ false → is_this (own_who own) c ≡ false → (t : Option TellerState) → teller_of office c ≡ t
      → HasTeller U J now c (link_end U before c) t → told_text office own c ≡ []
  told-deaf c out other (Some t) there h =
      let away = o.apart c (ap (λ (x : Option TellerState). is_some x) there) other in
      nothing-told c (others-replies own c other) (others-end own c other) (mail-of c t there h.0 ∙ no-new-bytes c away (unconnected-before c away out))
  told-deaf c out other None there h = nothing-told c (others-replies own c other) (others-end own c other) (ap (unfetched office.core.journal) there)

  told-unheard : (c : ConnId) → hears (trail_of office.core.journal) (own_who own) c ≡ false → told_text office own c ≡ []
  told-unheard c deaf =
      let n = neither-of (is_connected (trail_of office.core.journal) c) (is_this (own_who own) c) deaf in
      told-deaf c n.0 n.1 (teller_of office c) refl (m.tellers c)

  -- to a number that is no link's
  told-nobody : (c : ConnId) → link_user now c ≡ None → (t : Option TellerState) → teller_of office c ≡ t → HasTeller U J now c (link_end U before c) t → told_text office own c ≡ []
  told-nobody c none (Some t) there h = absurd (let z : None ≡ Some h.0.user = sym none ∙ h.0.opened in cc)
  told-nobody c none None there h = nothing-told c (o.none c there).0 (o.none c there).1 (ap (unfetched office.core.journal) there)

  told-no-link : (c : ConnId) → link_user now c ≡ None → told_text office own c ≡ []
  told-no-link c none = told-nobody c none (teller_of office c) refl (m.tellers c)

  -- ---- to all

  abbrev heard_by : ConnId → Bool
  heard_by c = hears (trail_of office.core.journal) (own_who own) c

  abbrev near : List ConnId
  near = hearers (trail_of office.core.journal) (own_who own)

  hearer-text : (c : ConnId) → (x : Option Uid) → link_user now c ≡ x → IsIn c (link_numbers now) ⊎ (told_text office own c ≡ [])
  hearer-text c (Some u) e = inl (number-there now c u e)
  hearer-text c None e = inr (told-no-link c e)

  link-heard : (c : ConnId) (u : Uid) → link_user now c ≡ Some u → (t : Bool) → heard_by c ≡ t → IsIn c (filter heard_by near) ⊎ (told_text office own c ≡ [])
  link-heard c u is true e =
      inl (filter-keeps heard_by c near e ((hearers-enumerated (trail_of office.core.journal) (own_who own)).complete c e))
  link-heard c u is false e = inr (told-unheard c e)

  pub told-links : all_told office own ≡ links_text U before p
  told-links =
      same-texts (told_text office own) (filter heard_by near) (link_numbers now)
      (filter-ascending conn_lt heard_by near (hearers-enumerated (trail_of office.core.journal) (own_who own)).ascending) (numbers-ascend now)
      (λ c i. hearer-text c (link_user now c) refl)
      (λ c i. (let u = number-user now c i in link-heard c u.0 u.1 (heard_by c) refl))
      ∙ texts-of (told_text office own) (link_text U before p) (link_numbers now) (λ c i. (let u = number-user now c i in told-link c u.0 u.1))

  -- ---- the tellers

  still-tells : (c : ConnId) (t : TellerState) → teller_of office c ≡ Some t → (x : Bool) → heard_by c ≡ x → Tells U J now c t → (link_end U before c ≡ None)
      → HasTeller U Then now c (link_end U before c) (teller_if x office.core.journal (Some t))
  still-tells c t there true e h going = (
    record {
      user = h.user;
      opened = h.opened;
      link = record { who = h.link.who; uid = h.link.uid; guid = h.link.guid };
      heard = record { greeted = h.heard.greeted; fed = h.heard.fed };
      owner = h.owner;
      fetched = ap (λ (x : ConnId). length (mail x office.core.journal)) h.owner ∙ ap (λ (j : List Entry). length (mail c j)) m.journal;
    },
    going,
  )
  still-tells c t there false e h going =
      let n = neither-of (is_connected (trail_of office.core.journal) c) (is_this (own_who own) c) e in
      let away = o.apart c (ap (λ (x : Option TellerState). is_some x) there) n.1 in
      let same = no-new-mail c away (unconnected-before c away n.0) in (
        record {
          user = h.user;
          opened = h.opened;
          link = h.link;
          heard = h.heard;
          owner = h.owner;
          fetched = h.fetched ∙ ap (λ (ms : List Message). length ms) (sym same);
        },
        going,
      )

  teller-then : (c : ConnId) (t : Option TellerState) → teller_of office c ≡ t → HasTeller U J now c (link_end U before c) t → (x : Bool) → heard_by c ≡ x
      → HasTeller U Then now c (link_end U before c) (teller_if x office.core.journal t)
  teller-then c (Some t) there h x e = still-tells c t there x e h.0 h.1
  teller-then c None there h true e = h
  teller-then c None there h false e = h

  pub has-told : (new : OfficeState) → AllFetched office own new → HasTold office new before p
  has-told new f =
      let setup : new.core.setup ≡ U = ap (λ (x : CoreState). x.setup) f.core in
      record {
        setup = setup;
        journal = ap (λ (x : CoreState). x.journal) f.core ∙ m.journal;
        tellers = λ c. subst (λ (S : Setup). HasTeller S Then now c (link_end S before c) (teller_of new c)) (sym setup)
            (subst (λ (t : Option TellerState). HasTeller U Then now c (link_end U before c) t) (sym (f.tellers c)) (teller-then c (teller_of office c) refl (m.tellers c) (heard_by c) refl));
      }

pub ok-more : {A B : Type 0} (r : Result (Unit {0}) Early) → (A → B) → OnOk r A → OnOk r B
ok-more (Ok u) f h = f h
ok-more (Err e) f h = h
