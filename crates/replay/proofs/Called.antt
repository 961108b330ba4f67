-- The calls that the lines of a link made are those of all its bytes.
use Rattle.std.proofs.Common.{◌≡◌, ℕ, ◌==◌, ◌&&◌, ◌||◌, not, if◌then◌else◌, Bool, true, false, Option, Some, None, List, [], ◌∷◌, ◌++◌, map, drop, length, refl, ap, sym, ◌∙◌, subst, append-nil, append_assoc}
use Rattle.std.specs.Option.{is_some}
use Rattle.std.proofs.Math.Seq.{drop-append_seam}
use Rattle.std.proofs.lemmas.Bool.{eq-eqb}
use Rattle.std.proofs.lemmas.List.{map-append}
use Rattle.login_base.specs.declared.ids.ConnId.{ConnId}
use Rattle.login_base.specs.declared.ids.Uid.{Uid}
use Rattle.login_model.proofs.FactLaws.{same-conn}
use Rattle.login_model.specs.Legal.{IsLegal, IsLegalAfter, IsUnused, events_of, trail_of}
use Rattle.login_model.specs.Policy.{verdict}
use Rattle.login_model.specs.Reading.{is_granted}
use Rattle.login_model.specs.Where.{is_connected}
use Rattle.login_model.specs.declared.event.Event.{Event}
use Rattle.login_model.specs.declared.event.Event.TheVariants as event
use Rattle.login_model.specs.declared.event.Request.{Request}
use Rattle.login_model.specs.declared.mark.Entry.{Entry}
use Rattle.login_model.specs.declared.setup.Setup.{Setup}
use Rattle.login_office.proofs.Histories.{ended_for_good}
use Rattle.login_office.proofs.MoreBytes.{begun-on, unbegun-calls}
use Rattle.login_office.specs.Links.{behind, calls, end_heard, is_begun, malformed}
use Rattle.recording.specs.declared.line.Line.{Line}
use Rattle.recording.specs.declared.line.Line.TheVariants as line
use Rattle.replay.specs.Links.{ending, events_of_user, heard, is_hung_up, is_let_in, is_open_link, line_events, link_events, link_line_events, link_user, was_let_in}
use Rattle.replay.specs.Played.{Played, played_lines, journal_of}
use Rattle.replay.specs.Recording.{AreTurns, AreTurnsAfter, MayCome}
use Rattle.replay.specs.LinkLaws.{CallsAreOfBytes, calls_among, calls_by, calls_due, link_calls}
use Rattle.replay.specs.inner.Apart.{AreApart}
use Rattle.replay.specs.inner.Making.{turns_of}
use Rattle.replay.proofs.Connections.{apart-let-in, let-in-append, unused-let-in}
use Rattle.replay.proofs.LinkLines.{brought, has_stop, heard-more, journal-append, journal-more, lines-append, or_else, turns-more, user-more}
use Rattle.replay.proofs.LinkStanding.{LineStanding, LinkStands, SaysNothing, begun-stays, event-apart, event-unsaid, hangup-unsaid, in-unsaid, link-apart, link-standing, malformed-end, no-entries, no-piece, open-user, or-none, some-end, unsaid-heard, unsaid-user}
use Rattle.wire_out.specs.Mail.{is_connect}
use Rattle.replay.proofs.Journals.{legal_front, legal_behind}

-- ---- the calls of more bytes

-- the further calls stand behind those before
calls-grow : (c : ConnId) (u : Uid) (guid text more : List ℕ) → is_begun u guid text ≡ true
    → calls c u guid (text ++ more) ≡ calls c u guid text ++ drop (length (calls c u guid text)) (calls c u guid (text ++ more))
calls-grow c u guid text more b =
    let g = (begun-on c u guid text more b).calls in
    let old = calls c u guid text in
    g.1 ∙ ap (λ (rs : List Request). old ++ rs) (sym (ap (λ (rs : List Request). drop (length old) rs) g.1 ∙ drop-append_seam old g.0))

malformed-calls : (c : ConnId) (u : Uid) (guid text more : List ℕ) → is_begun u guid text ≡ true → is_some (malformed u guid text) ≡ true → calls c u guid (text ++ more) ≡ calls c u guid text
malformed-calls c u guid text more b m =
    let e = some-end (end_heard u guid text) (sym (malformed-end u guid text b) ∙ m) in
    (ended_for_good c u guid text more e.0 e.1).calls

-- ---- the calls among the events of a link

among-append : (xs ys : List Event) → calls_among (xs ++ ys) ≡ calls_among xs ++ calls_among ys
among-append [] ys = refl
among-append (event.Call r ∷ xs) ys = ap (λ (t : List Event). event.Call r ∷ t) (among-append xs ys)
among-append (event.Connect c u ∷ xs) ys = among-append xs ys
among-append (event.Disconnect c ∷ xs) ys = among-append xs ys
among-append (event.Hardware h ∷ xs) ys = among-append xs ys
among-append (event.Tick t ∷ xs) ys = among-append xs ys
among-append (event.Stop ∷ xs) ys = among-append xs ys

among-calls : (rs : List Request) → calls_among (map event.Call rs) ≡ map event.Call rs
among-calls [] = refl
among-calls (r ∷ rs) = ap (λ (t : List Event). event.Call r ∷ t) (among-calls rs)

among-end : (ends : Bool) (c : ConnId) → calls_among (if ends then event.Disconnect c ∷ [] else []) ≡ []
among-end true c = refl
among-end false c = refl

among-turns : (c : ConnId) (rs : List Request) (ends : Bool) → calls_among (turns_of c rs ends) ≡ map event.Call rs
among-turns c rs ends =
    among-append (map event.Call rs) (if ends then event.Disconnect c ∷ [] else [])
    ∙ ((λ i. among-calls rs i ++ among-end ends c i) ∙ append-nil (map event.Call rs))

-- ---- a line of the link itself

first-true : (a b : Bool) → a && b ≡ true → a ≡ true
first-true true b e = refl
first-true false b e = absurd (let z : false ≡ true = e in cc)

module _ (U : Setup) (J : List Entry) (c : ConnId) (u : Uid) (old more : List ℕ) (now : Bool) where
  abbrev New : List ℕ
  New = old ++ more

  abbrev Ends : Bool
  Ends = is_some (malformed u U.guid New) || now

  abbrev Further : List Request
  Further = drop (length (calls c u U.guid old)) (calls c u U.guid New)

  abbrev due_then : Bool → List ℕ → List Event
  due_then let_in bytes = calls_due U c (Some u) let_in bytes

  none-made : (events : List Event) → events ≡ [] → (es : List Entry) → events_of es ≡ events → due_then (was_let_in c J) New ≡ due_then (was_let_in c J) old
      → due_then (was_let_in c (J ++ es)) New ≡ due_then (was_let_in c J) old ++ calls_among events
  none-made events none es e same =
      let nobody : es ≡ [] = no-entries es (e ∙ none) in
      ap (λ (t : List Entry). due_then (was_let_in c (J ++ t)) New) nobody
      ∙ (ap (λ (j : List Entry). due_then (was_let_in c j) New) (append-nil J)
      ∙ (same ∙ (sym (append-nil (due_then (was_let_in c J) old)) ∙ ap (λ (t : List Event). due_then (was_let_in c J) old ++ calls_among t) (sym none))))

  -- it was connected
  goes-on : (es : List Entry) → is_begun u U.guid old ≡ true → was_let_in c J ≡ true → events_of es ≡ turns_of c Further Ends
      → due_then (was_let_in c (J ++ es)) New ≡ due_then (was_let_in c J) old ++ calls_among (turns_of c Further Ends)
  goes-on es b l e =
      let lets : was_let_in c (J ++ es) ≡ true = let-in-append c J es ∙ ap (λ (x : Bool). x || was_let_in c es) l in
      ap (λ (x : Bool). due_then x New) lets
      ∙ (ap (λ (rs : List Request). map event.Call rs) (calls-grow c u U.guid old more b)
      ∙ (map-append event.Call (calls c u U.guid old) Further
      ∙ (λ i. due_then (sym l i) old ++ sym (among-turns c Further Ends) i)))

  -- it begins
  begins-now : (x : Entry) (es : List Entry) (g : Bool) → IsLegalAfter U J (x ∷ es) → is_granted (verdict U (trail_of J) (event.Connect c u)) ≡ g → is_begun u U.guid old ≡ false
      → IsUnused c J → x.event ≡ event.Connect c u → events_of es ≡ (if g then turns_of c Further Ends else [])
      → due_then (was_let_in c (J ++ x ∷ es)) New ≡ due_then (was_let_in c J) old ++ calls_among (event.Connect c u ∷ (if g then turns_of c Further Ends else []))
  begins-now x es g legal granted b unused head tail =
      let v : is_granted x.verdict ≡ g = ap is_granted (legal.0.verdict_is ∙ ap (verdict U (trail_of J)) head) ∙ granted in
      let same : (c.0 == c.0) ≡ true = eq-eqb c.0 c.0 refl in
      let was : was_let_in c J ≡ false = unused-let-in c J unused in
      let lets : was_let_in c (J ++ x ∷ es) ≡ g || was_let_in c es =
      let-in-append c J (x ∷ es) ∙ ((λ i. was i || ((is_connect c (head i) && v i) || was_let_in c es)) ∙ (λ i. (same i && g) || was_let_in c es)) in
      ap (λ (y : Bool). due_then y New) lets ∙ (by g tail ∙ ap (λ (y : Bool). due_then y old ++ calls_among (event.Connect c u ∷ (if g then turns_of c Further Ends else []))) (sym was))
    where
      by : (g : Bool) → events_of es ≡ (if g then turns_of c Further Ends else [])
          → due_then (g || was_let_in c es) New ≡ calls_among (event.Connect c u ∷ (if g then turns_of c Further Ends else []))
      by true e =
          sym (among-turns c Further Ends ∙ ap (λ (rs : List Request). map event.Call (drop (length rs) (calls c u U.guid New))) (unbegun-calls c u U.guid old b))
      by false e = ap (λ (t : List Entry). due_then (false || was_let_in c t) New) (no-entries es e)

  by-connected : (k : Bool) (es : List Entry) → LinkStands U old false J c u → is_begun u U.guid old ≡ true → is_connected (trail_of J) c ≡ k
      → events_of es ≡ (if k then turns_of c Further Ends else [])
      → due_then (was_let_in c (J ++ es)) New ≡ due_then (was_let_in c J) old ++ calls_among (if k then turns_of c Further Ends else [])
  by-connected true es s b k e =
      goes-on es b
      (first-true (was_let_in c J) (not (is_some (malformed u U.guid old)) && not false)
      (sym (sym k ∙ (s.connected ∙ ap (λ (z : Bool). z && (was_let_in c J && (not (is_some (malformed u U.guid old)) && not false))) b)))) e
  by-connected false es s b k e =
      none-made [] refl es e
      (by (was_let_in c J) (is_some (malformed u U.guid old)) refl
      (sym (sym k ∙ (s.connected ∙ ap (λ (z : Bool). z && (was_let_in c J && (not (is_some (malformed u U.guid old)) && not false))) b))))
    where
      by : (l m : Bool) → is_some (malformed u U.guid old) ≡ m → l && (not m && not false) ≡ false → due_then l New ≡ due_then l old
      by false m is h = refl
      by true true is h = ap (λ (rs : List Request). map event.Call rs) (malformed-calls c u U.guid old more b is)
      by true false is h = absurd (let z : true ≡ false = h in cc)

  by-begun : (bo bn : Bool) (es : List Entry) → IsLegalAfter U J es → LinkStands U old false J c u → is_begun u U.guid old ≡ bo → is_begun u U.guid New ≡ bn → (bo ≡ true → bn ≡ true)
      → events_of es ≡ (if bn && not bo then event.Connect c u ∷ [] else []) ++ (if is_let_in U J c u (bn && not bo) then turns_of c Further Ends else [])
      → due_then (was_let_in c (J ++ es)) New ≡ due_then (was_let_in c J) old
      ++ calls_among ((if bn && not bo then event.Connect c u ∷ [] else []) ++ (if is_let_in U J c u (bn && not bo) then turns_of c Further Ends else []))
  by-begun true false es legal s bo bn stays e = absurd (let z : false ≡ true = stays refl in cc)
  by-begun true true es legal s bo bn stays e = by-connected (is_connected (trail_of J) c) es s bo refl e
  by-begun false false es legal s bo bn stays e =
      let out : is_connected (trail_of J) c ≡ false = s.connected ∙ ap (λ (z : Bool). z && (was_let_in c J && (not (is_some (malformed u U.guid old)) && not false))) bo in
      let l : was_let_in c J ≡ false = unused-let-in c J (s.unused bo) in
      none-made (if is_connected (trail_of J) c then turns_of c Further Ends else []) (ap (λ (z : Bool). if z then turns_of c Further Ends else []) out) es e
      (ap (λ (z : Bool). due_then z New) l ∙ sym (ap (λ (z : Bool). due_then z old) l))
  by-begun false true [] legal s bo bn stays e = absurd (let z : [] ≡ event.Connect c u ∷ (if is_let_in U J c u true then turns_of c Further Ends else []) = e in cc)
  by-begun false true (x ∷ es) legal s bo bn stays e =
      let z : x.event ∷ events_of es ≡ event.Connect c u ∷ (if is_let_in U J c u true then turns_of c Further Ends else []) = e in
      let head : x.event ≡ event.Connect c u = cc in
      let tail : events_of es ≡ (if is_let_in U J c u true then turns_of c Further Ends else []) = cc in
      begins-now x es (is_granted (verdict U (trail_of J) (event.Connect c u))) legal refl bo (s.unused bo) head tail

  pub own-calls : (es : List Entry) → IsLegalAfter U J es → LinkStands U old false J c u → events_of es ≡ link_events U J c u old New now
      → due_then (was_let_in c (J ++ es)) New ≡ due_then (was_let_in c J) old ++ calls_among (link_events U J c u old New now)
  own-calls es legal s e = by-begun (is_begun u U.guid old) (is_begun u U.guid New) es legal s refl refl (λ b. begun-stays u U.guid old more b) e

-- ---- a line

-- the calls that are due behind lines
abbrev due_at : Setup → List Line → List Entry → ConnId → List Event
due_at U lines J c = calls_due U c (link_user lines c) (was_let_in c J) (heard lines c)

same-due : (U : Setup) (lines now : List Line) (J later : List Entry) (c : ConnId) (X : List Event) → link_user now c ≡ link_user lines c → was_let_in c later ≡ was_let_in c J
    → heard now c ≡ heard lines c → X ≡ [] → due_at U now later c ≡ due_at U lines J c ++ X
same-due U lines now J later c X a b h x =
    (λ i. calls_due U c (a i) (b i) (h i)) ∙ (sym (append-nil (due_at U lines J c)) ∙ ap (λ (t : List Event). due_at U lines J c ++ t) (sym x))

no-link-due : (U : Setup) (lines now : List Line) (J later : List Entry) (c : ConnId) (X : List Event) → link_user now c ≡ None → link_user lines c ≡ None → X ≡ []
    → due_at U now later c ≡ due_at U lines J c ++ X
no-link-due U lines now J later c X a b x =
    ap (λ (o : Option Uid). calls_due U c o (was_let_in c later) (heard now c)) a
    ∙ sym (ap (λ (o : Option Uid). calls_due U c o (was_let_in c J) (heard lines c) ++ X) b ∙ x)

apart-lets : (c : ConnId) (J es : List Entry) → AreApart c (events_of es) → was_let_in c (J ++ es) ≡ was_let_in c J
apart-lets c J es h = let-in-append c J es ∙ (ap (λ (b : Bool). was_let_in c J || b) (apart-let-in c es h) ∙ or-none (was_let_in c J))

none-more : (x : Option Uid) (y : Option Uid) → y ≡ None → or_else x y ≡ x
none-more (Some v) y e = refl
none-more None y e = e

-- more bytes of a link, or the end of its input
module _ (U : Setup) (played : List Played) (l : Line) (es : List Entry) (c : ConnId) (legal : IsLegalAfter U (journal_of played) es) (s : LineStanding U (played_lines played) (journal_of played)) where
  abbrev lines : List Line
  lines = played_lines played

  abbrev J : List Entry
  J = journal_of played

  -- one that says nothing of this one
  others-line : SaysNothing l c → AreApart c (events_of es) → (X : List Event) → X ≡ [] → due_at U (lines ++ l ∷ []) (J ++ es) c ≡ due_at U lines J c ++ X
  others-line n apart X x = same-due U lines (lines ++ l ∷ []) J (J ++ es) c X (unsaid-user lines l c n) (apart-lets c J es apart) (unsaid-heard lines l c n) x

  event-line : (e : Event) → l ≡ line.Event e → MayCome played (line.Event e) → events_of es ≡ e ∷ [] → due_at U (lines ++ l ∷ []) (J ++ es) c ≡ due_at U lines J c ++ []
  event-line e is m events = by (link_user lines c) refl
    where
      n : SaysNothing l c
      n = subst (λ (x : Line). SaysNothing x c) (sym is) (event-unsaid e c)

      by : (o : Option Uid) → link_user lines c ≡ o → due_at U (lines ++ l ∷ []) (J ++ es) c ≡ due_at U lines J c ++ []
      by (Some u) some = others-line n (subst (AreApart c) (sym events) (event-apart played e c u m some, tt)) [] refl
      by None none = no-link-due U lines (lines ++ l ∷ []) J (J ++ es) c [] (unsaid-user lines l c n ∙ none) none refl

  and-second : (a b : Bool) → a && not b ≡ true → b ≡ false
  and-second true false e = refl
  and-second true true e = absurd (let z : false ≡ true = e in cc)
  and-second false b e = absurd (let z : false ≡ true = e in cc)

  user-stays : (u : Uid) → link_user (l ∷ []) c ≡ None → link_user lines c ≡ Some u → link_user (lines ++ l ∷ []) c ≡ Some u
  user-stays u unsaid is = user-more lines l c ∙ (none-more (link_user lines c) (link_user (l ∷ []) c) unsaid ∙ is)

  own-in : (u : Uid) → link_user (l ∷ []) c ≡ None → link_user lines c ≡ Some u → is_open_link lines c ≡ true → events_of es ≡ link_line_events U played l c
      → due_at U (lines ++ l ∷ []) (J ++ es) c ≡ due_at U lines J c ++ calls_among (events_of es)
  own-in u unsaid is going events =
      let old = heard lines c in
      let more = brought lines l c in
      let now = is_hung_up (lines ++ l ∷ []) c in
      let hung : is_hung_up lines c ≡ false = and-second (is_some (link_user lines c)) (is_hung_up lines c) going in
      let stands : LinkStands U old false J c u = subst (λ (h : Bool). LinkStands U old h J c u) hung (s.links c u is) in
      let mine : events_of es ≡ link_events U J c u old (old ++ more) now =
      events ∙ (λ i. events_of_user U J c (is i) old (heard-more lines l c i) now) in
      (λ i. calls_due U c (user-stays u unsaid is i) (was_let_in c (J ++ es)) (heard-more lines l c i))
      ∙ (own-calls U J c u old more now es legal stands mine
      ∙ (λ i. calls_due U c (sym is i) (was_let_in c J) old ++ calls_among (sym mine i)))

  link-opens : (b : ConnId) (v : Uid) → link_user (l ∷ []) c ≡ (if b.0 == c.0 then Some v else None) → heard (l ∷ []) c ≡ [] → IsUnused b J → events_of es ≡ []
      → due_at U (lines ++ l ∷ []) (J ++ es) c ≡ due_at U lines J c ++ []
  link-opens b v opens quiet unused events = by (link_user lines c) refl (b.0 == c.0) refl
    where
      old_journal : J ++ es ≡ J
      old_journal = ap (λ (t : List Entry). J ++ t) (no-entries es events) ∙ append-nil J

      lets : was_let_in c (J ++ es) ≡ was_let_in c J
      lets = ap (was_let_in c) old_journal

      same : heard (lines ++ l ∷ []) c ≡ heard lines c
      same = heard-more lines l c ∙ (ap (λ (t : List ℕ). heard lines c ++ t) (no-piece (has_stop lines) (heard (l ∷ []) c) quiet) ∙ append-nil (heard lines c))

      by : (o : Option Uid) → link_user lines c ≡ o → (t : Bool) → (b.0 == c.0) ≡ t → due_at U (lines ++ l ∷ []) (J ++ es) c ≡ due_at U lines J c ++ []
      by (Some u) is t test =
          same-due U lines (lines ++ l ∷ []) J (J ++ es) c [] (user-more lines l c ∙ (ap (λ (o : Option Uid). or_else o (link_user (l ∷ []) c)) is ∙ sym is)) lets same refl
      by None is false test =
          no-link-due U lines (lines ++ l ∷ []) J (J ++ es) c []
          (user-more lines l c ∙ (ap (λ (o : Option Uid). or_else o (link_user (l ∷ []) c)) is ∙ (opens ∙ ap (λ (x : Bool). if x then Some v else None) test))) is refl
      by None is true test =
          let user : link_user (lines ++ l ∷ []) c ≡ Some v =
          user-more lines l c ∙ (ap (λ (o : Option Uid). or_else o (link_user (l ∷ []) c)) is ∙ (opens ∙ ap (λ (x : Bool). if x then Some v else None) test)) in
          let out : was_let_in c (J ++ es) ≡ false = lets ∙ unused-let-in c J (subst (λ (x : ConnId). IsUnused x J) (same-conn b c test) unused) in
          ap (λ (o : Option Uid). calls_due U c o (was_let_in c (J ++ es)) (heard (lines ++ l ∷ []) c)) user
          ∙ (ap (λ (z : Bool). calls_due U c (Some v) z (heard (lines ++ l ∷ []) c)) out
          ∙ sym (ap (λ (o : Option Uid). calls_due U c o (was_let_in c J) (heard lines c) ++ []) is))

  own-line : (b : ConnId) → is_open_link lines b ≡ true → events_of es ≡ link_line_events U played l b → ((b.0 == c.0) ≡ false → SaysNothing l c) → link_user (l ∷ []) c ≡ None
      → due_at U (lines ++ l ∷ []) (J ++ es) c ≡ due_at U lines J c ++ (if b.0 == c.0 then calls_among (events_of es) else [])
  own-line b going events n unsaid = by (b.0 == c.0) refl
    where
      by : (t : Bool) → (b.0 == c.0) ≡ t → due_at U (lines ++ l ∷ []) (J ++ es) c ≡ due_at U lines J c ++ (if b.0 == c.0 then calls_among (events_of es) else [])
      by false test =
          others-line (n test)
          (subst (AreApart c) (sym events) (link-apart U J b c (link_user lines b) (heard lines b) (heard (lines ++ l ∷ []) b) (is_hung_up (lines ++ l ∷ []) b) test))
          (if b.0 == c.0 then calls_among (events_of es) else []) (ap (λ (t : Bool). if t then calls_among (events_of es) else []) test)
      by true test =
          let same : b ≡ c = same-conn b c test in
          let u = open-user lines b going in
          own-in u.0 unsaid (ap (λ (y : ConnId). link_user lines y) (sym same) ∙ u.1) (ap (λ (y : ConnId). is_open_link lines y) (sym same) ∙ going)
          (events ∙ ap (λ (y : ConnId). link_line_events U played l y) same)
          ∙ ap (λ (t : Bool). due_at U lines J c ++ (if t then calls_among (events_of es) else [])) (sym test)

calls-step : (U : Setup) (played : List Played) (l : Line) (es : List Entry) (c : ConnId) → MayCome played l → events_of es ≡ line_events U played l → IsLegalAfter U (journal_of played) es
    → LineStanding U (played_lines played) (journal_of played)
    → due_at U (played_lines played ++ l ∷ []) (journal_of played ++ es) c ≡ due_at U (played_lines played) (journal_of played) c ++ calls_by l c (events_of es)
calls-step U played (line.Event e) es c m events legal s = event-line U played (line.Event e) es c legal s e refl m events
calls-step U played (line.Link b v) es c m events legal s = link-opens U played (line.Link b v) es c legal s b v refl refl m.0 events
calls-step U played (line.In b bytes) es c m events legal s =
    own-line U played (line.In b bytes) es c legal s b m events (λ other. in-unsaid b c bytes other) refl
calls-step U played (line.Hangup b) es c m events legal s =
    own-line U played (line.Hangup b) es c legal s b m events (λ other. hangup-unsaid b c other) refl
calls-step U played (line.Header v) es c m events legal s = absurd m
calls-step U played (line.Guid g) es c m events legal s = absurd m
calls-step U played (line.User r) es c m events legal s = absurd m
calls-step U played (line.Conf t) es c m events legal s = absurd m
calls-step U played (line.Action t) es c m events legal s = absurd m
calls-step U played line.Go es c m events legal s = absurd m
calls-step U played line.End es c m events legal s = absurd m

-- ---- all lines

calls-behind : (U : Setup) (before ps : List Played) (c : ConnId) → AreTurns U before → AreTurnsAfter U before ps → IsLegal U (journal_of (before ++ ps))
    → due_at U (played_lines before) (journal_of before) c ++ link_calls ps c ≡ due_at U (played_lines (before ++ ps)) (journal_of (before ++ ps)) c
calls-behind U before [] c h t legal =
    append-nil (due_at U (played_lines before) (journal_of before) c) ∙ ap (λ (b : List Played). due_at U (played_lines b) (journal_of b) c) (sym (append-nil before))
calls-behind U before (p ∷ ps) c h t legal =
    let next = before ++ p ∷ [] in
    let J = journal_of before in
    let same : next ++ ps ≡ before ++ (p ∷ ps) = append_assoc before (p ∷ []) ps in
    let whole : IsLegal U (journal_of (next ++ ps)) = subst (λ (b : List Played). IsLegal U (journal_of b)) (sym same) legal in
    let front : IsLegal U (journal_of next) = legal_front U [] (journal_of next) (journal_of ps) (subst (λ (j : List Entry). IsLegal U j) (journal-append next ps) whole) in
    let both : IsLegal U (J ++ p.made) = subst (λ (j : List Entry). IsLegal U j) (journal-more before p) front in
    let first : IsLegal U J = legal_front U [] J p.made both in
    let step = calls-step U before p.line p.made c t.0.may_come t.0.events (legal_behind U [] J p.made both) (link-standing U before h first) in
    let ends : due_at U (played_lines next) (journal_of next) c ≡ due_at U (played_lines before) J c ++ calls_by p.line c (events_of p.made) =
    (λ i. due_at U (lines-append before (p ∷ []) i) (journal-more before p i) c) ∙ step in
    sym (append_assoc (due_at U (played_lines before) J c) (calls_by p.line c (events_of p.made)) (link_calls ps c))
    ∙ (ap (λ (es : List Event). es ++ link_calls ps c) (sym ends)
    ∙ (calls-behind U next ps c (turns-more U before p h t.0) t.1 whole ∙ ap (λ (b : List Played). due_at U (played_lines b) (journal_of b) c) same))

pub calls-are-of-bytes : CallsAreOfBytes
calls-are-of-bytes U played c h legal = calls-behind U [] played c tt h legal
