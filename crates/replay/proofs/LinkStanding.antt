-- How a link stands by what was heard on it: whether it is connected, and whether its number is unused.
use Rattle.std.proofs.Common.{◌≡◌, ℕ, ◌==◌, ◌&&◌, ◌||◌, not, if◌then◌else◌, Bool, true, false, List, [], ◌∷◌, ◌++◌, map, drop, length, refl, ap, sym, ◌∙◌, subst, append-nil, append_assoc, Option, Some, None}
use Rattle.std.specs.Option.{is_some}
use Rattle.std.proofs.lemmas.Bool.{eq-eqb}
use Rattle.bus_auth.specs.Greeting.{Greeting, State, WaitingForNul, Talking, Begun, Ended, greet}
use Rattle.bus_message.specs.Cutting.{cut}
use Rattle.bus_message.specs.declared.fault.Malformed.{Malformed}
use Rattle.login_base.specs.declared.ids.ConnId.{ConnId}
use Rattle.login_base.specs.declared.ids.Uid.{Uid}
use Rattle.login_model.proofs.FactLaws.{same-conn}
use Rattle.login_model.specs.Legal.{IsLegal, IsLegalAfter, IsUnused, events_of, trail_of}
use Rattle.login_model.specs.Policy.{verdict}
use Rattle.login_model.specs.Reading.{is_granted}
use Rattle.login_model.specs.Where.{is_connected}
use Rattle.login_model.specs.declared.event.Event.{Event}
use Rattle.login_model.specs.declared.event.Event.TheVariants as event
use Rattle.login_model.specs.declared.event.Request.{Request}
use Rattle.login_model.specs.declared.mark.Entry.{Entry}
use Rattle.login_model.specs.declared.setup.Setup.{Setup}
use Rattle.login_office.proofs.Begun.{begun_on}
use Rattle.login_office.proofs.Histories.{ended_for_good}
use Rattle.login_office.specs.Links.{behind, calls, end_heard, end_in, end_of, has_begun, is_begun, malformed}
use Rattle.login_office.specs.declared.end.LinkEnd.{LinkEnd}
use Rattle.recording.specs.declared.line.Line.{Line}
use Rattle.recording.specs.declared.line.Line.TheVariants as line
use Rattle.replay.specs.Links.{begins, ending, events_of_user, heard, is_hung_up, is_let_in, is_open_link, line_events, link_events, link_line_events, link_user, was_let_in}
use Rattle.replay.specs.Played.{Played, played_lines, journal_of}
use Rattle.replay.specs.Recording.{AreTurns, AreTurnsAfter, IsTurn, MayCome}
use Rattle.replay.specs.inner.Apart.{AreApart, touches}
use Rattle.replay.specs.inner.Making.{turns_of}
use Rattle.login_office.proofs.Connected.{connected-then, connected_by, connected_then, unused-unconnected}
use Rattle.replay.proofs.Connections.{apart-append, apart-connected, apart-let-in, apart-unused, calls-apart, let-in-append, unused-let-in}
use Rattle.replay.proofs.LinkLines.{brought, has_stop, heard-more, hung-more, journal-more, lines-append, or_else, user-more}
use Rattle.wire_out.specs.Mail.{is_connect}
use Rattle.replay.proofs.Journals.{legal_front, legal_behind}

-- a link of this user on which these bytes were heard, and whose input has ended or not: its number is unused until it
-- begins; and it is connected while it has begun, was let in, is not malformed and its input has not ended
pub record LinkStands (U : Setup) (X : List ℕ) (hung : Bool) (J : List Entry) (c : ConnId) (u : Uid) : Type 0 where
  pub unused : is_begun u U.guid X ≡ false → IsUnused c J
  pub connected : is_connected (trail_of J) c ≡ is_begun u U.guid X && (was_let_in c J && (not (is_some (malformed u U.guid X)) && not hung))

-- ---- what more bytes leave

pub begun-stays : (u : Uid) (guid text more : List ℕ) → is_begun u guid text ≡ true → is_begun u guid (text ++ more) ≡ true
begun-stays u guid text more e = by (greet u guid text).state refl e
  where
    by : (s : State) → (greet u guid text).state ≡ s → has_begun s ≡ true → is_begun u guid (text ++ more) ≡ true
    by WaitingForNul is h = absurd (let k : false ≡ true = h in cc)
    by (Talking talk l) is h = absurd (let k : false ≡ true = h in cc)
    by (Begun rest) is h = ap (λ (g : Greeting). has_begun g.state) (begun_on u guid text more rest is)
    by (Ended ending) is h = absurd (let k : false ≡ true = h in cc)

-- a link that has begun ends as its messages are malformed
pub end-begun : (u : Uid) (guid text : List ℕ) → is_begun u guid text ≡ true → end_heard u guid text ≡ end_of (malformed u guid text)
end-begun u guid text e = by (greet u guid text).state refl e
  where
    by : (s : State) → (greet u guid text).state ≡ s → has_begun s ≡ true → end_heard u guid text ≡ end_of (malformed u guid text)
    by WaitingForNul is h = absurd (let k : false ≡ true = h in cc)
    by (Talking talk l) is h = absurd (let k : false ≡ true = h in cc)
    by (Begun rest) is h = ap end_in is ∙ sym (ap (λ (s : State). end_of (cut (behind s)).malformed) is)
    by (Ended ending) is h = absurd (let k : false ≡ true = h in cc)

end-some : (m : Option Malformed) → is_some (end_of m) ≡ is_some m
end-some None = refl
end-some (Some x) = refl

pub malformed-end : (u : Uid) (guid text : List ℕ) → is_begun u guid text ≡ true → is_some (malformed u guid text) ≡ is_some (end_heard u guid text)
malformed-end u guid text b = sym (end-some (malformed u guid text)) ∙ ap is_some (sym (end-begun u guid text b))

pub some-end : (o : Option LinkEnd) → is_some o ≡ true → (e : LinkEnd) × (o ≡ Some e)
some-end None h = absurd (let k : false ≡ true = h in cc)
some-end (Some e) h = (e, refl)

pub malformed-stays : (u : Uid) (guid text more : List ℕ) → is_begun u guid text ≡ true → is_some (malformed u guid text) ≡ true → is_some (malformed u guid (text ++ more)) ≡ true
malformed-stays u guid text more b m =
    let e = some-end (end_heard u guid text) (sym (malformed-end u guid text b) ∙ m) in
    let s = ended_for_good (record { 0 = 0 }) u guid text more e.0 e.1 in
    malformed-end u guid (text ++ more) (begun-stays u guid text more b) ∙ (ap is_some s.end ∙ ap is_some e.1)

-- ---- the entries of a link's own events

pub no-entries : (es : List Entry) → events_of es ≡ [] → es ≡ []
no-entries [] e = refl
no-entries (x ∷ es) e = absurd (let k : x.event ∷ events_of es ≡ [] = e in cc)

pub record Runs (c : ConnId) (was : Bool) (es : List Entry) (now : Bool) : Type 0 where
  pub connected : connected_then c was es ≡ now
  pub let_in : was_let_in c es ≡ false

and-zero : (b : Bool) → b && false ≡ false
and-zero true = refl
and-zero false = refl

-- behind its calls a link is as before, and behind its end it is not connected
pub turns-run : (c : ConnId) (was : Bool) (es : List Entry) (rs : List Request) (ends : Bool) → events_of es ≡ turns_of c rs ends → Runs c was es (not ends && was)
turns-run c was [] [] false e = record { connected = refl; let_in = refl }
turns-run c was [] [] true e = absurd (let k : [] ≡ event.Disconnect c ∷ [] = e in cc)
turns-run c was [] (r ∷ rs) ends e = absurd (let k : [] ≡ event.Call r ∷ turns_of c rs ends = e in cc)
turns-run c was (x ∷ es) [] false e = absurd (let k : x.event ∷ events_of es ≡ [] = e in cc)
turns-run c was (x ∷ es) [] true e =
    let head : x.event ≡ event.Disconnect c = (let k : x.event ∷ events_of es ≡ event.Disconnect c ∷ [] = e in cc) in
    let tail : events_of es ≡ [] = (let k : x.event ∷ events_of es ≡ event.Disconnect c ∷ [] = e in cc) in
    let none : es ≡ [] = no-entries es tail in
    let same : (c.0 == c.0) ≡ true = eq-eqb c.0 c.0 refl in
    record {
      connected = ap (λ (t : List Entry). connected_then c (connected_by c x.event x.verdict was) t) none
          ∙ (ap (λ (y : Event). connected_by c y x.verdict was) head ∙ ap (λ (b : Bool). not b && was) same);
      let_in = ap (λ (t : List Entry). was_let_in c (x ∷ t)) none ∙ ap (λ (y : Event). (is_connect c y && is_granted x.verdict) || false) head;
    }
turns-run c was (x ∷ es) (r ∷ rs) ends e =
    let head : x.event ≡ event.Call r = (let k : x.event ∷ events_of es ≡ event.Call r ∷ turns_of c rs ends = e in cc) in
    let tail : events_of es ≡ turns_of c rs ends = (let k : x.event ∷ events_of es ≡ event.Call r ∷ turns_of c rs ends = e in cc) in
    let more = turns-run c was es rs ends tail in
    record {
      connected = ap (λ (y : Event). connected_then c (connected_by c y x.verdict was) es) head ∙ more.connected;
      let_in = ap (λ (y : Event). (is_connect c y && is_granted x.verdict) || was_let_in c es) head ∙ more.let_in;
    }

-- a link whose connection stands so, behind the entries of its events
module _ (U : Setup) (J : List Entry) (c : ConnId) (u : Uid) (old new : List ℕ) (hung now : Bool) where
  abbrev Ends : Bool
  Ends = is_some (malformed u U.guid new) || now

  abbrev New : List Request
  New = drop (length (calls c u U.guid old)) (calls c u U.guid new)

  not-or : (a b : Bool) → not (a || b) ≡ not a && not b
  not-or true b = refl
  not-or false b = refl

  -- it had begun, and was connected
  goes-on : (es : List Entry) → IsLegalAfter U J es → is_begun u U.guid new ≡ true → is_connected (trail_of J) c ≡ true → was_let_in c J ≡ true
      → events_of es ≡ turns_of c New Ends → LinkStands U new now (J ++ es) c u
  goes-on es legal b k l e =
      let r = turns-run c true es New Ends e in
      let lets : was_let_in c (J ++ es) ≡ true = let-in-append c J es ∙ ap (λ (x : Bool). x || was_let_in c es) l in
      let left : is_connected (trail_of (J ++ es)) c ≡ not Ends && true = connected-then U J es c legal ∙ (ap (λ (x : Bool). connected_then c x es) k ∙ r.connected) in
      record {
        unused = λ n. absurd (let z : true ≡ false = sym b ∙ n in cc);
        connected = left ∙ (and-one (not Ends) ∙ (not-or (is_some (malformed u U.guid new)) now
            ∙ sym (λ i. b i && (lets i && (not (is_some (malformed u U.guid new)) && not now)))));
      }
    where
      and-one : (x : Bool) → x && true ≡ x
      and-one true = refl
      and-one false = refl

  -- it was not connected, and is not: it makes nothing
  stays-out : (es : List Entry) → es ≡ [] → (is_begun u U.guid new ≡ false → IsUnused c J) → is_connected (trail_of J) c ≡ false
      → is_begun u U.guid new && (was_let_in c J && (not (is_some (malformed u U.guid new)) && not now)) ≡ false → LinkStands U new now (J ++ es) c u
  stays-out es none unused k out =
      let same : J ++ es ≡ J = ap (λ (t : List Entry). J ++ t) none ∙ append-nil J in
      subst (λ (j : List Entry). LinkStands U new now j c u) (sym same) (record { unused = unused; connected = k ∙ sym out })

  -- it begins, and is let in or not
  lets-in : (x : Entry) (es : List Entry) (g : Bool) → IsLegalAfter U J (x ∷ es) → is_granted (verdict U (trail_of J) (event.Connect c u)) ≡ g → is_begun u U.guid new ≡ true
      → IsUnused c J → IsLegal U J → x.event ≡ event.Connect c u → events_of es ≡ (if g then turns_of c New Ends else []) → LinkStands U new now (J ++ x ∷ es) c u
  lets-in x es g legal granted b unused all head tail =
      let v : is_granted x.verdict ≡ g = ap is_granted (legal.0.verdict_is ∙ ap (verdict U (trail_of J)) head) ∙ granted in
      let same : (c.0 == c.0) ≡ true = eq-eqb c.0 c.0 refl in
      let was : is_connected (trail_of J) c ≡ false = unused-unconnected U J c all unused in
      let first : connected_by c x.event x.verdict (is_connected (trail_of J) c) ≡ g =
      (λ i. connected_by c (head i) x.verdict (was i)) ∙ ((λ i. (same i && v i) || (true && false)) ∙ or-none g) in
      let lets : was_let_in c (x ∷ es) ≡ g || was_let_in c es = ap (λ (y : Event). (is_connect c y && is_granted x.verdict) || was_let_in c es) head
      ∙ (λ i. (same i && v i) || was_let_in c es) in
      let whole : is_connected (trail_of (J ++ x ∷ es)) c ≡ connected_then c g es = connected-then U J (x ∷ es) c legal ∙ ap (λ (z : Bool). connected_then c z es) first in
      let all_lets : was_let_in c (J ++ x ∷ es) ≡ g || was_let_in c es = let-in-append c J (x ∷ es) ∙ ((λ i. unused-let-in c J unused i || lets i)) in
      record {
        unused = λ n. absurd (let z : true ≡ false = sym b ∙ n in cc);
        connected = whole ∙ (by g tail ∙ sym (λ i. b i && (all_lets i && (not (is_some (malformed u U.guid new)) && not now))));
      }
    where
      or-none : (z : Bool) → z || false ≡ z
      or-none true = refl
      or-none false = refl

      and-one : (z : Bool) → z && true ≡ z
      and-one true = refl
      and-one false = refl

      by : (g : Bool) → events_of es ≡ (if g then turns_of c New Ends else [])
          → connected_then c g es ≡ true && ((g || was_let_in c es) && (not (is_some (malformed u U.guid new)) && not now))
      by true e = (let r = turns-run c true es New Ends e in r.connected ∙ (and-one (not Ends) ∙ not-or (is_some (malformed u U.guid new)) now))
      by false e = (let none = no-entries es e in ap (λ (t : List Entry). connected_then c false t) none
          ∙ sym (ap (λ (t : List Entry). (false || was_let_in c t) && (not (is_some (malformed u U.guid new)) && not now)) none))

  begun-by : (k : Bool) (es : List Entry) → IsLegalAfter U J es → LinkStands U old hung J c u → is_begun u U.guid old ≡ true → is_begun u U.guid new ≡ true
      → (is_some (malformed u U.guid old) ≡ true → is_some (malformed u U.guid new) ≡ true) → (hung ≡ true → now ≡ true)
      → is_connected (trail_of J) c ≡ k → events_of es ≡ (if k then turns_of c New Ends else []) → LinkStands U new now (J ++ es) c u
  begun-by true es legal s bo bn m h k e =
      goes-on es legal bn k (first (was_let_in c J) (not (is_some (malformed u U.guid old)) && not hung) (sym (sym k ∙ (s.connected ∙ ap (λ (z : Bool). z && (was_let_in c J && (not (is_some (malformed u U.guid old)) && not hung))) bo)))) e
    where
      first : (a b : Bool) → a && b ≡ true → a ≡ true
      first true b e = refl
      first false b e = e
  begun-by false es legal s bo bn m h k e =
      stays-out es (no-entries es e) (λ n. absurd (let z : true ≡ false = sym bn ∙ n in cc)) k
      (ap (λ (z : Bool). z && (was_let_in c J && (not (is_some (malformed u U.guid new)) && not now))) bn
      ∙ out (was_let_in c J) (is_some (malformed u U.guid old)) (is_some (malformed u U.guid new)) hung now m h
      (sym (sym k ∙ (s.connected ∙ ap (λ (z : Bool). z && (was_let_in c J && (not (is_some (malformed u U.guid old)) && not hung))) bo))))
    where
      out : (l mo mn ho hn : Bool) → (mo ≡ true → mn ≡ true) → (ho ≡ true → hn ≡ true) → l && (not mo && not ho) ≡ false → l && (not mn && not hn) ≡ false
      out false mo mn ho hn m h e = refl
      out true true mn ho hn m h e = ap (λ (z : Bool). not z && not hn) (m refl)
      out true false mn true hn m h e = ap (λ (z : Bool). not mn && not z) (h refl) ∙ and-zero (not mn)
      out true false mn false hn m h e = absurd (let z : true ≡ false = e in cc)

  by-begun : (bo bn : Bool) (es : List Entry) → IsLegal U J → IsLegalAfter U J es → LinkStands U old hung J c u → is_begun u U.guid old ≡ bo → is_begun u U.guid new ≡ bn
      → (bo ≡ true → bn ≡ true) → (bo ≡ true → is_some (malformed u U.guid old) ≡ true → is_some (malformed u U.guid new) ≡ true) → (hung ≡ true → now ≡ true)
      → events_of es ≡ (if bn && not bo then event.Connect c u ∷ [] else []) ++ (if is_let_in U J c u (bn && not bo) then turns_of c New Ends else []) → LinkStands U new now (J ++ es) c u
  by-begun true false es all legal s bo bn more m h e = absurd (let z : false ≡ true = more refl in cc)
  by-begun true true es all legal s bo bn more m h e = begun-by (is_connected (trail_of J) c) es legal s bo bn (m refl) h refl e
  by-begun false false es all legal s bo bn more m h e =
      let k : is_connected (trail_of J) c ≡ false = s.connected ∙ ap (λ (z : Bool). z && (was_let_in c J && (not (is_some (malformed u U.guid old)) && not hung))) bo in
      stays-out es (no-entries es (e ∙ ap (λ (z : Bool). if z then turns_of c New Ends else []) k)) (λ n. s.unused bo) k (ap (λ (z : Bool). z && (was_let_in c J && (not (is_some (malformed u U.guid new)) && not now))) bn)
  by-begun false true [] all legal s bo bn more m h e = absurd (let z : [] ≡ event.Connect c u ∷ (if is_let_in U J c u true then turns_of c New Ends else []) = e in cc)
  by-begun false true (x ∷ es) all legal s bo bn more m h e =
      let z : x.event ∷ events_of es ≡ event.Connect c u ∷ (if is_let_in U J c u true then turns_of c New Ends else []) = e in
      let head : x.event ≡ event.Connect c u = cc in
      let tail : events_of es ≡ (if is_let_in U J c u true then turns_of c New Ends else []) = cc in
      lets-in x es (is_granted (verdict U (trail_of J) (event.Connect c u))) legal refl bn (s.unused bo) all head tail

  -- behind the entries of the link's own events
  pub own-stands : (es : List Entry) → IsLegal U J → IsLegalAfter U J es → LinkStands U old hung J c u
      → (is_begun u U.guid old ≡ true → is_begun u U.guid new ≡ true)
      → (is_begun u U.guid old ≡ true → is_some (malformed u U.guid old) ≡ true → is_some (malformed u U.guid new) ≡ true) → (hung ≡ true → now ≡ true)
      → events_of es ≡ link_events U J c u old new now → LinkStands U new now (J ++ es) c u
  own-stands es all legal s more m h e = by-begun (is_begun u U.guid old) (is_begun u U.guid new) es all legal s refl refl more m h e

-- ---- a link behind the entries of others' events

pub others-stand : (U : Setup) (X : List ℕ) (hung : Bool) (J es : List Entry) (c : ConnId) (u : Uid) → IsLegalAfter U J es → AreApart c (events_of es)
    → LinkStands U X hung J c u → LinkStands U X hung (J ++ es) c u
others-stand U X hung J es c u legal apart s =
    let lets : was_let_in c (J ++ es) ≡ was_let_in c J = let-in-append c J es ∙ (ap (λ (b : Bool). was_let_in c J || b) (apart-let-in c es apart) ∙ or-none (was_let_in c J)) in
    record {
      unused = λ n. apart-unused c J es (s.unused n) apart;
      connected = connected-then U J es c legal ∙ (apart-connected c (is_connected (trail_of J) c) es apart
          ∙ (s.connected ∙ sym (ap (λ (b : Bool). is_begun u U.guid X && (b && (not (is_some (malformed u U.guid X)) && not hung))) lets)));
    }
  where
    or-none : (z : Bool) → z || false ≡ z
    or-none true = refl
    or-none false = refl

-- a link that opens under an unused number
pub opens-unheard : (U : Setup) (J : List Entry) (c : ConnId) (u : Uid) → IsLegal U J → IsUnused c J → LinkStands U [] false J c u
unfolding greet
opens-unheard U J c u legal n = record { unused = λ b. n; connected = unused-unconnected U J c legal n }

-- ---- a link behind a line

-- all links stand so behind lines
abbrev pub LinksStand : Setup → List Line → List Entry → Type 0
LinksStand U lines J = (c : ConnId) (u : Uid) → link_user lines c ≡ Some u → LinkStands U (heard lines c) (is_hung_up lines c) J c u

pub or-else-none : {T : Type 0} (x : Option T) → or_else x None ≡ x
or-else-none (Some x) = refl
or-else-none None = refl

pub or-none : (z : Bool) → z || false ≡ z
or-none true = refl
or-none false = refl

-- a line that says nothing of a link
pub record SaysNothing (l : Line) (c : ConnId) : Type 0 where
  pub user : link_user (l ∷ []) c ≡ None
  pub hung : is_hung_up (l ∷ []) c ≡ false
  pub heard : heard (l ∷ []) c ≡ []

pub no-piece : (b : Bool) (bytes : List ℕ) → bytes ≡ [] → (if b then [] else bytes) ≡ []
no-piece true bytes e = refl
no-piece false bytes e = e

pub unsaid-user : (lines : List Line) (l : Line) (c : ConnId) → SaysNothing l c → link_user (lines ++ l ∷ []) c ≡ link_user lines c
unsaid-user lines l c n = user-more lines l c ∙ (ap (or_else (link_user lines c)) n.user ∙ or-else-none (link_user lines c))

pub unsaid-heard : (lines : List Line) (l : Line) (c : ConnId) → SaysNothing l c → heard (lines ++ l ∷ []) c ≡ heard lines c
unsaid-heard lines l c n = heard-more lines l c ∙ (ap (λ (t : List ℕ). heard lines c ++ t) (no-piece (has_stop lines) (heard (l ∷ []) c) n.heard) ∙ append-nil (heard lines c))

pub unsaid-hung : (lines : List Line) (l : Line) (c : ConnId) → SaysNothing l c → is_hung_up (lines ++ l ∷ []) c ≡ is_hung_up lines c
unsaid-hung lines l c n = hung-more lines l c ∙ (ap (λ (b : Bool). is_hung_up lines c || b) n.hung ∙ or-none (is_hung_up lines c))

unsaid : (U : Setup) (lines : List Line) (l : Line) (J es : List Entry) (c : ConnId) (u : Uid) → IsLegalAfter U J es → LinksStand U lines J → SaysNothing l c → AreApart c (events_of es)
    → link_user (lines ++ l ∷ []) c ≡ Some u → LinkStands U (heard (lines ++ l ∷ []) c) (is_hung_up (lines ++ l ∷ []) c) (J ++ es) c u
unsaid U lines l J es c u legal s n apart is =
    let before = others-stand U (heard lines c) (is_hung_up lines c) J es c u legal apart (s c u (sym (unsaid-user lines l c n) ∙ is)) in
    subst (λ (X : List ℕ). LinkStands U X (is_hung_up (lines ++ l ∷ []) c) (J ++ es) c u) (sym (unsaid-heard lines l c n))
    (subst (λ (h : Bool). LinkStands U (heard lines c) h (J ++ es) c u) (sym (unsaid-hung lines l c n)) before)

pub event-unsaid : (e : Event) (c : ConnId) → SaysNothing (line.Event e) c
event-unsaid event.Stop c = record { user = refl; hung = refl; heard = refl }
event-unsaid e c = record { user = refl; hung = refl; heard = refl }

-- an event that has a line of its own is of no link's connection
not-own : (b c : ConnId) (t : Bool) (lines : List Line) (u : Uid) → (b.0 == c.0) ≡ t → link_user lines b ≡ None → link_user lines c ≡ Some u → t ≡ false
not-own b c false lines u e none some = refl
not-own b c true lines u e none some =
    let same : b ≡ c = same-conn b c e in
    let z : None ≡ Some u = sym none ∙ (ap (λ (x : ConnId). link_user lines x) same ∙ some) in cc

pub event-apart : (played : List Played) (e : Event) (c : ConnId) (u : Uid) → MayCome played (line.Event e) → link_user (played_lines played) c ≡ Some u → touches c e ≡ false
event-apart played (event.Connect b v) c u m some = ap (λ (x : Bool). x || false) (not-own b c (b.0 == c.0) (played_lines played) u refl m.1 some)
event-apart played (event.Disconnect b) c u m some = not-own b c (b.0 == c.0) (played_lines played) u refl m.1 some
event-apart played (event.Call r) c u m some = refl
event-apart played (event.Hardware h) c u m some = refl
event-apart played (event.Tick t) c u m some = refl
event-apart played event.Stop c u m some = refl

-- the events of a link are apart from another
if-apart : (c : ConnId) (b : Bool) (es : List Event) → AreApart c es → AreApart c (if b then es else [])
if-apart c true es h = h
if-apart c false es h = tt

pub link-apart : (U : Setup) (J : List Entry) (b c : ConnId) (u : Option Uid) (old new : List ℕ) (hung : Bool) → (b.0 == c.0) ≡ false → AreApart c (events_of_user U J b u old new hung)
link-apart U J b c None old new hung other = tt
link-apart U J b c (Some u) old new hung other =
    let first = begins U u old new in
    let turns = turns_of b (drop (length (calls b u U.guid old)) (calls b u U.guid new)) (is_some (malformed u U.guid new) || hung) in
    apart-append c (if first then event.Connect b u ∷ [] else []) (if is_let_in U J b u first then turns else [])
    (if-apart c first (event.Connect b u ∷ []) (ap (λ (x : Bool). x || false) other, tt))
    (if-apart c (is_let_in U J b u first) turns
    (apart-append c (map event.Call (drop (length (calls b u U.guid old)) (calls b u U.guid new))) (if is_some (malformed u U.guid new) || hung then event.Disconnect b ∷ [] else [])
    (calls-apart c (drop (length (calls b u U.guid old)) (calls b u U.guid new)))
    (if-apart c (is_some (malformed u U.guid new) || hung) (event.Disconnect b ∷ []) (other, tt))))

pub if-nil : (b : Bool) (X : List ℕ) → b ≡ false → (if b then X else []) ≡ []
if-nil true X e = absurd (let z : true ≡ false = e in cc)
if-nil false X e = refl

pub in-unsaid : (b c : ConnId) (bytes : List ℕ) → (b.0 == c.0) ≡ false → SaysNothing (line.In b bytes) c
in-unsaid b c bytes other = record { user = refl; hung = refl; heard = if-nil (b.0 == c.0) (bytes ++ []) other }

pub hangup-unsaid : (b c : ConnId) → (b.0 == c.0) ≡ false → SaysNothing (line.Hangup b) c
hangup-unsaid b c other = record { user = refl; hung = ap (λ (x : Bool). x || false) other; heard = refl }

-- a line of the link itself
own-line : (U : Setup) (played : List Played) (l : Line) (es : List Entry) (c : ConnId) (u : Uid) → IsLegal U (journal_of played) → IsLegalAfter U (journal_of played) es
    → LinksStand U (played_lines played) (journal_of played) → link_user (played_lines played) c ≡ Some u
    → events_of es ≡ link_events U (journal_of played) c u (heard (played_lines played) c) (heard (played_lines played ++ l ∷ []) c) (is_hung_up (played_lines played ++ l ∷ []) c)
    → LinkStands U (heard (played_lines played ++ l ∷ []) c) (is_hung_up (played_lines played ++ l ∷ []) c) (journal_of played ++ es) c u
own-line U played l es c u all legal s some e =
    let lines = played_lines played in
    let old = heard lines c in
    let piece = brought lines l c in
    let more : old ++ piece ≡ heard (lines ++ l ∷ []) c = sym (heard-more lines l c) in
    own-stands U (journal_of played) c u old (heard (lines ++ l ∷ []) c) (is_hung_up lines c) (is_hung_up (lines ++ l ∷ []) c) es all legal (s c u some)
    (λ b. subst (λ (X : List ℕ). is_begun u U.guid X ≡ true) more (begun-stays u U.guid old piece b))
    (λ b m. subst (λ (X : List ℕ). is_some (malformed u U.guid X) ≡ true) more (malformed-stays u U.guid old piece b m))
    (λ h. hung-more lines l c ∙ ap (λ (x : Bool). x || is_hung_up (l ∷ []) c) h) e

open-has : (lines : List Line) (c : ConnId) → is_open_link lines c ≡ true → (o : Option Uid) → link_user lines c ≡ o → (u : Uid) × (link_user lines c ≡ Some u)
open-has lines c h (Some u) e = (u, e)
open-has lines c h None e = absurd (let z : false ≡ true = sym (ap (λ (o : Option Uid). is_some o && not (is_hung_up lines c)) e) ∙ h in cc)

-- the user of an open link
pub open-user : (lines : List Line) (c : ConnId) → is_open_link lines c ≡ true → (u : Uid) × (link_user lines c ≡ Some u)
open-user lines c h = open-has lines c h (link_user lines c) refl

-- nothing is said of a number before its link opens
abbrev pub AreUnheard : List Line → Type 0
AreUnheard lines = (c : ConnId) → link_user lines c ≡ None → (heard lines c ≡ []) × (is_hung_up lines c ≡ false)

-- how links stand behind lines
pub record LineStanding (U : Setup) (lines : List Line) (J : List Entry) : Type 0 where
  pub links : LinksStand U lines J
  pub others : AreUnheard lines

link-opens : (U : Setup) (lines : List Line) (J : List Entry) (b c : ConnId) (v u : Uid) (t : Bool) (o : Option Uid) → IsLegal U J → IsUnused b J
    → LineStanding U lines J → (b.0 == c.0) ≡ t → link_user lines c ≡ o → or_else o (if t then Some v else None) ≡ Some u
    → LinkStands U (heard lines c) (is_hung_up lines c) J c u
link-opens U lines J b c v u t (Some w) legal n s test is some = s.links c u (is ∙ some)
link-opens U lines J b c v u false None legal n s test is some = absurd (let z : None ≡ Some u = some in cc)
link-opens U lines J b c v u true None legal n s test is some =
    let same : b ≡ c = same-conn b c test in
    let un = s.others c is in
    subst (λ (X : List ℕ). LinkStands U X (is_hung_up lines c) J c u) (sym un.0)
    (subst (λ (h : Bool). LinkStands U [] h J c u) (sym un.1)
    (opens-unheard U J c u legal (subst (λ (x : ConnId). IsUnused x J) same n)))

quiet-line : (U : Setup) (lines : List Line) (l : Line) (J : List Entry) (c : ConnId) (u : Uid) → heard (l ∷ []) c ≡ [] → is_hung_up (l ∷ []) c ≡ false
    → LinkStands U (heard lines c) (is_hung_up lines c) J c u → LinkStands U (heard (lines ++ l ∷ []) c) (is_hung_up (lines ++ l ∷ []) c) J c u
quiet-line U lines l J c u quiet still s =
    let X : heard (lines ++ l ∷ []) c ≡ heard lines c = heard-more lines l c ∙ (ap (λ (t : List ℕ). heard lines c ++ t) (no-piece (has_stop lines) (heard (l ∷ []) c) quiet) ∙ append-nil (heard lines c)) in
    let h : is_hung_up (lines ++ l ∷ []) c ≡ is_hung_up lines c = hung-more lines l c ∙ (ap (λ (b : Bool). is_hung_up lines c || b) still ∙ or-none (is_hung_up lines c)) in
    subst (λ (Y : List ℕ). LinkStands U Y (is_hung_up (lines ++ l ∷ []) c) J c u) (sym X) (subst (λ (g : Bool). LinkStands U (heard lines c) g J c u) (sym h) s)

-- a line of a link, as one of this link or of another
link-line : (U : Setup) (played : List Played) (l : Line) (b : ConnId) (es : List Entry) (c : ConnId) (u : Uid) (t : Bool) → (b.0 == c.0) ≡ t
    → is_open_link (played_lines played) b ≡ true → link_user (l ∷ []) c ≡ None → (t ≡ false → SaysNothing l c)
    → IsLegal U (journal_of played) → IsLegalAfter U (journal_of played) es → LinksStand U (played_lines played) (journal_of played)
    → events_of es ≡ link_line_events U played l b → link_user (played_lines played ++ l ∷ []) c ≡ Some u
    → LinkStands U (heard (played_lines played ++ l ∷ []) c) (is_hung_up (played_lines played ++ l ∷ []) c) (journal_of played ++ es) c u
link-line U played l b es c u false test going none n all legal s e some =
    let lines = played_lines played in
    unsaid U lines l (journal_of played) es c u legal s (n refl)
    (subst (AreApart c) (sym e) (link-apart U (journal_of played) b c (link_user lines b) (heard lines b) (heard (lines ++ l ∷ []) b) (is_hung_up (lines ++ l ∷ []) b) test)) some
link-line U played l b es c u true test going none n all legal s e some =
    let lines = played_lines played in
    let J = journal_of played in
    let same : b ≡ c = same-conn b c test in
    let was : link_user lines c ≡ Some u = sym (user-more lines l c ∙ (ap (or_else (link_user lines c)) none ∙ or-else-none (link_user lines c))) ∙ some in
    let mine : events_of es ≡ link_line_events U played l c = e ∙ ap (λ (x : ConnId). link_line_events U played l x) same in
    own-line U played l es c u all legal s was
    (mine ∙ ap (λ (o : Option Uid). events_of_user U J c o (heard lines c) (heard (lines ++ l ∷ []) c) (is_hung_up (lines ++ l ∷ []) c)) was)

links-step : (U : Setup) (played : List Played) (l : Line) (es : List Entry) → MayCome played l → events_of es ≡ line_events U played l
    → IsLegal U (journal_of played) → IsLegalAfter U (journal_of played) es → LineStanding U (played_lines played) (journal_of played)
    → LinksStand U (played_lines played ++ l ∷ []) (journal_of played ++ es)
links-step U played (line.Event e) es m is all legal s c u some =
    let lines = played_lines played in
    let was : link_user lines c ≡ Some u = sym (user-more lines (line.Event e) c ∙ or-else-none (link_user lines c)) ∙ some in
    unsaid U lines (line.Event e) (journal_of played) es c u legal s.links (event-unsaid e c)
    (subst (AreApart c) (sym is) (event-apart played e c u m was, tt)) some
links-step U played (line.Link b v) es m is all legal s c u some =
    let lines = played_lines played in
    let J = journal_of played in
    let none : es ≡ [] = no-entries es is in
    let same : J ++ es ≡ J = ap (λ (t : List Entry). J ++ t) none ∙ append-nil J in
    subst (λ (j : List Entry). LinkStands U (heard (lines ++ line.Link b v ∷ []) c) (is_hung_up (lines ++ line.Link b v ∷ []) c) j c u) (sym same)
    (quiet-line U lines (line.Link b v) J c u refl refl
    (link-opens U lines J b c v u (b.0 == c.0) (link_user lines c) all m.0 s refl refl (sym (user-more lines (line.Link b v) c) ∙ some)))
links-step U played (line.In b bytes) es m is all legal s c u some =
    link-line U played (line.In b bytes) b es c u (b.0 == c.0) refl m refl (λ other. in-unsaid b c bytes other) all legal s.links is some
links-step U played (line.Hangup b) es m is all legal s c u some =
    link-line U played (line.Hangup b) b es c u (b.0 == c.0) refl m refl (λ other. hangup-unsaid b c other) all legal s.links is some
links-step U played (line.Header v) es m is all legal s c u some = absurd m
links-step U played (line.Guid g) es m is all legal s c u some = absurd m
links-step U played (line.User r) es m is all legal s c u some = absurd m
links-step U played (line.Conf t) es m is all legal s c u some = absurd m
links-step U played (line.Action t) es m is all legal s c u some = absurd m
links-step U played line.Go es m is all legal s c u some = absurd m
links-step U played line.End es m is all legal s c u some = absurd m

-- ---- numbers without a link

pub or-else-nothing : {T : Type 0} (x y : Option T) → or_else x y ≡ None → x ≡ None
or-else-nothing (Some x) y e = absurd (let z : Some x ≡ None = e in cc)
or-else-nothing None y e = refl

-- a line that says nothing of the input of a number without a link
pub record IsQuiet (lines : List Line) (l : Line) (c : ConnId) : Type 0 where
  pub piece : link_user lines c ≡ None → heard (l ∷ []) c ≡ []
  pub still : link_user lines c ≡ None → is_hung_up (l ∷ []) c ≡ false

others-step : (lines : List Line) (l : Line) → AreUnheard lines → ((c : ConnId) → IsQuiet lines l c) → AreUnheard (lines ++ l ∷ [])
others-step lines l s q c none =
    let was : link_user lines c ≡ None = or-else-nothing (link_user lines c) (link_user (l ∷ []) c) (sym (user-more lines l c) ∙ none) in
    let un = s c was in (
      heard-more lines l c ∙ ((λ i. un.0 i ++ brought lines l c) ∙ no-piece (has_stop lines) (heard (l ∷ []) c) ((q c).piece was)),
      hung-more lines l c ∙ (λ i. un.1 i || (q c).still was i),
    )

pub open-other : (lines : List Line) (b c : ConnId) (t : Bool) → (b.0 == c.0) ≡ t → is_open_link lines b ≡ true → link_user lines c ≡ None → t ≡ false
open-other lines b c false test going none = refl
open-other lines b c true test going none =
    let u = open-user lines b going in
    let same : b ≡ c = same-conn b c test in
    let z : Some u.0 ≡ None = sym u.1 ∙ (ap (λ (x : ConnId). link_user lines x) same ∙ none) in cc

pub line-quiet : (played : List Played) (l : Line) → MayCome played l → (c : ConnId) → IsQuiet (played_lines played) l c
line-quiet played (line.Event event.Stop) m c = record { piece = λ n. refl; still = λ n. refl }
line-quiet played (line.In b bytes) m c = record {
  piece = λ n. if-nil (b.0 == c.0) (bytes ++ []) (open-other (played_lines played) b c (b.0 == c.0) refl m n);
  still = λ n. refl;
}
line-quiet played (line.Hangup b) m c = record {
  piece = λ n. refl;
  still = λ n. ap (λ (x : Bool). x || false) (open-other (played_lines played) b c (b.0 == c.0) refl m n);
}
line-quiet played l m c = record { piece = λ n. refl; still = λ n. refl }

-- ---- behind all lines

-- one more line
pub standing-more : (U : Setup) (played : List Played) (p : Played) → IsTurn U played p → IsLegal U (journal_of played) → IsLegalAfter U (journal_of played) p.made
    → LineStanding U (played_lines played) (journal_of played) → LineStanding U (played_lines (played ++ p ∷ [])) (journal_of (played ++ p ∷ []))
standing-more U played p t all legal s =
    let now : LineStanding U (played_lines played ++ p.line ∷ []) (journal_of played ++ p.made) = record {
      links = links-step U played p.line p.made t.may_come t.events all legal s;
      others = others-step (played_lines played) p.line s.others (line-quiet played p.line t.may_come);
    } in
    subst (λ (lines : List Line). LineStanding U lines (journal_of (played ++ p ∷ []))) (sym (lines-append played (p ∷ [])))
    (subst (λ (j : List Entry). LineStanding U (played_lines played ++ p.line ∷ []) j) (sym (journal-more played p)) now)

standing-after : (U : Setup) (before ps : List Played) → AreTurnsAfter U before ps → IsLegal U (journal_of before ++ journal_of ps)
    → LineStanding U (played_lines before) (journal_of before) → LineStanding U (played_lines (before ++ ps)) (journal_of (before ++ ps))
standing-after U before [] h legal s = subst (λ (b : List Played). LineStanding U (played_lines b) (journal_of b)) (sym (append-nil before)) s
standing-after U before (p ∷ ps) h legal s =
    let J = journal_of before in
    let all = legal_front U [] J (p.made ++ journal_of ps) legal in
    let rest = legal_behind U [] J (p.made ++ journal_of ps) legal in
    let more : J ++ (p.made ++ journal_of ps) ≡ journal_of (before ++ p ∷ []) ++ journal_of ps = sym (append_assoc J p.made (journal_of ps)) ∙ ap (λ (j : List Entry). j ++ journal_of ps) (sym (journal-more before p)) in
    subst (λ (b : List Played). LineStanding U (played_lines b) (journal_of b)) (append_assoc before (p ∷ []) ps)
    (standing-after U (before ++ p ∷ []) ps h.1 (subst (IsLegal U) more legal) (standing-more U before p h.0 all (legal_front U J p.made (journal_of ps) rest) s))

-- how links stand behind lines that are played
pub link-standing : (U : Setup) (played : List Played) → AreTurns U played → IsLegal U (journal_of played) → LineStanding U (played_lines played) (journal_of played)
link-standing U played h legal = standing-after U [] played h legal (record {
  links = λ c u e. absurd (let z : None ≡ Some u = e in cc);
  others = λ c e. (refl, refl);
})
