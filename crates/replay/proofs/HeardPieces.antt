-- A piece that is heard on a link: its events are those of its line.
use Rattle.std.proofs.Common.{◌≡◌, ℕ, ◌<◌, ◌==◌, ◌&&◌, ◌||◌, not, if◌then◌else◌, Bool, true, false, List, [], ◌∷◌, ◌++◌, drop, length, refl, ap, sym, ◌∙◌, subst, append-nil, Option, Some, None}
use Rattle.std.specs.Option.{is_some}
use Rattle.std.proofs.Math.Seq.{drop-append_seam}
use Rattle.std.proofs.lemmas.Bool.{eq-eqb}
use Rattle.login_base.specs.declared.ids.ConnId.{ConnId}
use Rattle.login_base.specs.declared.ids.Uid.{Uid}
use Rattle.login_model.specs.Legal.{AreInPlace, IsLegal, IsUnused, trail_of}
use Rattle.login_model.specs.Policy.{verdict}
use Rattle.login_model.specs.Reading.{is_granted}
use Rattle.login_model.specs.Where.{is_connected}
use Rattle.login_model.specs.declared.event.Event.{Event}
use Rattle.login_model.specs.declared.event.Event.TheVariants as event
use Rattle.login_model.specs.declared.event.Request.{Request}
use Rattle.login_model.specs.declared.mark.Entry.{Entry}
use Rattle.login_model.specs.declared.setup.Setup.{Setup}
use Rattle.login_office.specs.Hearing.{MayCome as CallsMayCome}
use Rattle.login_office.specs.Links.{calls, end_heard, is_begun, malformed}
use Rattle.login_office.specs.declared.end.LinkEnd.{LinkEnd}
use Rattle.recording.specs.declared.line.Line.{Line}
use Rattle.recording.specs.declared.line.Line.TheVariants as line
use Rattle.replay.specs.Links.{begins, events_of_user, heard, is_hung_up, is_let_in, is_open_link, line_events, link_events, link_user, was_let_in}
use Rattle.replay.specs.Played.{Played, played_lines, journal_of}
use Rattle.replay.specs.Recording.{AreTurns}
use Rattle.replay.specs.inner.Making.{heard_events, turns_of}
use Rattle.replay.proofs.LinkLines.{has_stop, heard-more, hung-more, stop-played}
use Rattle.replay.proofs.InPlace.{NotStopped, connect-in-place, going-in-place}
use Rattle.replay.proofs.LinkStanding.{LinkStands, begun-stays, link-standing, malformed-end, or-none}

-- the user of a link that begins
abbrev pub if_begins : Bool → Uid → Option Uid
if_begins b u = if b then Some u else None

turns-if : (k : Bool) (c : ConnId) (rs : List Request) (d e : Bool) → (k ≡ true → d ≡ e) → (if k then turns_of c rs d else []) ≡ (if k then turns_of c rs e else [])
turns-if true c rs d e h = ap (turns_of c rs) (h refl)
turns-if false c rs d e h = refl

-- the events of a piece, in the words of what was heard
pub events-by : (U : Setup) (J : List Entry) (c : ConnId) (u : Uid) (b : Bool) (rs : List Request) (d e : Bool) → (is_let_in U J c u b ≡ true → d ≡ e)
    → heard_events U J c (if_begins b u) rs d ≡ (if b then event.Connect c u ∷ [] else []) ++ (if is_let_in U J c u b then turns_of c rs e else [])
events-by U J c u true rs d e h = ap (λ (t : List Event). event.Connect c u ∷ t) (turns-if (is_let_in U J c u true) c rs d e h)
events-by U J c u false rs d e h = turns-if (is_connected (trail_of J) c) c rs d e h

-- ---- the line of a piece

pub open-hung : (lines : List Line) (c : ConnId) → is_open_link lines c ≡ true → is_hung_up lines c ≡ false
open-hung lines c h = by (is_some (link_user lines c)) (is_hung_up lines c) h
  where
    by : (a b : Bool) → a && not b ≡ true → b ≡ false
    by a false h = refl
    by true true h = absurd (let k : false ≡ true = h in cc)
    by false true h = absurd (let k : false ≡ true = h in cc)

-- before the stop all its bytes are heard
pub piece-heard : (lines : List Line) (c : ConnId) (bytes : List ℕ) → has_stop lines ≡ false → heard (lines ++ line.In c bytes ∷ []) c ≡ heard lines c ++ bytes
piece-heard lines c bytes n =
    let same : (c.0 == c.0) ≡ true = eq-eqb c.0 c.0 refl in
    heard-more lines (line.In c bytes) c
    ∙ ap (λ (t : List ℕ). heard lines c ++ t) ((λ i. if n i then [] else (if same i then bytes ++ [] else [])) ∙ append-nil bytes)

pub in-hung : (lines : List Line) (c : ConnId) (bytes : List ℕ) → is_open_link lines c ≡ true → is_hung_up (lines ++ line.In c bytes ∷ []) c ≡ false
in-hung lines c bytes o = hung-more lines (line.In c bytes) c ∙ (or-none (is_hung_up lines c) ∙ open-hung lines c o)

-- ---- where it is let in, it has begun

let-begun : (U : Setup) (J : List Entry) (c : ConnId) (u : Uid) (X Y : List ℕ) (b : Bool) → begins U u X Y ≡ b → LinkStands U X false J c u → (is_begun u U.guid X ≡ true → is_begun u U.guid Y ≡ true)
    → is_let_in U J c u b ≡ true → is_begun u U.guid Y ≡ true
let-begun U J c u X Y true e s m k = first (is_begun u U.guid Y) (not (is_begun u U.guid X)) e
  where
    first : (a b : Bool) → a && b ≡ true → a ≡ true
    first true b e = refl
    first false b e = e
let-begun U J c u X Y false e s m k = m (first (is_begun u U.guid X) (was_let_in c J && (not (is_some (malformed u U.guid X)) && not false)) (sym s.connected ∙ k))
  where
    first : (a b : Bool) → a && b ≡ true → a ≡ true
    first true b e = refl
    first false b e = e

or-false : (z : Bool) → z || false ≡ z
or-false true = refl
or-false false = refl

-- the events of a piece that is heard before the stop are those of its line
pub piece-events : (U : Setup) (played : List Played) (c : ConnId) (bytes : List ℕ) (u : Uid) (rs : List Request) (b : Bool) (shown : Option LinkEnd)
    → AreTurns U played → IsLegal U (journal_of played) → has_stop (played_lines played) ≡ false → is_open_link (played_lines played) c ≡ true → link_user (played_lines played) c ≡ Some u
    → b ≡ begins U u (heard (played_lines played) c) (heard (played_lines played) c ++ bytes)
    → calls c u U.guid (heard (played_lines played) c ++ bytes) ≡ calls c u U.guid (heard (played_lines played) c) ++ rs
    → shown ≡ end_heard u U.guid (heard (played_lines played) c ++ bytes)
    → heard_events U (journal_of played) c (if_begins b u) rs (is_some shown) ≡ line_events U played (line.In c bytes)
piece-events U played c bytes u rs b shown turns legal going o user begun called ends =
    let lines = played_lines played in
    let J = journal_of played in
    let X = heard lines c in
    let Y = X ++ bytes in
    let s = (link-standing U played turns legal).links c u user in
    let s0 : LinkStands U X false J c u = subst (λ (h : Bool). LinkStands U X h J c u) (open-hung lines c o) s in
    let more : is_begun u U.guid X ≡ true → is_begun u U.guid Y ≡ true = λ e. begun-stays u U.guid X bytes e in
    let fresh : drop (length (calls c u U.guid X)) (calls c u U.guid Y) ≡ rs = ap (drop (length (calls c u U.guid X))) called ∙ drop-append_seam (calls c u U.guid X) rs in
    let end : is_let_in U J c u b ≡ true → is_some shown ≡ is_some (malformed u U.guid Y) || false =
    λ k. ap is_some ends ∙ (sym (malformed-end u U.guid Y (let-begun U J c u X Y b (sym begun) s0 more k)) ∙ sym (or-false (is_some (malformed u U.guid Y)))) in
    let first = events-by U J c u b rs (is_some shown) (is_some (malformed u U.guid Y) || false) end in
    let second : (if b then event.Connect c u ∷ [] else []) ++ (if is_let_in U J c u b then turns_of c rs (is_some (malformed u U.guid Y) || false) else []) ≡ link_events U J c u X Y false =
    λ i. (if begun i then event.Connect c u ∷ [] else []) ++ (if is_let_in U J c u (begun i) then turns_of c (sym fresh i) (is_some (malformed u U.guid Y) || false) else []) in
    let third : link_events U J c u X Y false ≡ events_of_user U J c (link_user lines c) X (heard (lines ++ line.In c bytes ∷ []) c) (is_hung_up (lines ++ line.In c bytes ∷ []) c) =
    λ i. events_of_user U J c (sym user i) X (sym (piece-heard lines c bytes going) i) (sym (in-hung lines c bytes o) i) in
    first ∙ (second ∙ third)

-- they are in place, where its calls may come
pub heard-in-place : (U : Setup) (J : List Entry) (c : ConnId) (u : Uid) (b : Bool) (rs : List Request) (ends : Bool) → 0 < c.0 → (b ≡ true → IsUnused c J) → NotStopped J → CallsMayCome c rs
    → AreInPlace U J (heard_events U J c (if_begins b u) rs ends)
heard-in-place U J c u true rs ends p i n m = connect-in-place U J c u rs ends (is_granted (verdict U (trail_of J) (event.Connect c u))) refl p (i refl) n m
heard-in-place U J c u false rs ends p i n m = going-in-place U J c rs ends (is_connected (trail_of J) c) refl n m

-- so are those of a piece that is heard before the stop
pub piece-in-place : (U : Setup) (played : List Played) (c : ConnId) (bytes : List ℕ) (u : Uid) (rs : List Request) (b ends : Bool) → AreTurns U played → IsLegal U (journal_of played)
    → has_stop (played_lines played) ≡ false → link_user (played_lines played) c ≡ Some u → 0 < c.0
    → b ≡ begins U u (heard (played_lines played) c) (heard (played_lines played) c ++ bytes) → CallsMayCome c rs
    → AreInPlace U (journal_of played) (heard_events U (journal_of played) c (if_begins b u) rs ends)
piece-in-place U played c bytes u rs b ends turns legal going user p begun m =
    let X = heard (played_lines played) c in
    let s = (link-standing U played turns legal).links c u user in
    heard-in-place U (journal_of played) c u b rs ends p (λ e. s.unused (before (is_begun u U.guid (X ++ bytes)) (is_begun u U.guid X) (sym begun ∙ e))) (stop-played U played turns ∙ going) m
  where
    before : (x y : Bool) → x && not y ≡ true → y ≡ false
    before x false e = refl
    before true true e = absurd (let k : false ≡ true = e in cc)
    before false true e = absurd (let k : false ≡ true = e in cc)
