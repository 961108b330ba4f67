-- Which events may come next.
use Rattle.std.proofs.Common.{◌≡◌, ◌&&◌, not, Bool, true, false, List, Option, Some, None, refl, ap, sym, ◌∙◌}
use Rattle.std.specs.List.{AllByRecursion}
use Rattle.std.specs.Option.{is_some}
use Rattle.login_base.specs.declared.ids.ConnId.{ConnId}
use Rattle.login_base.specs.declared.ids.Uid.{Uid}
use Rattle.login_model.specs.declared.hardware.Hardware.{Hardware}
use Rattle.login_model.specs.declared.hardware.Hardware.TheVariants.{Add, Exit}
use Rattle.login_model.specs.declared.event.Event.{Event}
use Rattle.login_model.specs.declared.event.Event.TheVariants.{Connect, Disconnect, Call as Calls, Hardware as Happens, Tick, Stop}
use Rattle.login_model.specs.declared.setup.Setup.{Setup}
use Rattle.login_model.specs.Legal.{Fits, IsLegal, IsPlaced, trail_of}
use Rattle.login_model.specs.Stopping.{stopped}
use Rattle.login_model.specs.Texts.{IsText, hardware_texts, has_seat_name}
use Rattle.login_model.specs.Where.{is_connected}
use Rattle.login_office.specs.Links.{is_begun, malformed}
use Rattle.recording.specs.EventSpelling.{FitsHardware, Fits as FitsLine}
use Rattle.recording.specs.declared.line.Line.TheVariants as line
use Rattle.recording.specs.Lines.{IsEventLine}
use Rattle.replay.specs.Links.{heard, is_hung_up, is_open_link, link_user, was_let_in}
use Rattle.replay.specs.Played.{Played, journal_of, played_lines}
use Rattle.replay.specs.Recording.{AreTurns, IsOfNoLink, MayCome}
use Rattle.replay.specs.inner.Placing.{IsNamed, MayOpen}
use Rattle.replay.proofs.LinkStanding.{link-standing}

hardware_fits : (x : Hardware) → FitsHardware x → AllByRecursion (IsText 512) (hardware_texts x) × (has_seat_name x ≡ true)
hardware_fits (Add d kind seat) f = (tt, f.1)
hardware_fits (Exit id) f = ((f, tt), refl)
hardware_fits _ f = (tt, refl)

-- what a line has read is as it must be where whom it names is
fits_named : (played : List Played) (e : Event) → FitsLine e → IsNamed played e → Fits (journal_of played) e
fits_named played (Connect c u) f n = (f.0, n.0)
fits_named played (Disconnect c) f n = n.0
fits_named played (Calls r) f n = (n, f.2, f.5, f.6)
fits_named played (Happens x) f n = hardware_fits x f
fits_named played (Tick m) f n = tt
fits_named played Stop f n = tt

-- a connected client that is no open link is none
hung-out : (b l m h : Bool) → b && (l && (not m && not h)) ≡ true → h ≡ false
hung-out b l m false e = refl
hung-out true true true true e = absurd (let k : false ≡ true = e in cc)
hung-out true true false true e = absurd (let k : false ≡ true = e in cc)
hung-out true false m true e = absurd (let k : false ≡ true = e in cc)
hung-out false l m true e = absurd (let k : false ≡ true = e in cc)

typed-only : (U : Setup) (played : List Played) (c : ConnId) (o : Option Uid) → AreTurns U played → IsLegal U (journal_of played) → is_connected (trail_of (journal_of played)) c ≡ true
    → is_open_link (played_lines played) c ≡ false → link_user (played_lines played) c ≡ o → o ≡ None
typed-only U played c None turns legal k n is = refl
typed-only U played c (Some u) turns legal k n is =
    let lines = played_lines played in
    let s = (link-standing U played turns legal).links c u is in
    let h : is_hung_up lines c ≡ false = hung-out (is_begun u U.guid (heard lines c)) (was_let_in c (journal_of played)) (is_some (malformed u U.guid (heard lines c))) (is_hung_up lines c) (sym s.connected ∙ k) in
    let z : true ≡ false = sym (λ i. is_some (is i) && not (h i)) ∙ n in absurd cc

no-link : (U : Setup) (played : List Played) (e : Event) → AreTurns U played → IsLegal U (journal_of played) → IsNamed played e → IsOfNoLink (played_lines played) e
no-link U played (Connect c u) turns legal n = n.1
no-link U played (Disconnect c) turns legal n = typed-only U played c (link_user (played_lines played) c) turns legal n.0 n.1 refl
no-link U played (Calls r) turns legal n = tt
no-link U played (Happens x) turns legal n = tt
no-link U played (Tick m) turns legal n = tt
no-link U played Stop turns legal n = tt

named_fits : (played : List Played) (e : Event) → Fits (journal_of played) e → IsOfNoLink (played_lines played) e → IsNamed played e
named_fits played (Connect c u) f n = (f.1, n)
named_fits played (Disconnect c) f n = (f, ap (λ (o : Option Uid). is_some o && not (is_hung_up (played_lines played) c)) n)
named_fits played (Calls r) f n = f.0
named_fits played (Happens x) f n = tt
named_fits played (Tick m) f n = tt
named_fits played Stop f n = tt

pub placed : (U : Setup) (played : List Played) (e : Event) → AreTurns U played → IsLegal U (journal_of played) → IsEventLine e → stopped (journal_of played) e ≡ None → IsNamed played e
    → IsPlaced (journal_of played) e × IsOfNoLink (played_lines played) e
placed U played e turns legal l s n = ((fits_named played e l n, s), no-link U played e turns legal n)

pub placed_named : (played : List Played) (e : Event) → IsPlaced (journal_of played) e → IsOfNoLink (played_lines played) e → IsNamed played e
placed_named played e h n = named_fits played e h.0 n

-- a link may open where its line may come: the stop is one for all events but a disconnect
pub link-placed : (played : List Played) (c : ConnId) (u : Uid) → MayOpen played c → MayCome played (line.Link c u)
unfolding stopped
link-placed played c u h = h

pub link-opens : (played : List Played) (c : ConnId) (u : Uid) → MayCome played (line.Link c u) → MayOpen played c
unfolding stopped
link-opens played c u h = h
