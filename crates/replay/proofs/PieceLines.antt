-- A line of bytes on a link that has not ended, as its player hears them.
use Rattle.std.proofs.Common.{◌≡◌, ◌↔◌, IsTrue, ℕ, if◌then◌else◌, Bool, true, false, List, refl, ap, sym, ◌∙◌, subst, Option, Some, None, Err}
use Rattle.std.specs.Option.{is_some, IsSome}
use Rattle.std.proofs.lemmas.Bool.{eq-eqb}
use Rattle.login_base.specs.declared.ids.ConnId.{ConnId}
use Rattle.login_base.specs.declared.ids.Uid.{Uid}
use Rattle.login_core.specs.State.{CoreState}
use Rattle.login_model.specs.Legal.{AreInPlace, IsLegal}
use Rattle.login_model.specs.Stopping.{stopped}
use Rattle.login_model.specs.declared.event.Event.TheVariants as event
use Rattle.login_model.specs.declared.mark.Entry.{Entry}
use Rattle.login_model.specs.declared.setup.Setup.{Setup}
use Rattle.login_office.specs.Hearing.{Hears, KeepsLink, MayCome as CallsMayCome, TellerState}
use Rattle.login_office.specs.Offices.{GoesOn, KeepsOthers, OfficeState, teller_of}
use Rattle.login_office.specs.declared.end.LinkEnd.{LinkEnd}
use Rattle.login_office.specs.declared.teller.HeardPiece.{HeardPiece}
use Rattle.recording.specs.declared.line.Line.{Line}
use Rattle.recording.specs.declared.line.Line.TheVariants as line
use Rattle.recording.specs.Lines.{IsLine}
use Rattle.replay.specs.Links.{heard, line_events, link_end}
use Rattle.replay.specs.Played.{Played, played_lines, journal_of}
use Rattle.replay.specs.Recording.{MayCome}
use Rattle.replay.specs.declared.early.Early.{Early}
use Rattle.replay.specs.inner.Making.{AllMade, Makes, end_then, heard_events, is_in_then}
use Rattle.replay.specs.inner.Player.{HasTeller, PlayerState, StandsBehind, Tells, user_at}
use Rattle.replay.specs.inner.Playing.{EntriesGive, LineMade}
use Rattle.replay.proofs.Written.{TextTold}
use Rattle.replay.proofs.HeardLines.{HeardSo, heard-made, heard-so, mid-made}
use Rattle.replay.proofs.HeardPieces.{if_begins, open-hung, piece-events, piece-in-place}
use Rattle.replay.proofs.LinkLines.{has_stop, stop-played}
use Rattle.replay.proofs.MadeLines.{early-line}
use Rattle.replay.proofs.StillLines.{ended-made, unheard-made}

-- both of what is said of how a teller went on
one-teller : (o : Option TellerState) (a b : TellerState) → o ≡ Some a → o ≡ Some b → a ≡ b
one-teller o a b p q = let z : Some a ≡ Some b = sym p ∙ q in cc

-- a link whose teller is there has its user, and has not ended
told-link : (U : Setup) (told : List Entry) (lines : List Line) (c : ConnId) (ended : Option LinkEnd) (o : Option TellerState) (t : TellerState) → o ≡ Some t → HasTeller U told lines c ended o → Tells U told lines c t × (ended ≡ None)
told-link U told lines c ended o t e h = subst (HasTeller U told lines c ended) e h

-- whether the stop has come, where a player stands
stop-behind : (old : PlayerState) (played : List Played) → StandsBehind old played → is_some (stopped old.office.core.journal event.Stop) ≡ has_stop (played_lines played)
unfolding stopped
stop-behind old played s = ap (λ (j : List Entry). is_some (stopped j event.Stop)) s.journal ∙ stop-played old.office.core.setup played s.turns

-- bytes behind the stop, and those of a link that has no teller, make nothing
pub behind-stop : (old : PlayerState) (played : List Played) (b : ConnId) (bytes : List ℕ) (held : TextTold) → StandsBehind old played → IsLine (line.In b bytes) → MayCome played (line.In b bytes)
    → is_some (stopped old.office.core.journal event.Stop) ≡ true → LineMade old.office.core.setup played (line.In b bytes) old None held held
behind-stop old played b bytes held s is may stop = unheard-made old played b bytes held s is may (sym (stop-behind old played s) ∙ stop)

no-teller : (o : Option TellerState) (told : Bool) → IsTrue told ↔ IsSome o → told ≡ false → o ≡ None
no-teller None told h e = refl
no-teller (Some t) told h e = absurd (let z : false ≡ true = sym e ∙ h.1 refl in cc)

pub of-ended : (old : PlayerState) (played : List Played) (b : ConnId) (bytes : List ℕ) (held : TextTold) (told : Bool) → StandsBehind old played → IsLine (line.In b bytes) → MayCome played (line.In b bytes)
    → is_some (stopped old.office.core.journal event.Stop) ≡ false → IsTrue told ↔ IsSome (teller_of old.office b) → told ≡ false → LineMade old.office.core.setup played (line.In b bytes) old None held held
of-ended old played b bytes held told s is may going has gone =
    ended-made old played b bytes held s is may (sym (stop-behind old played s) ∙ going) (no-teller (teller_of old.office b) told has gone)

-- a piece was heard on a link, which begins as this user if it does, and ends or not
pub record PieceHeard (old : PlayerState) (mid : OfficeState) (b : ConnId) (bytes : List ℕ) (h : HeardPiece) (user : Option Uid) (ended : Bool) : Type 0 where
  pub hears : GoesOn old.office b mid (λ was now. Hears was bytes now h)
  pub keeps : GoesOn old.office b mid KeepsLink
  pub others : KeepsOthers old.office b mid
  pub calls : CallsMayCome b h.calls
  pub begins : user ≡ (if h.begins then user_at b.0 old.links else None)
  pub ends : ended ≡ is_some h.end

module _ (old : PlayerState) (mid : OfficeState) (played : List Played) (b : ConnId) (bytes : List ℕ) (h : HeardPiece) (o : Option Uid) (ended : Bool) (s : StandsBehind old played)
    (is : IsLine (line.In b bytes)) (may : MayCome played (line.In b bytes)) (stop : is_some (stopped old.office.core.journal event.Stop) ≡ false) (p : PieceHeard old mid b bytes h o ended) where
  abbrev U : Setup
  U = old.office.core.setup

  going : has_stop (played_lines played) ≡ false
  going = sym (stop-behind old played s) ∙ stop

  link : Tells U (journal_of played) (played_lines played) b p.hears.was × (link_end U played b ≡ None)
  link = told-link U (journal_of played) (played_lines played) b (link_end U played b) (teller_of old.office b) p.hears.was p.hears.was_there (s.tellers b)

  kept : KeepsLink p.hears.was p.hears.now
  kept = subst (λ (t : TellerState). KeepsLink t p.hears.now) (one-teller (teller_of old.office b) p.keeps.was p.hears.was p.keeps.was_there p.hears.was_there)
      (subst (KeepsLink p.keeps.was) (one-teller (teller_of mid b) p.keeps.now p.hears.now p.keeps.now_there p.hears.now_there) p.keeps.went)

  user-is : user_at b.0 old.links ≡ Some link.0.user
  user-is = s.links b ∙ (λ k. if open-hung (played_lines played) b may k then None else link.0.opened k)

  so : HeardSo U b link.0.user (heard (played_lines played) b) bytes h
  so = heard-so U b link.0.user (heard (played_lines played) b) bytes p.hears.was p.hears.now h link.0.link link.0.heard p.hears.went

  begins-as : o ≡ if_begins h.begins link.0.user
  begins-as = p.begins ∙ ap (λ (u : Option Uid). if h.begins then u else None) user-is

  -- what was made before it is legal
  pub heard-legal : IsLegal mid.core.setup mid.core.journal
  heard-legal = subst (λ (k : CoreState). IsLegal k.setup k.journal) (sym p.others.core) (subst (IsLegal U) (sym s.journal) s.legal)

  -- its events are in place
  pub heard-placed : AreInPlace mid.core.setup mid.core.journal (heard_events mid.core.setup mid.core.journal b o h.calls ended)
  heard-placed =
      let place = piece-in-place U played b bytes link.0.user h.calls h.begins (is_some h.end) s.turns s.legal going link.0.opened is.0 so.begins_is p.calls in
      subst (λ (t : Bool). AreInPlace mid.core.setup mid.core.journal (heard_events mid.core.setup mid.core.journal b o h.calls t)) (sym p.ends)
      (subst (λ (k : CoreState). AreInPlace k.setup k.journal (heard_events k.setup k.journal b o h.calls (is_some h.end))) (sym p.others.core)
      (subst (λ (j : List Entry). AreInPlace U j (heard_events U j b o h.calls (is_some h.end))) (sym s.journal)
      (subst (λ (x : Option Uid). AreInPlace U (journal_of played) (heard_events U (journal_of played) b x h.calls (is_some h.end))) (sym begins-as) place)))

  -- they were made
  pub piece-made : (new : PlayerState) (is_in : Bool) (held now : TextTold) → AllMade mid (heard_events mid.core.setup mid.core.journal b o h.calls ended) new.office held now
      → is_in ≡ is_in_then mid.core.setup mid.core.journal b o → new.used ≡ old.used → new.links ≡ old.links
      → LineMade U played (line.In b bytes) new (Some (record { who = b; replies = h.replies; end = end_then h.begins is_in h.end })) held now
  piece-made new is_in held now all i used links =
      heard-made old new mid played b bytes p.hears.was p.hears.now h is_in held now s is may going link.0 link.1
      (λ c other. p.others.others c (λ same. let z : true ≡ false = sym (eq-eqb b.0 c.0 (sym same)) ∙ other in cc)) p.hears.now_there p.hears.went kept
      (mid-made old.office mid new.office (journal_of played) (λ V J. heard_events V J b (if_begins h.begins link.0.user) h.calls (is_some h.end)) held now p.others.core s.journal
      (subst (λ (x : Option Uid). AllMade mid (heard_events mid.core.setup mid.core.journal b x h.calls (is_some h.end)) new.office held now) begins-as
      (subst (λ (t : Bool). AllMade mid (heard_events mid.core.setup mid.core.journal b o h.calls t) new.office held now) p.ends all)))
      (i ∙ ((λ k. is_in_then (p.others.core k).setup (p.others.core k).journal b (begins-as k)) ∙ ap (λ (j : List Entry). is_in_then U j b (if_begins h.begins link.0.user)) s.journal))
      used links

  -- or not all of them
  pub piece-early : (player : PlayerState) (new : OfficeState) (held now : TextTold) (early : Early) → Makes mid (heard_events mid.core.setup mid.core.journal b o h.calls ended) new held now (Err early)
      → EntriesGive U played (line.In b bytes) player held now (Err early)
  piece-early player new held now early k =
      let J = journal_of played in
      let u = link.0.user in
      let setup : mid.core.setup ≡ U = ap (λ (c : CoreState). c.setup) p.others.core in
      let journal : mid.core.journal ≡ J = ap (λ (c : CoreState). c.journal) p.others.core ∙ s.journal in
      let events : heard_events mid.core.setup mid.core.journal b o h.calls ended ≡ line_events mid.core.setup played (line.In b bytes) =
      (λ i. heard_events (setup i) (journal i) b (begins-as i) h.calls (p.ends i))
      ∙ (piece-events U played b bytes u h.calls h.begins h.end s.turns s.legal going may link.0.opened so.begins_is so.calls_are so.end_is ∙ ap (λ (V : Setup). line_events V played (line.In b bytes)) (sym setup)) in
      subst (λ (V : Setup). EntriesGive V played (line.In b bytes) player held now (Err early)) setup
      (early-line mid new player played (line.In b bytes) (heard_events mid.core.setup mid.core.journal b o h.calls ended) held now early
      (subst (λ (V : Setup). IsLegal V J) (sym setup) s.legal) journal events k)
