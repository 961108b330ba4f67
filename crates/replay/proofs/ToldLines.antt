-- A line whose links were told, and the link that it ended forgotten.
use Rattle.std.proofs.Common.{◌≡◌, ◌==◌, inl, inr, if◌then◌else◌, Bool, true, false, List, [], ◌∷◌, ◌++◌, refl, ap, sym, ◌∙◌, subst, Option, Some, None, Result, Ok, Err}
use Rattle.std.specs.Option.{is_some, IsSome}
use Rattle.std.proofs.lemmas.Bool.{eq-eqb}
use Rattle.login_base.specs.declared.ids.ConnId.{ConnId}
use Rattle.login_core.specs.State.{CoreState}
use Rattle.login_edge.specs.Texts.{Gains, GainsFront}
use Rattle.login_edge.proofs.Gained.{Gains-more, Gains-front-more}
use Rattle.login_model.proofs.FactLaws.{same-conn}
use Rattle.login_model.specs.Legal.{IsLegal}
use Rattle.login_model.specs.declared.mark.Entry.{Entry}
use Rattle.login_model.specs.declared.setup.Setup.{Setup}
use Rattle.login_office.specs.Hearing.{TellerState}
use Rattle.login_office.specs.Offices.{KeepsOthers, OfficeState, teller_of}
use Rattle.login_office.specs.declared.end.LinkEnd.{LinkEnd}
use Rattle.recording.specs.declared.line.Line.{Line}
use Rattle.replay.specs.Links.{link_end}
use Rattle.replay.specs.Played.{Played, played_lines, journal_of}
use Rattle.replay.specs.Recording.{AreTurns}
use Rattle.replay.specs.Transcript.{entries_text, links_text}
use Rattle.replay.specs.declared.own.Own.{Own}
use Rattle.replay.specs.declared.early.Early.{Early}
use Rattle.replay.specs.declared.early.Early.TheVariants as early
use Rattle.replay.specs.inner.Player.{AreOpen, AreUsed, Brings, HasMade, HasTeller, HasTold, PlayerState, Stands, StandsBehind, ended_in, own_end}
use Rattle.replay.specs.inner.Playing.{EntriesGive, LineBroken, LineGives, LineMade, LinePlayed}
use Rattle.replay.specs.inner.Telling.{IsOwnOf, TellsText}
use Rattle.replay.proofs.Written.{TextTold}
use Rattle.replay.proofs.EndsStay.{ends-stay}
use Rattle.replay.proofs.LinkLines.{turns-after}

-- the teller of a link that has ended is forgotten
abbrev pub Forgets : OfficeState → Option ConnId → OfficeState → Type 0
Forgets told (Some c) new = (teller_of new c ≡ None) × KeepsOthers told c new
Forgets told None new = new ≡ told

same-core : (told new : OfficeState) (o : Option ConnId) → Forgets told o new → new.core ≡ told.core
same-core told new (Some c) h = h.1.core
same-core told new None h = ap (λ (x : OfficeState). x.core) h

if-same : (t : Bool) (x : Option LinkEnd) → (if t then x else x) ≡ x
if-same true x = refl
if-same false x = refl

-- how the end of each link stands behind the line
record EndsGo (U : Setup) (played : List Played) (p : Played) (own : Option Own) : Type 0 where
  ends : (c : ConnId) → link_end U played c ≡ None → link_end U (played ++ p ∷ []) c ≡ own_end own c
  stay : (c : ConnId) → IsSome (link_end U played c) → IsSome (link_end U (played ++ p ∷ []) c)

-- a link that the line did not end
still-told : (U : Setup) (J : List Entry) (lines : List Line) (c : ConnId) (old now : Option LinkEnd) (o : Option TellerState) → (old ≡ None → now ≡ None) → (IsSome old → IsSome now)
    → HasTeller U J lines c old o → HasTeller U J lines c now o
still-told U J lines c old now (Some t) e s h = (h.0, e h.1)
still-told U J lines c old now None e s h = λ some. s (h some)

-- one that it did
ended-told : (U : Setup) (J : List Entry) (lines : List Line) (c : ConnId) (now : Option LinkEnd) (o : Option TellerState) → o ≡ None → IsSome now → HasTeller U J lines c now o
ended-told U J lines c now (Some t) e s = absurd (let z : Some t ≡ None = e in cc)
ended-told U J lines c now None e s = λ some. s

either-end : (e now : Option LinkEnd) (x : LinkEnd) → (e ≡ None → now ≡ Some x) → (IsSome e → IsSome now) → IsSome now
either-end (Some y) now x n s = s refl
either-end None now x n s = subst IsSome (sym (n refl)) refl

tellers-by : (U : Setup) (J : List Entry) (lines : List Line) (played : List Played) (p : Played) (own : Option Own) (told new : OfficeState) → EndsGo U played p own → Forgets told (ended_in own) new
    → ((c : ConnId) → HasTeller U J lines c (link_end U played c) (teller_of told c)) → (c : ConnId) → HasTeller U J lines c (link_end U (played ++ p ∷ []) c) (teller_of new c)
tellers-by U J lines played p None told new g f h c =
    subst (λ (x : OfficeState). HasTeller U J lines c (link_end U (played ++ p ∷ []) c) (teller_of x c)) (sym f)
    (still-told U J lines c (link_end U played c) (link_end U (played ++ p ∷ []) c) (teller_of told c) (g.ends c) (g.stay c) (h c))
tellers-by U J lines played p (Some own) told new g f h c = by own.end refl f (own.who.0 == c.0) refl
  where
    by : (e : Option LinkEnd) → own.end ≡ e → Forgets told (if is_some e then Some own.who else None) new → (t : Bool) → (own.who.0 == c.0) ≡ t
        → HasTeller U J lines c (link_end U (played ++ p ∷ []) c) (teller_of new c)
    by None none f t test =
        subst (λ (x : OfficeState). HasTeller U J lines c (link_end U (played ++ p ∷ []) c) (teller_of x c)) (sym f)
        (still-told U J lines c (link_end U played c) (link_end U (played ++ p ∷ []) c) (teller_of told c)
        (λ n. g.ends c n ∙ (ap (λ (e : Option LinkEnd). if own.who.0 == c.0 then e else None) none ∙ if-same (own.who.0 == c.0) None)) (g.stay c) (h c))
    by (Some x) is f true test =
        let same : own.who ≡ c = same-conn own.who c test in
        ended-told U J lines c (link_end U (played ++ p ∷ []) c) (teller_of new c) (ap (teller_of new) (sym same) ∙ f.0)
        (either-end (link_end U played c) (link_end U (played ++ p ∷ []) c) x (λ n. g.ends c n ∙ ((λ i. if test i then own.end else None) ∙ is)) (g.stay c))
    by (Some x) is f false test =
        subst (λ (o : Option TellerState). HasTeller U J lines c (link_end U (played ++ p ∷ []) c) o)
        (sym (f.1.others c (λ same. let z : true ≡ false = sym (eq-eqb own.who.0 c.0 (sym same)) ∙ test in cc)))
        (still-told U J lines c (link_end U played c) (link_end U (played ++ p ∷ []) c) (teller_of told c) (λ n. g.ends c n ∙ (λ i. if test i then own.end else None)) (g.stay c) (h c))

-- what the line was played as
told-played : (U : Setup) (played : List Played) (l : Line) (own : Option Own) (mid new : PlayerState) (told : OfficeState) (held there now : TextTold) → AreTurns U played → (m : LineMade U played l mid own held there)
    → ((c : ConnId) → IsSome (link_end U played c) → IsSome (link_end U (played ++ record { line = l; made = m.made } ∷ []) c)) → HasTold mid.office told played (record { line = l; made = m.made })
    → Forgets told (ended_in own) new.office → new.used ≡ mid.used → new.links ≡ mid.links → Gains there now (links_text mid.office.core.setup played (record { line = l; made = m.made })) → LinePlayed U played l new held now
told-played U played l own mid new told held there now turns m stay h f used links wrote =
    let p : Played = record { line = l; made = m.made } in
    let core = same-core told new.office (ended_in own) f in
    let setup : new.office.core.setup ≡ U = ap (λ (c : CoreState). c.setup) core ∙ (h.setup ∙ m.setup) in
    let before : told.core.setup ≡ U = h.setup ∙ m.setup in
    record {
      made = m.made;
      is_made = m.is_made;
      setup = setup;
      stands = record {
        turns = subst (λ (V : Setup). AreTurns V (played ++ p ∷ [])) (sym setup) (turns-after U [] played p turns m.is_made.turn);
        legal = subst (λ (V : Setup). IsLegal V (journal_of (played ++ p ∷ []))) (sym setup) m.is_made.legal;
        journal = ap (λ (c : CoreState). c.journal) core ∙ h.journal;
        used = subst (λ (v : _). AreUsed v (played ++ p ∷ [])) (sym used) m.used;
        links = subst (λ (v : _). AreOpen v (played_lines (played ++ p ∷ []))) (sym links) m.links;
        tellers = λ c. subst (λ (V : Setup). HasTeller V (journal_of (played ++ p ∷ [])) (played_lines (played ++ p ∷ [])) c (link_end V (played ++ p ∷ []) c) (teller_of new.office c)) (sym setup)
            (tellers-by U (journal_of (played ++ p ∷ [])) (played_lines (played ++ p ∷ [])) played p own told new.office (record { ends = m.brings.ends; stay = stay }) f
            (λ b. subst (λ (V : Setup). HasTeller V (journal_of (played ++ p ∷ [])) (played_lines (played ++ p ∷ [])) b (link_end V played b) (teller_of told b)) before (h.tellers b)) c);
      };
      wrote = Gains-more held there now (entries_text played m.made) (links_text U played p) m.wrote (subst (λ (V : Setup). Gains there now (links_text V played p)) m.setup wrote);
    }

-- ---- a line that was not played to its end

-- an event of it was not made
pub entries-early : (U : Setup) (played : List Played) (l : Line) (mid new : PlayerState) (held now : TextTold) (e : Early) → EntriesGive U played l mid held now (Err e) → LineGives U played l new held now (Err e)
entries-early U played l mid new held now (early.Full count) h = h
entries-early U played l mid new held now early.WriteFault h = inl h
entries-early U played l mid new held now early.NoMemory h = inl h
entries-early U played l mid new held now early.ReadFault h = absurd h
entries-early U played l mid new held now (early.Script number cause) h = absurd h

told-broken : (U : Setup) (played : List Played) (l : Line) (own : Option Own) (mid : PlayerState) (held there now : TextTold) (m : LineMade U played l mid own held there)
    → GainsFront there now (links_text mid.office.core.setup played (record { line = l; made = m.made })) → LineBroken U played l held now
told-broken U played l own mid held there now m wrote =
    let p : Played = record { line = l; made = m.made } in
    record {
      made = m.made;
      is_made = m.is_made;
      wrote = Gains-front-more held there now (entries_text played m.made) (links_text U played p) m.wrote (subst (λ (V : Setup). GainsFront there now (links_text V played p)) m.setup wrote);
    }

told-part : (U : Setup) (played : List Played) (l : Line) (own : Option Own) (mid new : PlayerState) (held there now : TextTold) (e : Early) (m : LineMade U played l mid own held there)
    → TellsText there now (links_text mid.office.core.setup played (record { line = l; made = m.made })) (Err e) → LineGives U played l new held now (Err e)
told-part U played l own mid new held there now (early.Full count) m h = absurd h
told-part U played l own mid new held there now early.WriteFault m h = inr (told-broken U played l own mid held there now m h)
told-part U played l own mid new held there now early.NoMemory m h = inr (told-broken U played l own mid held there now m h)
told-part U played l own mid new held there now early.ReadFault m h = absurd h
told-part U played l own mid new held there now (early.Script number cause) m h = absurd h

-- what the telling behind a line promises
abbrev pub SaysAll : OfficeState → Option Own → TextTold → TextTold → Result (Unit {0}) Early → Type 0
SaysAll office own there now r = (before : List Played) (p : Played) → HasMade office before p → Brings office.core.setup before p own → IsOwnOf office p own → TellsText there now (links_text office.core.setup before p) r

abbrev pub TellsAll : OfficeState → OfficeState → Option Own → Type 0
TellsAll office told own = (before : List Played) (p : Played) → HasMade office before p → Brings office.core.setup before p own → IsOwnOf office p own → HasTold office told before p

-- what the line brought is of the setup that the player has
brought-there : (U : Setup) (played : List Played) (l : Line) (own : Option Own) (mid : PlayerState) (held there : TextTold) (m : LineMade U played l mid own held there)
    → Brings mid.office.core.setup played (record { line = l; made = m.made }) own
brought-there U played l own mid held there m = subst (λ (V : Setup). Brings V played (record { line = l; made = m.made }) own) (sym m.setup) m.brings

-- its links were not told
pub told-early : (U : Setup) (played : List Played) (l : Line) (own : Option Own) (office : OfficeState) (mid new : PlayerState) (held there now : TextTold) (e : Early) → office ≡ mid.office
    → (m : LineMade U played l mid own held there) → SaysAll office own there now (Err e) → LineGives U played l new held now (Err e)
told-early U played l own office mid new held there now e same m says =
    told-part U played l own mid new held there now e m
    (subst (λ (o : OfficeState). SaysAll o own there now (Err e)) same says played (record { line = l; made = m.made }) m.has_made (brought-there U played l own mid held there m) m.is_own)

-- they were, and the link that the line ended was forgotten: the player stands behind it
pub line-told : (old mid new : PlayerState) (office told : OfficeState) (played : List Played) (l : Line) (own : Option Own) (held there now : TextTold) → StandsBehind old played → office ≡ mid.office
    → LineMade old.office.core.setup played l mid own held there → SaysAll office own there now (Ok tt) → TellsAll office told own
    → Forgets told (ended_in own) new.office → new.used ≡ mid.used → new.links ≡ mid.links → LinePlayed old.office.core.setup played l new held now
line-told old mid new office told played l own held there now s same m says tells f used links =
    let U = old.office.core.setup in
    let p : Played = record { line = l; made = m.made } in
    let b = brought-there U played l own mid held there m in
    told-played U played l own mid new told held there now s.turns m (λ c. ends-stay U played p c s.turns m.is_made.turn s.legal)
    (subst (λ (o : OfficeState). TellsAll o told own) same tells played p m.has_made b m.is_own) f used links
    (subst (λ (o : OfficeState). SaysAll o own there now (Ok tt)) same says played p m.has_made b m.is_own)

pub stands-there : (U : Setup) (played : List Played) (l : Line) (new : PlayerState) (held now : TextTold) → LinePlayed U played l new held now → Stands new
stands-there U played l new held now p = record { played = played ++ record { line = l; made = p.made } ∷ []; behind = p.stands }
