-- A line of a link that makes no entry and of which nothing is said.
use Rattle.std.proofs.Common.{◌≡◌, ℕ, ◌==◌, Bool, true, false, List, [], ◌∷◌, ◌++◌, refl, ap, sym, ◌∙◌, subst, append-nil, Some, None}
use Rattle.login_base.specs.declared.ids.ConnId.{ConnId}
use Rattle.login_base.specs.declared.ids.Uid.{Uid}
use Rattle.login_edge.specs.Texts.{Gains}
use Rattle.login_edge.proofs.Gained.{Gains-nothing}
use Rattle.login_model.proofs.FactLaws.{same-conn}
use Rattle.login_office.specs.Links.{replies}
use Rattle.login_office.specs.Offices.{OfficeState, teller_of}
use Rattle.recording.specs.declared.line.Line.{Line}
use Rattle.recording.specs.Lines.{IsLine}
use Rattle.replay.specs.Links.{heard, line_events, link_end, link_line_events, link_user}
use Rattle.replay.specs.Played.{Played, played_lines, journal_of}
use Rattle.replay.specs.Recording.{MayCome}
use Rattle.replay.specs.inner.Player.{AreOpen, AreUsed, HasTeller, PlayerState, StandsBehind}
use Rattle.replay.specs.inner.Playing.{LineMade}
use Rattle.std.specs.BTreeSet.{BTreeSet}
use Rattle.replay.proofs.Written.{TextTold}
use Rattle.replay.proofs.LinkStanding.{SaysNothing}
use Rattle.replay.proofs.MadeEntries.{blocks-none, none-made}
use Rattle.replay.proofs.MadeLines.{line-made, teller-stays}
use Rattle.replay.proofs.OwnLines.{own-links, used-still}

pub unmade : (old new : PlayerState) (played : List Played) (l : Line) (b : ConnId) (u : Uid) (held : TextTold) → (s : StandsBehind old played) → IsLine l → MayCome played l
    → [] ≡ line_events old.office.core.setup played l → line_events old.office.core.setup played l ≡ link_line_events old.office.core.setup played l b
    → ((c : ConnId) → (b.0 == c.0) ≡ false → SaysNothing l c) → link_user (played_lines played) b ≡ Some u → link_user (played_lines played ++ l ∷ []) b ≡ Some u
    → replies u old.office.core.setup.guid (heard (played_lines played ++ l ∷ []) b) ≡ replies u old.office.core.setup.guid (heard (played_lines played) b)
    → (link_end old.office.core.setup played b ≡ None → link_end old.office.core.setup (played ++ record { line = l; made = [] } ∷ []) b ≡ None)
    → HasTeller old.office.core.setup (journal_of played) (played_lines played ++ l ∷ []) b (link_end old.office.core.setup played b) (teller_of old.office b)
    → new.office ≡ old.office → new.used ≡ old.used → AreOpen new.links (played_lines played ++ l ∷ []) → LineMade old.office.core.setup played l new None held held
unmade old new played l b u held s is may none own n mine user quiet ends there office used links =
    let U = old.office.core.setup in
    let J = journal_of played in
    let lines = played_lines played in
    let e : [] ≡ link_line_events U played l b = none ∙ own in
    line-made U played l [] [] old new None held held refl s is may none (none-made U J) (ap (λ (o : OfficeState). o.core.setup) office)
    (ap (λ (o : OfficeState). o.core.journal) office ∙ (s.journal ∙ sym (append-nil J)))
    (λ c. subst (λ (o : OfficeState). HasTeller U J (lines ++ l ∷ []) c (link_end U played c) (teller_of o c)) (sym office) (teller c (b.0 == c.0) refl))
    (own-links U played l b u [] None n e (λ c other. refl) (λ c other. refl) user (quiet ∙ sym (append-nil (replies u U.guid (heard lines b)))) ends)
    (record { none = λ c t. (refl, refl); apart = λ c some other. tt })
    (subst (λ (v : BTreeSet ℕ). AreUsed v (played ++ record { line = l; made = [] } ∷ [])) (sym used) (used-still U played l b u [] old.used n e mine s.used))
    links
    (subst (λ (t : List ℕ). Gains held held t) (sym (blocks-none J)) (Gains-nothing held))
  where
    teller : (c : ConnId) (t : Bool) → (b.0 == c.0) ≡ t
        → HasTeller old.office.core.setup (journal_of played) (played_lines played ++ l ∷ []) c (link_end old.office.core.setup played c) (teller_of old.office c)
    teller c true test =
        subst (λ (x : ConnId). HasTeller old.office.core.setup (journal_of played) (played_lines played ++ l ∷ []) x (link_end old.office.core.setup played x) (teller_of old.office x)) (same-conn b c test) there
    teller c false test =
        teller-stays old.office.core.setup (journal_of played) (played_lines played) l c (link_end old.office.core.setup played c) (teller_of old.office c) (n c test) (s.tellers c)
