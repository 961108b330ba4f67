-- Bytes and hang-ups that make nothing: behind the stop, and of a link that has ended.
use Rattle.std.proofs.Common.{◌≡◌, ℕ, ◌==◌, ◌&&◌, ◌||◌, not, if◌then◌else◌, Bool, true, false, List, [], ◌∷◌, ◌++◌, refl, ap, sym, ◌∙◌, subst, append-nil, Option, Some, None}
use Rattle.std.specs.Option.{is_some, IsSome}
use Rattle.login_base.specs.declared.ids.ConnId.{ConnId}
use Rattle.login_base.specs.declared.ids.Uid.{Uid}
use Rattle.login_model.specs.Legal.{trail_of}
use Rattle.login_model.specs.Where.{is_connected}
use Rattle.login_model.specs.declared.event.Event.{Event}
use Rattle.login_model.specs.declared.event.Event.TheVariants as event
use Rattle.login_model.specs.declared.mark.Entry.{Entry}
use Rattle.login_model.specs.declared.setup.Setup.{Setup}
use Rattle.login_office.specs.Hearing.{HasHeard, TellerState}
use Rattle.login_office.specs.Links.{is_begun, malformed, replies}
use Rattle.login_office.specs.Offices.{teller_of}
use Rattle.login_office.specs.declared.end.LinkEnd.{LinkEnd}
use Rattle.recording.specs.declared.line.Line.{Line}
use Rattle.recording.specs.declared.line.Line.TheVariants as line
use Rattle.recording.specs.Lines.{IsLine}
use Rattle.replay.specs.Links.{begins, end_by, events_of_user, heard, is_hung_up, is_let_in, line_events, link_end, link_user, was_let_in}
use Rattle.replay.specs.Played.{Played, played_lines, journal_of}
use Rattle.replay.specs.Recording.{MayCome}
use Rattle.replay.specs.inner.Making.{turns_of}
use Rattle.replay.specs.inner.Player.{AreOpen, HasTeller, PlayerState, StandsBehind, user_at}
use Rattle.replay.specs.inner.Playing.{LineMade}
use Rattle.replay.proofs.HeardLines.{in-still, in-user}
use Rattle.replay.proofs.Written.{TextTold}
use Rattle.replay.proofs.HeardPieces.{in-hung, open-hung, piece-heard}
use Rattle.replay.proofs.HungLines.{hang-events, hang-heard, hang-open, hang-user, hang_events}
use Rattle.replay.proofs.InPlace.{unheard-events}
use Rattle.replay.proofs.LinkLines.{has_stop, heard-more}
use Rattle.replay.proofs.LinkStanding.{hangup-unsaid, in-unsaid, link-standing, open-user}
use Rattle.replay.proofs.MadeLines.{end-more}
use Rattle.replay.proofs.QuietLines.{link-ended}
use Rattle.replay.proofs.UnmadeLines.{unmade}

in-open : (lines : List Line) (b : ConnId) (bytes : List ℕ) (links : List (ℕ × Uid)) → AreOpen links lines → AreOpen links (lines ++ line.In b bytes ∷ [])
in-open lines b bytes links h = λ c. h c ∙ sym (λ k. if in-still lines b bytes c k then None else in-user lines b bytes c k)

-- the teller of a link stands as before where its bytes are the same
same-heard : (U : Setup) (J : List Entry) (lines now : List Line) (c : ConnId) (ended : Option LinkEnd) (o : Option TellerState) → link_user now c ≡ link_user lines c → heard now c ≡ heard lines c
    → HasTeller U J lines c ended o → HasTeller U J now c ended o
same-heard U J lines now c ended (Some t) user same h = (
  record {
    user = h.0.user;
    opened = user ∙ h.0.opened;
    link = h.0.link;
    heard = subst (HasHeard t) (sym same) h.0.heard;
    owner = h.0.owner;
    fetched = h.0.fetched;
  },
  h.1,
)
same-heard U J lines now c ended None user same h = λ some. h (subst IsSome user some)

-- a link without a teller stands so whatever is heard
gone-heard : (U : Setup) (J : List Entry) (lines now : List Line) (c : ConnId) (ended : Option LinkEnd) (o : Option TellerState) → o ≡ None → link_user now c ≡ link_user lines c
    → HasTeller U J lines c ended o → HasTeller U J now c ended o
gone-heard U J lines now c ended (Some t) gone user h = absurd (let z : Some t ≡ None = gone in cc)
gone-heard U J lines now c ended None gone user h = λ some. h (subst IsSome user some)

-- ---- bytes behind the stop

end-is : (U : Setup) (played : List Played) (b : ConnId) → link_end U played b ≡ None
    → end_by U (journal_of played) b (link_user (played_lines played) b) (heard (played_lines played) b) (is_hung_up (played_lines played) b) ≡ None
unfolding link_end
end-is U played b o = o

still-none : (k b l m : Bool) (c : ConnId) → k ≡ b && (l && (not m && not false)) → (if k then turns_of c [] (m || false) else []) ≡ []
still-none false b l m c e = refl
still-none true b l false c e = refl
still-none true true true true c e = absurd (let z : true ≡ false = e in cc)
still-none true true false true c e = absurd (let z : true ≡ false = e in cc)
still-none true false l true c e = absurd (let z : true ≡ false = e in cc)

pub unheard-made : (old : PlayerState) (played : List Played) (b : ConnId) (bytes : List ℕ) (held : TextTold) → StandsBehind old played → IsLine (line.In b bytes) → MayCome played (line.In b bytes)
    → has_stop (played_lines played) ≡ true → LineMade old.office.core.setup played (line.In b bytes) old None held held
unheard-made old played b bytes held s is may stop =
    let U = old.office.core.setup in
    let J = journal_of played in
    let lines = played_lines played in
    let l = line.In b bytes in
    let user = open-user lines b may in
    let u = user.0 in
    let X = heard lines b in
    let st = (link-standing U played s.turns s.legal).links b u user.1 in
    let still = open-hung lines b may in
    let same : heard (lines ++ l ∷ []) b ≡ heard lines b =
    heard-more lines l b ∙ (ap (λ (x : Bool). heard lines b ++ (if x then [] else heard (l ∷ []) b)) stop ∙ append-nil (heard lines b)) in
    let m = is_some (malformed u U.guid X) in
    let none : line_events U played l ≡ [] =
    ((λ k. events_of_user U J b (user.1 k) X (same k) (in-hung lines b bytes may k))
    ∙ (unheard-events U J b u X X false refl
    ∙ still-none (is_connected (trail_of J) b) (is_begun u U.guid X) (was_let_in b J) m b (st.connected ∙ (λ k. is_begun u U.guid X && (was_let_in b J && (not m && not (still k))))))) in
    unmade old old played l b u held s is may (sym none) refl (λ c other. in-unsaid b c bytes other) user.1 (in-user lines b bytes b ∙ user.1) (ap (replies u U.guid) same)
    (λ o. end-more U played (record { line = l; made = [] }) b ∙ ((λ k. end_by U (append-nil J k) b (in-user lines b bytes b k) (same k) (in-still lines b bytes b k)) ∙ end-is U played b o))
    (same-heard U J lines (lines ++ l ∷ []) b (link_end U played b) (teller_of old.office b) (in-user lines b bytes b) same (s.tellers b))
    refl refl (in-open lines b bytes old.links s.links)

-- ---- a link that has ended

-- a link that has no teller has ended
pub gone-ended : (old : PlayerState) (played : List Played) (b : ConnId) (u : Uid) → StandsBehind old played → link_user (played_lines played) b ≡ Some u → (o : Option TellerState) → teller_of old.office b ≡ o → o ≡ None
    → (e : Option LinkEnd) → link_end old.office.core.setup played b ≡ e → (x : LinkEnd) × (link_end old.office.core.setup played b ≡ Some x)
gone-ended old played b u s user o is none (Some x) e = (x, e)
gone-ended old played b u s user (Some t) is none None e = absurd (let z : Some t ≡ None = none in cc)
gone-ended old played b u s user None is none None e =
    let h : IsSome (link_user (played_lines played) b) → IsSome (link_end old.office.core.setup played b) =
    subst (HasTeller old.office.core.setup (journal_of played) (played_lines played) b (link_end old.office.core.setup played b)) is (s.tellers b) in
    absurd (let z : false ≡ true = subst IsSome e (h (subst IsSome (sym user) refl)) in cc)

not-none : (e : Option LinkEnd) (x : LinkEnd) (f : Option LinkEnd) → e ≡ Some x → e ≡ None → f ≡ None
not-none e x f is none = absurd (let z : Some x ≡ None = sym is ∙ none in cc)

pub begun-not : (U : Setup) (J : List Entry) (c : ConnId) (u : Uid) (b : Bool) (ts : List Event) → b ≡ false → is_connected (trail_of J) c ≡ false
    → (if b then event.Connect c u ∷ [] else []) ++ (if is_let_in U J c u b then ts else []) ≡ []
begun-not U J c u true ts e out = absurd (let z : true ≡ false = e in cc)
begun-not U J c u false ts e out = ap (λ (k : Bool). if k then ts else []) out

pub ended-made : (old : PlayerState) (played : List Played) (b : ConnId) (bytes : List ℕ) (held : TextTold) → StandsBehind old played → IsLine (line.In b bytes) → MayCome played (line.In b bytes)
    → has_stop (played_lines played) ≡ false → teller_of old.office b ≡ None → LineMade old.office.core.setup played (line.In b bytes) old None held held
ended-made old played b bytes held s is may going gone =
    let U = old.office.core.setup in
    let J = journal_of played in
    let lines = played_lines played in
    let l = line.In b bytes in
    let user = open-user lines b may in
    let u = user.0 in
    let X = heard lines b in
    let st = (link-standing U played s.turns s.legal).links b u user.1 in
    let ended = gone-ended old played b u s user.1 (teller_of old.office b) refl gone (link_end U played b) refl in
    let h = link-ended U played b u bytes ended.0 st user.1 (open-hung lines b may) ended.1 in
    let none : line_events U played l ≡ [] =
    (λ k. events_of_user U J b (user.1 k) X (piece-heard lines b bytes going k) (in-hung lines b bytes may k))
    ∙ begun-not U J b u (begins U u X (X ++ bytes)) _ h.begins_not h.out in
    unmade old old played l b u held s is may (sym none) refl (λ c other. in-unsaid b c bytes other) user.1 (in-user lines b bytes b ∙ user.1)
    (ap (replies u U.guid) (piece-heard lines b bytes going) ∙ h.replies_stay)
    (λ o. not-none (link_end U played b) ended.0 _ ended.1 o)
    (gone-heard U J lines (lines ++ l ∷ []) b (link_end U played b) (teller_of old.office b) gone (in-user lines b bytes b) (s.tellers b))
    refl refl (in-open lines b bytes old.links s.links)

-- its input ends
pub hung-quiet : (old new : PlayerState) (played : List Played) (b : ConnId) (held : TextTold) → StandsBehind old played → IsLine (line.Hangup b) → MayCome played (line.Hangup b) → teller_of old.office b ≡ None
    → new.office ≡ old.office → new.used ≡ old.used → ((n : ℕ) → user_at n new.links ≡ (if n == b.0 then None else user_at n old.links))
    → LineMade old.office.core.setup played (line.Hangup b) new None held held
hung-quiet old new played b held s is may gone office used links =
    let U = old.office.core.setup in
    let J = journal_of played in
    let lines = played_lines played in
    let l = line.Hangup b in
    let user = open-user lines b may in
    let u = user.0 in
    let st = (link-standing U played s.turns s.legal).links b u user.1 in
    let ended = gone-ended old played b u s user.1 (teller_of old.office b) refl gone (link_end U played b) refl in
    let h = link-ended U played b u [] ended.0 st user.1 (open-hung lines b may) ended.1 in
    let none : [] ≡ line_events U played l = sym (ap (λ (k : Bool). hang_events k b) h.out) ∙ hang-events U played b u user.1 in
    unmade old new played l b u held s is may none refl (λ c other. hangup-unsaid b c other) user.1 (hang-user lines b b ∙ user.1)
    (ap (replies u U.guid) (hang-heard lines b b))
    (λ o. not-none (link_end U played b) ended.0 _ ended.1 o)
    (gone-heard U J lines (lines ++ l ∷ []) b (link_end U played b) (teller_of old.office b) gone (hang-user lines b b) (s.tellers b))
    office used (λ c. links c.0 ∙ hang-open lines b c (c.0 == b.0) refl (user_at c.0 old.links) (s.links c))
