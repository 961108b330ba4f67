-- A line that opens a link.
use Rattle.std.proofs.Common.{◌≡◌, ℕ, ◌==◌, ◌||◌, if◌then◌else◌, Bool, true, false, List, [], ◌∷◌, ◌++◌, length, refl, ap, sym, ◌∙◌, subst, append-nil, Option, Some, None}
use Rattle.std.specs.BTreeSet.{contains}
use Rattle.std.specs.Ordering.{nat_cmp}
use Rattle.std.proofs.lemmas.Bool.{eqb-true, eq-eqb}
use Rattle.bus_auth.specs.Greeting.{greet}
use Rattle.login_base.specs.declared.ids.ConnId.{ConnId}
use Rattle.login_base.specs.declared.ids.Uid.{Uid}
use Rattle.login_core.specs.State.{CoreState}
use Rattle.login_edge.specs.Texts.{Gains}
use Rattle.login_edge.proofs.Gained.{Gains-nothing}
use Rattle.login_model.proofs.FactLaws.{same-conn}
use Rattle.login_model.specs.Legal.{IsUnused}
use Rattle.login_model.specs.declared.mark.Entry.{Entry}
use Rattle.login_model.specs.declared.setup.Setup.{Setup}
use Rattle.login_office.specs.Hearing.{HasHeard}
use Rattle.login_office.specs.Links.{replies}
use Rattle.login_office.specs.Offices.{teller_of}
use Rattle.recording.specs.declared.line.Line.{Line}
use Rattle.recording.specs.declared.line.Line.TheVariants as line
use Rattle.recording.specs.Lines.{IsLine}
use Rattle.replay.specs.Links.{end_by, heard, is_hung_up, link_end, link_user}
use Rattle.replay.specs.Played.{Played, played_lines, journal_of}
use Rattle.replay.specs.Recording.{IsNoLink, MayCome}
use Rattle.replay.specs.inner.Player.{AreUsed, HasTeller, OpensLink, PlayerState, StandsBehind, Tells, open_user, user_at}
use Rattle.replay.specs.inner.Playing.{LineMade}
use Rattle.wire_out.specs.Mail.{mail}
use Rattle.wire_out.specs.Places.{Place}
use Rattle.replay.proofs.Written.{TextTold}
use Rattle.replay.proofs.LinkLines.{has_stop, heard-more, hung-more, journal-more, lines-append, or_else, user-more}
use Rattle.replay.proofs.LinkStanding.{SaysNothing, link-standing, no-piece, or-else-none, or-else-nothing, or-none}
use Rattle.replay.proofs.MadeEntries.{blocks-none, none-made}
use Rattle.replay.proofs.MadeLines.{end-more, end-stays, line-made, no-link-end, teller-stays}

-- ---- tests of numbers

same-test : (m n : ℕ) (t : Bool) → (m == n) ≡ t → (n == m) ≡ t
same-test m n true e = eq-eqb n m (sym (eqb-true m n e))
same-test m n false e = by (n == m) refl
  where
    by : (s : Bool) → (n == m) ≡ s → (n == m) ≡ false
    by false is = is
    by true is = absurd (let z : true ≡ false = sym (eq-eqb m n (sym (eqb-true n m is))) ∙ e in cc)

or-both : (a b : Bool) → a || b ≡ false → (a ≡ false) × (b ≡ false)
or-both true b e = absurd (let z : true ≡ false = e in cc)
or-both false b e = (refl, e)

none-tested : (o : Option Uid) (t : Bool) (u : Uid) → o ≡ None → or_else o (if t then Some u else None) ≡ None → t ≡ false
none-tested (Some x) t u e n = absurd (let z : Some x ≡ None = e in cc)
none-tested None true u e n = absurd (let z : Some u ≡ None = n in cc)
none-tested None false u e n = refl

-- ---- what the line says

link-unsaid : (b c : ConnId) (u : Uid) → (b.0 == c.0) ≡ false → SaysNothing (line.Link b u) c
link-unsaid b c u other = record { user = ap (λ (t : Bool). if t then Some u else None) other; hung = refl; heard = refl }

link-heard : (lines : List Line) (b c : ConnId) (u : Uid) → heard (lines ++ line.Link b u ∷ []) c ≡ heard lines c
link-heard lines b c u = heard-more lines (line.Link b u) c ∙ (ap (λ (t : List ℕ). heard lines c ++ t) (no-piece (has_stop lines) [] refl) ∙ append-nil (heard lines c))

link-hung : (lines : List Line) (b c : ConnId) (u : Uid) → is_hung_up (lines ++ line.Link b u ∷ []) c ≡ is_hung_up lines c
link-hung lines b c u = hung-more lines (line.Link b u) c ∙ or-none (is_hung_up lines c)

new-user : (lines : List Line) (b : ConnId) (u : Uid) → IsNoLink lines b → link_user (lines ++ line.Link b u ∷ []) b ≡ Some u
new-user lines b u n =
    let same : (b.0 == b.0) ≡ true = eq-eqb b.0 b.0 refl in
    user-more lines (line.Link b u) b ∙ (λ k. or_else (n k) (if same k then Some u else None))

fresh-end : (U : Setup) (J : List Entry) (c : ConnId) (u : Uid) → end_by U J c (Some u) [] false ≡ None
unfolding greet
fresh-end U J c u = refl

-- ---- the numbers

module _ (old new : PlayerState) (played : List Played) (b : ConnId) (u : Uid) where
  abbrev It : Played
  It = record { line = line.Link b u; made = [] }

  journal-same : journal_of (played ++ It ∷ []) ≡ journal_of played
  journal-same = journal-more played It ∙ append-nil (journal_of played)

  now-used : AreUsed old.used played → ((n : ℕ) → contains nat_cmp new.used n ≡ (n == b.0 || contains nat_cmp old.used n)) → AreUsed new.used (played ++ It ∷ [])
  now-used h used = λ c.
      let lines = played_lines played in
      let a = sym (lines-append played (It ∷ [])) in (
        λ f.
            let both = or-both (c.0 == b.0) (contains nat_cmp old.used c.0) (sym (used c.0) ∙ f) in
            let before = (h c).0 both.1 in
            let other : (b.0 == c.0) ≡ false = same-test c.0 b.0 false both.0 in (
              subst (IsUnused c) (sym journal-same) before.0,
              subst (λ (x : List Line). IsNoLink x c) a (user-more lines (line.Link b u) c ∙ (λ k. or_else (before.1 k) (if other k then Some u else None))),
            ),
        λ p.
            let none : or_else (link_user lines c) (if b.0 == c.0 then Some u else None) ≡ None = sym (user-more lines (line.Link b u) c) ∙ subst (λ (x : List Line). IsNoLink x c) (sym a) p.1 in
            let was : link_user lines c ≡ None = or-else-nothing (link_user lines c) (if b.0 == c.0 then Some u else None) none in
            let other : (c.0 == b.0) ≡ false = same-test b.0 c.0 false (none-tested (link_user lines c) (b.0 == c.0) u was none) in
            let free : contains nat_cmp old.used c.0 ≡ false = (h c).1 (subst (IsUnused c) journal-same p.0, was) in
            used c.0 ∙ (λ k. other k || free k),
      )

  now-open : (c : ConnId) (t : Bool) → (c.0 == b.0) ≡ t → IsNoLink (played_lines played) b → is_hung_up (played_lines played) b ≡ false → (o : Option Uid) → o ≡ open_user (played_lines played) c
      → (if t then Some u else o) ≡ open_user (played_lines played ++ line.Link b u ∷ []) c
  now-open c true test none still o e =
      let lines = played_lines played in
      let same : c ≡ b = same-conn c b test in
      sym (ap (λ (x : ConnId). open_user (lines ++ line.Link b u ∷ []) x) same ∙ (λ k. if (link-hung lines b b u ∙ still) k then None else new-user lines b u none k))
  now-open c false test none still o e =
      let lines = played_lines played in
      let other = same-test c.0 b.0 false test in
      e ∙ sym (λ k. if link-hung lines b c u k then None else (user-more lines (line.Link b u) c ∙ ((λ i. or_else (link_user lines c) (if other i then Some u else None)) ∙ or-else-none (link_user lines c))) k)

  -- the teller of the link
  new-teller : OpensLink old b u new → StandsBehind old played → MayCome played (line.Link b u) → heard (played_lines played) b ≡ []
      → HasTeller old.office.core.setup (journal_of played) (played_lines played ++ line.Link b u ∷ []) b (link_end old.office.core.setup played b) (teller_of new.office b)
  new-teller o s may silent =
      let U = old.office.core.setup in
      let J = journal_of played in
      let lines = played_lines played in
      let t = o.opens.teller in
      let tells : Tells U J (lines ++ line.Link b u ∷ []) b t = record {
        user = u;
        opened = new-user lines b u may.1;
        link = o.opens.link;
        heard = subst (HasHeard t) (sym (link-heard lines b b u ∙ silent)) o.opens.heard;
        owner = ap (λ (p : Place). p.who) o.opens.place;
        fetched = ap (λ (p : Place). p.fetched) o.opens.place ∙ ap (λ (j : List Entry). length (mail b j)) s.journal;
      } in
      subst (HasTeller U J (lines ++ line.Link b u ∷ []) b (link_end U played b)) (sym o.opens.there) (tells, no-link-end U played b may.1)

  teller : (c : ConnId) (t : Bool) → (b.0 == c.0) ≡ t → OpensLink old b u new → StandsBehind old played → MayCome played (line.Link b u) → heard (played_lines played) b ≡ []
      → HasTeller old.office.core.setup (journal_of played) (played_lines played ++ line.Link b u ∷ []) c (link_end old.office.core.setup played c) (teller_of new.office c)
  teller c true test o s may silent =
      subst (λ (x : ConnId). HasTeller old.office.core.setup (journal_of played) (played_lines played ++ line.Link b u ∷ []) x (link_end old.office.core.setup played x) (teller_of new.office x))
      (same-conn b c test) (new-teller o s may silent)
  teller c false test o s may silent =
      let U = old.office.core.setup in
      let other : c.0 ≡ b.0 → ⊥ = λ e. let z : true ≡ false = sym (eq-eqb b.0 c.0 (sym e)) ∙ test in cc in
      subst (HasTeller U (journal_of played) (played_lines played ++ line.Link b u ∷ []) c (link_end U played c)) (sym (o.keeps.others c other))
      (teller-stays U (journal_of played) (played_lines played) (line.Link b u) c (link_end U played c) (teller_of old.office c) (link-unsaid b c u test) (s.tellers c))

  ends-then : (U : Setup) (c : ConnId) (t : Bool) → (b.0 == c.0) ≡ t → IsNoLink (played_lines played) b → heard (played_lines played) b ≡ [] → is_hung_up (played_lines played) b ≡ false
      → link_end U played c ≡ None → link_end U (played ++ It ∷ []) c ≡ None
  ends-then U c true test none silent still e =
      let lines = played_lines played in
      subst (λ (x : ConnId). link_end U (played ++ It ∷ []) x ≡ None) (same-conn b c test)
      (end-more U played It b
      ∙ ((λ k. end_by U (append-nil (journal_of played) k) b (new-user lines b u none k) ((link-heard lines b b u ∙ silent) k) ((link-hung lines b b u ∙ still) k)) ∙ fresh-end U (journal_of played) b u))
  ends-then U c false test none silent still e = end-stays U played It c (link-unsaid b c u test) tt ∙ e

  pub opened-made : (held : TextTold) → StandsBehind old played → IsLine (line.Link b u) → MayCome played (line.Link b u) → OpensLink old b u new
      → LineMade old.office.core.setup played (line.Link b u) new None held held
  opened-made held s is may o =
      let U = old.office.core.setup in
      let J = journal_of played in
      let lines = played_lines played in
      let un = (link-standing U played s.turns s.legal).others b may.1 in
      line-made U played (line.Link b u) [] [] old new None held held refl s is may refl (none-made U J) (ap (λ (k : CoreState). k.setup) o.keeps.core)
      (ap (λ (k : CoreState). k.journal) o.keeps.core ∙ (s.journal ∙ sym (append-nil J)))
      (λ c. teller c (b.0 == c.0) refl o s may un.0)
      (record {
        replies = λ c v some. ap (replies v U.guid) (link-heard lines b c u) ∙ sym (append-nil (replies v U.guid (heard lines c)));
        ends = λ c none. ends-then U c (b.0 == c.0) refl may.1 un.0 un.1 none;
      })
      (record { none = λ c t. (refl, refl); apart = λ c some other. tt })
      (now-used s.used o.used)
      (λ c. o.links c.0 ∙ now-open c (c.0 == b.0) refl may.1 un.1 (user_at c.0 old.links) (s.links c))
      (subst (λ (t : List ℕ). Gains held held t) (sym (blocks-none J)) (Gains-nothing held))
