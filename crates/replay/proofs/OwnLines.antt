-- A line of a link, whose entries were made.
use Rattle.std.proofs.Common.{◌≡◌, ℕ, ◌==◌, ◌&&◌, ◌||◌, not, if◌then◌else◌, Bool, true, false, List, [], ◌∷◌, ◌++◌, refl, ap, sym, ◌∙◌, subst, append-nil, Option, Some, None}
use Rattle.std.specs.BTreeSet.{BTreeSet}
use Rattle.std.specs.Option.{is_some}
use Rattle.std.proofs.lemmas.Bool.{eq-eqb}
use Rattle.login_base.specs.declared.ids.ConnId.{ConnId}
use Rattle.login_base.specs.declared.ids.Uid.{Uid}
use Rattle.login_model.proofs.FactLaws.{same-conn}
use Rattle.login_model.specs.Legal.{IsLegalAfter, IsUnused, events_of, trail_of}
use Rattle.login_model.specs.Policy.{verdict}
use Rattle.login_model.specs.Reading.{is_granted}
use Rattle.login_model.specs.Where.{is_connected}
use Rattle.login_model.specs.declared.event.Event.{Event}
use Rattle.login_model.specs.declared.event.Event.TheVariants as event
use Rattle.login_model.specs.declared.event.Request.{Request}
use Rattle.login_model.specs.declared.mark.Entry.{Entry}
use Rattle.login_model.specs.declared.setup.Setup.{Setup}
use Rattle.login_office.specs.Links.{replies}
use Rattle.login_office.specs.declared.end.LinkEnd.{LinkEnd}
use Rattle.login_office.specs.declared.end.LinkEnd.TheVariants as end
use Rattle.recording.specs.declared.line.Line.{Line}
use Rattle.replay.specs.Links.{heard, is_hung_up, is_let_in, link_end, link_line_events, link_user, shown_or, was_let_in}
use Rattle.replay.specs.Played.{Played, played_lines, journal_of}
use Rattle.replay.specs.Recording.{IsNoLink}
use Rattle.replay.specs.declared.own.Own.{Own}
use Rattle.replay.specs.inner.Apart.{AreApart}
use Rattle.replay.specs.inner.Making.{end_then, turns_of}
use Rattle.replay.specs.inner.Player.{AreUsed, own_end, own_replies}
use Rattle.replay.proofs.Connections.{apart-unused}
use Rattle.replay.proofs.LinkLines.{journal-more, lines-append, user-more}
use Rattle.replay.proofs.LinkStanding.{SaysNothing, link-apart, no-entries, or-else-nothing, turns-run, unsaid-heard, unsaid-user}
use Rattle.replay.proofs.EventLines.{ends-by}
use Rattle.replay.proofs.MadeLines.{LineLinks}
use Rattle.wire_out.specs.Mail.{is_connect}

-- ---- whether it was let in

-- the entries of its own events let a link in where it begins and the policy grants it
pub let-in-own : (U : Setup) (J : List Entry) (c : ConnId) (u : Uid) (b : Bool) (es : List Entry) (rs : List Request) (ends : Bool) → IsLegalAfter U J es
    → events_of es ≡ (if b then event.Connect c u ∷ [] else []) ++ (if is_let_in U J c u b then turns_of c rs ends else [])
    → was_let_in c es ≡ b && is_granted (verdict U (trail_of J) (event.Connect c u))
let-in-own U J c u false es rs ends legal e = by (is_connected (trail_of J) c) e
  where
    by : (k : Bool) → events_of es ≡ (if k then turns_of c rs ends else []) → was_let_in c es ≡ false
    by true e = (turns-run c true es rs ends e).let_in
    by false e = ap (was_let_in c) (no-entries es e)
let-in-own U J c u true [] rs ends legal e = absurd (let k : [] ≡ event.Connect c u ∷ (if is_let_in U J c u true then turns_of c rs ends else []) = e in cc)
let-in-own U J c u true (x ∷ es) rs ends legal e =
    let k : x.event ∷ events_of es ≡ event.Connect c u ∷ (if is_let_in U J c u true then turns_of c rs ends else []) = e in
    let head : x.event ≡ event.Connect c u = cc in
    let tail : events_of es ≡ (if is_let_in U J c u true then turns_of c rs ends else []) = cc in
    let v : is_granted x.verdict ≡ is_granted (verdict U (trail_of J) (event.Connect c u)) = ap is_granted (legal.0.verdict_is ∙ ap (verdict U (trail_of J)) head) in
    let same : (c.0 == c.0) ≡ true = eq-eqb c.0 c.0 refl in
    let g = is_granted (verdict U (trail_of J) (event.Connect c u)) in
    ap (λ (y : Event). (is_connect c y && is_granted x.verdict) || was_let_in c es) head
    ∙ ((λ i. (same i && v i) || was_let_in c es) ∙ (ap (λ (b : Bool). g || b) (by g tail) ∙ or-none g))
  where
    or-none : (z : Bool) → z || false ≡ z
    or-none true = refl
    or-none false = refl

    by : (g : Bool) → events_of es ≡ (if g then turns_of c rs ends else []) → was_let_in c es ≡ false
    by true e = (turns-run c true es rs ends e).let_in
    by false e = ap (was_let_in c) (no-entries es e)

-- ---- how it ends

shown-going : (e : Option LinkEnd) (at_end : LinkEnd) → shown_or e at_end false ≡ e
shown-going (Some e) at_end = refl
shown-going None at_end = refl

abbrev pub EndAt : Bool → Bool → Option LinkEnd → LinkEnd → Bool → Option LinkEnd
EndAt begun let_in shown at_end hung = if not begun then shown_or shown at_end hung else if not let_in then Some end.TooMany else shown_or shown end.Closed hung

-- with the bytes of a piece
pub end-heard : (bo bn lo ln g is_in : Bool) (eo en : Option LinkEnd) (at_end : LinkEnd) → (bo ≡ true → bn ≡ true) → (bo ≡ false → lo ≡ false) → ln ≡ lo || ((bn && not bo) && g)
    → (bn && not bo ≡ true → is_in ≡ g) → EndAt bo lo eo at_end false ≡ None → EndAt bn ln en at_end false ≡ end_then (bn && not bo) is_in en
end-heard true false lo ln g is_in eo en at_end m z l i old = absurd (let k : false ≡ true = m refl in cc)
end-heard true true true ln g is_in eo en at_end m z l i old = ap (λ (b : Bool). EndAt true b en at_end false) l ∙ shown-going en end.Closed
end-heard true true false ln g is_in eo en at_end m z l i old = absurd (let k : Some end.TooMany ≡ None = old in cc)
end-heard false true lo ln g is_in eo en at_end m z l i old =
    ap (λ (b : Bool). EndAt true b en at_end false) (l ∙ ap (λ (b : Bool). b || (true && g)) (z refl)) ∙ (by g ∙ sym (ap (λ (b : Bool). end_then true b en) (i refl)))
  where
    by : (g : Bool) → EndAt true (false || (true && g)) en at_end false ≡ end_then true g en
    by true = shown-going en end.Closed
    by false = refl
end-heard false false lo ln g is_in eo en at_end m z l i old = shown-going en at_end

none-shown : (e : Option LinkEnd) (at_end : LinkEnd) → shown_or e at_end false ≡ None → e ≡ None
none-shown e at_end h = sym (shown-going e at_end) ∙ h

-- with its input
pub end-hung : (b l k m : Bool) (e : Option LinkEnd) (at_end : LinkEnd) → (b ≡ true → m ≡ is_some e) → k ≡ b && (l && (not m && not false)) → EndAt b l e at_end false ≡ None
    → EndAt b l e at_end true ≡ Some (if k then end.Closed else at_end)
end-hung false l k m e at_end s is old = ap (λ (x : Option LinkEnd). shown_or x at_end true) (none-shown e at_end old) ∙ sym (ap (λ (x : Bool). Some (if x then end.Closed else at_end)) is)
end-hung true false k m e at_end s is old = absurd (let z : Some end.TooMany ≡ None = old in cc)
end-hung true true k m e at_end s is old =
    let none = none-shown e end.Closed old in
    let mm : m ≡ false = s refl ∙ ap is_some none in
    ap (λ (x : Option LinkEnd). shown_or x end.Closed true) none ∙ sym (ap (λ (x : Bool). Some (if x then end.Closed else at_end)) (is ∙ ap (λ (y : Bool). true && (true && (not y && not false))) mm))

-- ---- other links

module _ (U : Setup) (played : List Played) (l : Line) (b : ConnId) (u : Uid) (made : List Entry) where
  abbrev It : Played
  It = record { line = l; made = made }

  abbrev Others : Type 0
  Others = (c : ConnId) → (b.0 == c.0) ≡ false → SaysNothing l c

  pub apart-others : events_of made ≡ link_line_events U played l b → (c : ConnId) → (b.0 == c.0) ≡ false → AreApart c (events_of made)
  apart-others e c other = subst (AreApart c) (sym e)
      (link-apart U (journal_of played) b c (link_user (played_lines played) b) (heard (played_lines played) b) (heard (played_lines played ++ l ∷ []) b) (is_hung_up (played_lines played ++ l ∷ []) b) other)

  one-user : (v : Uid) (o : Option Uid) → o ≡ Some u → o ≡ Some v → u ≡ v
  one-user v o a c = let z : Some u ≡ Some v = sym a ∙ c in cc

  replies-by : (own : Option Own) (c : ConnId) (v : Uid) (t : Bool) → (b.0 == c.0) ≡ t → Others → ((c : ConnId) → (b.0 == c.0) ≡ false → own_replies own c ≡ [])
      → link_user (played_lines played ++ l ∷ []) b ≡ Some u → link_user (played_lines played ++ l ∷ []) c ≡ Some v
      → replies u U.guid (heard (played_lines played ++ l ∷ []) b) ≡ replies u U.guid (heard (played_lines played) b) ++ own_replies own b
      → replies v U.guid (heard (played_lines played ++ l ∷ []) c) ≡ replies v U.guid (heard (played_lines played) c) ++ own_replies own c
  replies-by own c v true test n none mine some r =
      let same : b ≡ c = same-conn b c test in
      let who : u ≡ v = one-user v (link_user (played_lines played ++ l ∷ []) b) mine (ap (λ (x : ConnId). link_user (played_lines played ++ l ∷ []) x) same ∙ some) in
      subst (λ (x : ConnId). replies v U.guid (heard (played_lines played ++ l ∷ []) x) ≡ replies v U.guid (heard (played_lines played) x) ++ own_replies own x) same
      (subst (λ (w : Uid). replies w U.guid (heard (played_lines played ++ l ∷ []) b) ≡ replies w U.guid (heard (played_lines played) b) ++ own_replies own b) who r)
  replies-by own c v false test n none mine some r =
      ap (replies v U.guid) (unsaid-heard (played_lines played) l c (n c test))
      ∙ (sym (append-nil (replies v U.guid (heard (played_lines played) c))) ∙ ap (λ (t : List ℕ). replies v U.guid (heard (played_lines played) c) ++ t) (sym (none c test)))

  ends-then : (own : Option Own) (c : ConnId) (t : Bool) → (b.0 == c.0) ≡ t → Others → events_of made ≡ link_line_events U played l b → ((c : ConnId) → (b.0 == c.0) ≡ false → own_end own c ≡ None)
      → (link_end U played b ≡ None → link_end U (played ++ It ∷ []) b ≡ own_end own b) → link_end U played c ≡ None → link_end U (played ++ It ∷ []) c ≡ own_end own c
  ends-then own c true test n e none mine old =
      let same : b ≡ c = same-conn b c test in
      subst (λ (x : ConnId). link_end U (played ++ It ∷ []) x ≡ own_end own x) same (mine (ap (λ (x : ConnId). link_end U played x) same ∙ old))
  ends-then own c false test n e none mine old =
      ends-by U played l made c (link_user (played_lines played) c) refl (n c test) (λ v some. apart-others e c test) old ∙ sym (none c test)

  -- what a line of a link brings about
  pub own-links : (own : Option Own) → Others → events_of made ≡ link_line_events U played l b
      → ((c : ConnId) → (b.0 == c.0) ≡ false → own_replies own c ≡ []) → ((c : ConnId) → (b.0 == c.0) ≡ false → own_end own c ≡ None)
      → link_user (played_lines played ++ l ∷ []) b ≡ Some u
      → replies u U.guid (heard (played_lines played ++ l ∷ []) b) ≡ replies u U.guid (heard (played_lines played) b) ++ own_replies own b
      → (link_end U played b ≡ None → link_end U (played ++ It ∷ []) b ≡ own_end own b) → LineLinks U played It own
  own-links own n e quiet still mine r ends = record {
    replies = λ c v some. replies-by own c v (b.0 == c.0) refl n quiet mine some r;
    ends = λ c old. ends-then own c (b.0 == c.0) refl n e still ends old;
  }

  unused-front : (c : ConnId) (xs ys : List Entry) → IsUnused c (xs ++ ys) → IsUnused c xs
  unused-front c [] ys h = tt
  unused-front c (x ∷ xs) ys h = (h.0, unused-front c xs ys h.1)

  -- no number is used that was not
  pub used-still : (used : BTreeSet ℕ) → Others → events_of made ≡ link_line_events U played l b → link_user (played_lines played) b ≡ Some u → AreUsed used played → AreUsed used (played ++ It ∷ [])
  used-still used n e mine h = λ c.
      let J = journal_of played in
      let lines = played_lines played in
      let j = sym (journal-more played It) in
      let a = sym (lines-append played (It ∷ [])) in (
        λ f.
            let old = (h c).0 f in
            let other : (b.0 == c.0) ≡ false = is-other c (b.0 == c.0) refl mine old.1 in
            (subst (IsUnused c) j (apart-unused c J made old.0 (apart-others e c other)), subst (λ (x : List Line). IsNoLink x c) a (unsaid-user lines l c (n c other) ∙ old.1)),
        λ p. (h c).1 (unused-front c J made (subst (IsUnused c) (sym j) p.0), or-else-nothing (link_user lines c) (link_user (l ∷ []) c) (sym (user-more lines l c) ∙ subst (λ (x : List Line). IsNoLink x c) (sym a) p.1)),
      )
    where
      is-other : (c : ConnId) (t : Bool) → (b.0 == c.0) ≡ t → link_user (played_lines played) b ≡ Some u → IsNoLink (played_lines played) c → t ≡ false
      is-other c false test mine none = refl
      is-other c true test mine none =
          let same : b ≡ c = same-conn b c test in
          let z : Some u ≡ None = sym mine ∙ (ap (λ (x : ConnId). link_user (played_lines played) x) same ∙ none) in absurd cc
