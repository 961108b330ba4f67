-- How what is said on a link grows with a line.
use Rattle.std.proofs.Common.{◌≡◌, ℕ, ◌==◌, Bool, true, false, if◌then◌else◌, Option, Some, None, List, [], ◌∷◌, ◌++◌, drop, length, refl, ap, sym, ◌∙◌, subst, append_assoc, append-nil, ◌⊎◌, inl, inr}
use Rattle.std.proofs.lemmas.List.{append_cancel_left}
use Rattle.std.proofs.Math.Seq.{drop-append_seam}
use Rattle.bus_auth.proofs.GreetingLaws.{greet-append}
use Rattle.bus_auth.specs.Greeting.{Greeting, State, WaitingForNul, Talking, Begun, Ended, greet}
use Rattle.bus_auth.specs.inner.Greeting.{resume}
use Rattle.login_base.specs.declared.ids.ConnId.{ConnId}
use Rattle.login_base.specs.declared.ids.Uid.{Uid}
use Rattle.login_model.proofs.FactLaws.{same-conn}
use Rattle.login_model.specs.Legal.{IsLegal, IsLegalAfter, IsUnused}
use Rattle.login_model.specs.declared.mark.Entry.{Entry}
use Rattle.login_model.specs.declared.setup.Setup.{Setup}
use Rattle.login_office.specs.Links.{has_begun, is_begun, replies}
use Rattle.recording.specs.declared.line.Line.{Line}
use Rattle.recording.specs.declared.line.Line.TheVariants as line
use Rattle.replay.specs.Links.{heard, link_user, said, said_to}
use Rattle.replay.specs.Played.{Played, played_lines, journal_of}
use Rattle.replay.specs.Recording.{AreTurns, IsTurn, MayCome}
use Rattle.replay.specs.Transcript.{due}
use Rattle.replay.proofs.LinkLines.{brought, heard-more, journal-more, lines-append, or_else, user-more}
use Rattle.replay.proofs.LinkStanding.{LineStanding, link-standing}
use Rattle.replay.proofs.OpenMail.{no-mail-unused}
use Rattle.wire_out.proofs.Growing.{wire_grows}
use Rattle.wire_out.specs.Mail.{bytes_of, mail, wire}
use Rattle.replay.proofs.Journals.{legal_front, legal_behind}

-- replies behind replies, and mail behind mail, where one of them is nothing
woven : (A R V W : List ℕ) → (R ≡ []) ⊎ (V ≡ []) → (A ++ R) ++ (V ++ W) ≡ (A ++ V) ++ (R ++ W)
woven A R V W (inl e) =
    ap (λ (r : List ℕ). (A ++ r) ++ (V ++ W)) e ∙ (ap (λ (t : List ℕ). t ++ (V ++ W)) (append-nil A)
    ∙ (sym (append_assoc A V W) ∙ ap (λ (r : List ℕ). (A ++ V) ++ (r ++ W)) (sym e)))
woven A R V W (inr e) =
    ap (λ (v : List ℕ). (A ++ R) ++ (v ++ W)) e ∙ (append_assoc A R W
    ∙ (ap (λ (t : List ℕ). t ++ (R ++ W)) (sym (append-nil A)) ∙ ap (λ (v : List ℕ). (A ++ v) ++ (R ++ W)) (sym e)))

-- behind the begin nothing more is replied
begun-replies : (u : Uid) (guid text more R : List ℕ) → is_begun u guid text ≡ true → replies u guid (text ++ more) ≡ replies u guid text ++ R → R ≡ []
begun-replies u guid text more R b h = by (greet u guid text).state refl b
  where
    by : (s : State) → (greet u guid text).state ≡ s → has_begun s ≡ true → R ≡ []
    by WaitingForNul is e = absurd (let z : false ≡ true = e in cc)
    by (Talking talk l) is e = absurd (let z : false ≡ true = e in cc)
    by (Ended ending) is e = absurd (let z : false ≡ true = e in cc)
    by (Begun rest) is e =
        let none : replies u guid (text ++ more) ≡ replies u guid text ++ [] =
        ap (λ (g : Greeting). g.replies) (greet-append u guid text more) ∙ ap (λ (s : State). replies u guid text ++ (resume u guid s more).replies) is in
        append_cancel_left (replies u guid text) R [] (sym h ∙ none)

-- a number that a line opens as a link's was unused
opens-unused : (before : List Played) (l : Line) (c : ConnId) (u : Uid) → MayCome before l → link_user (l ∷ []) c ≡ Some u → IsUnused c (journal_of before)
opens-unused before (line.Link b v) c u m e = by (b.0 == c.0) refl e
  where
    by : (t : Bool) → (b.0 == c.0) ≡ t → (if t then Some v else None) ≡ Some u → IsUnused c (journal_of before)
    by true same h = subst (λ (x : ConnId). IsUnused x (journal_of before)) (same-conn b c same) m.0
    by false same h = absurd (let z : None ≡ Some u = h in cc)
opens-unused before _ c u m e = absurd (let z : None ≡ Some u = e in cc)

-- ---- behind a line

module _ (U : Setup) (before : List Played) (p : Played) (turns : AreTurns U before) (turn : IsTurn U before p) (legal : IsLegal U (journal_of (before ++ p ∷ []))) where
  abbrev pub J : List Entry
  J = journal_of before

  abbrev pub Then : List Entry
  Then = journal_of (before ++ p ∷ [])

  abbrev pub lines : List Line
  lines = played_lines before

  abbrev pub now : List Line
  now = played_lines (before ++ p ∷ [])

  pub grown : Then ≡ J ++ p.made
  grown = journal-more before p

  legal-all : IsLegal U (J ++ p.made)
  legal-all = subst (λ (j : List Entry). IsLegal U j) grown legal

  pub legal-before : IsLegal U J
  legal-before = legal_front U [] J p.made legal-all

  pub legal-made : IsLegalAfter U J p.made
  legal-made = legal_behind U [] J p.made legal-all

  pub standing : LineStanding U lines J
  standing = link-standing U before turns legal-before

  more-lines : now ≡ lines ++ p.line ∷ []
  more-lines = lines-append before (p ∷ [])

  pub user-now : (c : ConnId) → link_user now c ≡ or_else (link_user lines c) (link_user (p.line ∷ []) c)
  user-now c = ap (λ (ls : List Line). link_user ls c) more-lines ∙ user-more lines p.line c

  heard-now : (c : ConnId) → heard now c ≡ heard lines c ++ brought lines p.line c
  heard-now c = ap (λ (ls : List Line). heard ls c) more-lines ∙ heard-more lines p.line c

  -- a link was one before, or the line opens it under an unused number
  pub link-was : (c : ConnId) (u : Uid) → link_user now c ≡ Some u → (link_user lines c ≡ Some u) ⊎ ((link_user lines c ≡ None) × IsUnused c J)
  link-was c u is = by (link_user lines c) refl (sym (user-now c) ∙ is)
    where
      by : (x : Option Uid) → link_user lines c ≡ x → or_else x (link_user (p.line ∷ []) c) ≡ Some u → (link_user lines c ≡ Some u) ⊎ ((link_user lines c ≡ None) × IsUnused c J)
      by (Some v) e h = inl (e ∙ h)
      by None e h = inr (e, opens-unused before p.line c u turn.may_come h)

  -- a link that has mail has begun, and then it has no more replies
  no-mail-or-replies : (c : ConnId) (u : Uid) → link_user now c ≡ Some u → (R : List ℕ) → replies u U.guid (heard now c) ≡ replies u U.guid (heard lines c) ++ R → (R ≡ []) ⊎ (mail c J ≡ [])
  no-mail-or-replies c u is R more = by (link-was c u is)
    where
      by : (link_user lines c ≡ Some u) ⊎ ((link_user lines c ≡ None) × IsUnused c J) → (R ≡ []) ⊎ (mail c J ≡ [])
      by (inr h) = inr (no-mail-unused c J h.1)
      by (inl h) = begun (is_begun u U.guid (heard lines c)) refl
        where
          begun : (t : Bool) → is_begun u U.guid (heard lines c) ≡ t → (R ≡ []) ⊎ (mail c J ≡ [])
          begun true e =
              inl (begun-replies u U.guid (heard lines c) (brought lines p.line c) R e
              (ap (λ (t : List ℕ). replies u U.guid t) (sym (heard-now c)) ∙ more))
          begun false e = inr (no-mail-unused c J ((standing.links c u h).unused e))

  said-before : (c : ConnId) (u : Uid) → link_user now c ≡ Some u → said U before c ≡ replies u U.guid (heard lines c) ++ wire c J
  unfolding said greet
  said-before c u is = by (link-was c u is)
    where
      by : (link_user lines c ≡ Some u) ⊎ ((link_user lines c ≡ None) × IsUnused c J) → said_to U J c (link_user lines c) (heard lines c) ≡ replies u U.guid (heard lines c) ++ wire c J
      by (inl h) = ap (λ (x : Option Uid). said_to U J c x (heard lines c)) h
      by (inr h) =
          ap (λ (x : Option Uid). said_to U J c x (heard lines c)) h.0
          ∙ sym (ap (λ (t : List ℕ). replies u U.guid t ++ wire c J) (standing.others c h.0).0 ∙ ap bytes_of (no-mail-unused c J h.1))

  said-now : (c : ConnId) (u : Uid) → link_user now c ≡ Some u → said U (before ++ p ∷ []) c ≡ replies u U.guid (heard now c) ++ wire c Then
  unfolding said
  said-now c u is = ap (λ (x : Option Uid). said_to U Then c x (heard now c)) is

  -- the bytes of the mail that the line brings
  abbrev pub new_bytes : ConnId → List ℕ
  new_bytes c = bytes_of (drop (length (mail c J)) (mail c Then))

  wire-now : (c : ConnId) → wire c Then ≡ wire c J ++ new_bytes c
  wire-now c = subst (λ (j : List Entry). wire c j ≡ wire c J ++ bytes_of (drop (length (mail c J)) (mail c j))) (sym grown) (wire_grows c J p.made)

  wire-or-replies : (c : ConnId) (u : Uid) → link_user now c ≡ Some u → (R : List ℕ) → replies u U.guid (heard now c) ≡ replies u U.guid (heard lines c) ++ R → (R ≡ []) ⊎ (wire c J ≡ [])
  wire-or-replies c u is R more = by (no-mail-or-replies c u is R more)
    where
      by : (R ≡ []) ⊎ (mail c J ≡ []) → (R ≡ []) ⊎ (wire c J ≡ [])
      by (inl h) = inl h
      by (inr h) = inr (ap bytes_of h)

  unsaid-now : (c : ConnId) → link_user now c ≡ None → said U (before ++ p ∷ []) c ≡ []
  unfolding said
  unsaid-now c is = ap (λ (x : Option Uid). said_to U Then c x (heard now c)) is

  unsaid-before : (c : ConnId) → link_user lines c ≡ None → said U before c ≡ []
  unfolding said
  unsaid-before c is = ap (λ (x : Option Uid). said_to U J c x (heard lines c)) is

  first-none : (x y : Option Uid) → or_else x y ≡ None → x ≡ None
  first-none (Some v) y e = absurd (let z : Some v ≡ None = e in cc)
  first-none None y e = refl

  -- so said on a link was what was said on it before, and then these further replies, and the mail that the line brings
  pub said-grows : (c : ConnId) (u : Uid) → link_user now c ≡ Some u → (R : List ℕ) → replies u U.guid (heard now c) ≡ replies u U.guid (heard lines c) ++ R
      → said U (before ++ p ∷ []) c ≡ said U before c ++ (R ++ new_bytes c)
  said-grows c u is R more =
      let W = new_bytes c in
      let A = replies u U.guid (heard lines c) in
      said-now c u is ∙ (ap (λ (t : List ℕ). t ++ wire c Then) more ∙ (ap (λ (t : List ℕ). (A ++ R) ++ t) (wire-now c)
      ∙ (woven A R (wire c J) W (wire-or-replies c u is R more) ∙ ap (λ (t : List ℕ). t ++ (R ++ W)) (sym (said-before c u is)))))

  pub due-is : (c : ConnId) (u : Uid) → link_user now c ≡ Some u → (R : List ℕ) → replies u U.guid (heard now c) ≡ replies u U.guid (heard lines c) ++ R
      → due U before p c ≡ R ++ new_bytes c
  due-is c u is R more =
      ap (λ (t : List ℕ). drop (length (said U before c)) t) (said-grows c u is R more) ∙ drop-append_seam (said U before c) (R ++ new_bytes c)

  -- what was said stays said
  pub said-more : (c : ConnId) → said U (before ++ p ∷ []) c ≡ said U before c ++ due U before p c
  said-more c = by (link_user now c) refl
    where
      by : (x : Option Uid) → link_user now c ≡ x → said U (before ++ p ∷ []) c ≡ said U before c ++ due U before p c
      by (Some u) is =
          let text = heard lines c in
          let more = brought lines p.line c in
          let R = (resume u U.guid (greet u U.guid text).state more).replies in
          let grows : replies u U.guid (heard now c) ≡ replies u U.guid text ++ R =
          ap (λ (t : List ℕ). replies u U.guid t) (heard-now c) ∙ ap (λ (g : Greeting). g.replies) (greet-append u U.guid text more) in
          said-grows c u is R grows ∙ ap (λ (t : List ℕ). said U before c ++ t) (sym (due-is c u is R grows))
      by None is =
          let none : said U (before ++ p ∷ []) c ≡ [] = unsaid-now c is in
          let was : said U before c ≡ [] = unsaid-before c (first-none (link_user lines c) (link_user (p.line ∷ []) c) (sym (user-now c) ∙ is)) in
          none ∙ sym ((λ i. was i ++ drop (length (was i)) (none i)))
