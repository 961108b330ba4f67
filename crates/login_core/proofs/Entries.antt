-- The journal after an entry is closed.
use Rattle.std.proofs.Common.{◌≡◌, ℕ, ◌+◌, ◌-◌, Bool, true, false, cond, Option, Some, None, List, [], ◌∷◌, ◌++◌, length, get_or, slice_get, refl, ap, sym, ◌∙◌, subst, arith, length-append, append_assoc, append-nil}
use Rattle.std.proofs.Math.Seq.{get_or-append_seam}
use Rattle.std.proofs.lemmas.Option.{get_or_from_slice_get}
use Rattle.login_model.specs.declared.setup.Setup.{Setup}
use Rattle.login_model.specs.declared.event.Event.{Event}
use Rattle.login_model.specs.declared.rule.Verdict.{Verdict}
use Rattle.login_model.specs.declared.answer.Answer.{Answer}
use Rattle.login_model.specs.declared.mark.Mark.{Mark}
use Rattle.login_model.specs.declared.mark.Entry.{Entry}
use Rattle.login_model.specs.Full.{mark_count}
use Rattle.login_model.specs.Trail.{Trail, after}
use Rattle.login_model.specs.Policy.{verdict}
use Rattle.login_model.specs.Legal.{after_all, trail_of, IsPlaced, IsLegal, IsLegalAfter, IsLegalEntry, stepped, answered}
use Rattle.login_model.specs.Stopping.{is_stop, stop_from}
use Rattle.login_laws.proofs.JournalLaws.{length-after}
use Rattle.login_core.specs.declared.board.Board.{Board}
use Rattle.login_core.specs.inner.Board.{IsBegun}
use Rattle.login_core.specs.inner.Draft.{DraftState, marked_by, with_ears}
use Rattle.login_core.specs.inner.UnderWay.{so_far, entry_of}
use Rattle.login_core.specs.inner.State.{stop_next}
use Rattle.login_core.proofs.UnderWay.{so_far-none, so_far-closed}

-- one more legal entry
legal-more : (U : Setup) (before es : List Entry) (e : Entry) → IsLegalAfter U before es → IsLegalEntry U (before ++ es) e → IsLegalAfter U before (es ++ e ∷ [])
legal-more U before [] e h l = let P : List Entry → Type 0 = λ xs. IsLegalEntry U xs e in (subst P (append-nil before) l, tt)
legal-more U before (d ∷ ds) e h l =
    let P : List Entry → Type 0 = λ xs. IsLegalEntry U xs e in
    (h.0, legal-more U (before ++ d ∷ []) ds e h.1 (subst P (sym (append_assoc before (d ∷ []) ds)) l))

pub so_far-is : (es : List Entry) (ms : List Mark) → so_far es ms ≡ after (trail_of es) ms
unfolding so_far
so_far-is es ms = refl

-- what a step knows of the entry that it closes
pub record Steps (U : Setup) (journal : List Entry) (e : Event) (v : Verdict) (a : Answer) (ms : List Mark) : Type 0 where
  pub placed : IsPlaced journal e
  pub verdict_is : v ≡ verdict U (trail_of journal) e
  pub answer_is : a ≡ answered U v e journal
  pub marks_are : so_far journal ms ≡ stepped U v e (trail_of journal)

pub legal-entry : (U : Setup) (journal : List Entry) (e : Event) (v : Verdict) (a : Answer) (ms : List Mark) → Steps U journal e v a ms → IsLegalEntry U journal (entry_of e v a ms)
legal-entry U journal e v a ms s = record {
  placed = s.placed;
  verdict_is = s.verdict_is;
  answer_is = s.answer_is;
  marks_are = sym (so_far-is journal ms) ∙ s.marks_are;
}

pub legal-closed : (U : Setup) (journal : List Entry) (e : Event) (v : Verdict) (a : Answer) (ms : List Mark) → IsLegal U journal → Steps U journal e v a ms → IsLegal U (journal ++ entry_of e v a ms ∷ [])
legal-closed U journal e v a ms h s = legal-more U [] journal (entry_of e v a ms) h (legal-entry U journal e v a ms s)

pub trail-closed : (U : Setup) (journal : List Entry) (e : Event) (v : Verdict) (a : Answer) (ms : List Mark) → Steps U journal e v a ms → trail_of (journal ++ entry_of e v a ms ∷ []) ≡ stepped U v e (trail_of journal)
trail-closed U journal e v a ms s = sym (so_far-none (journal ++ entry_of e v a ms ∷ [])) ∙ so_far-closed journal (entry_of e v a ms) ∙ s.marks_are

-- the draft goes on behind the journal after any marks, whoever listens
pub begun-marked : (f : Trail → Trail) (m : Board) (d : DraftState) → d ≡ with_ears d.ears d.rings (marked_by f m.draft) → IsBegun m → IsBegun (record m { draft = d })
begun-marked f m d e b = record { before = ap (λ (x : DraftState). x.before) e ∙ b.before; idle_empty = b.idle_empty }

pub length-closed : (journal : List Entry) (e : Entry) → length (journal ++ e ∷ []) ≡ length journal + 1
length-closed journal e = length-append journal (e ∷ [])

-- the last entry is the one that was put at the end
pub last-is : (es xs : List Entry) (e x : Entry) (n : ℕ) → xs ≡ es ++ e ∷ [] → n ≡ length xs → slice_get xs (n - 1) ≡ Some x → x ≡ e
last-is es xs e x n j k h =
    let len : length xs ≡ length es + 1 = ap length j ∙ length-closed es e in
    let i : n - 1 ≡ length es = omega arith in
    sym (get_or_from_slice_get xs (n - 1) x e h)
    ∙ ap (λ (m : ℕ). get_or xs m e) i
    ∙ ap (λ (ys : List Entry). get_or ys (length es) e) j
    ∙ get_or-append_seam es e [] e

-- ---- marks are those of the entries

marks-from : (t : Trail) (es : List Entry) → length (after_all t es) ≡ length t + mark_count es
marks-from t [] = omega arith
marks-from t (e ∷ es) = let i = marks-from (after t e.marks) es in let n = length-after t e.marks in omega arith

pub marks-counted : (es : List Entry) → mark_count es ≡ length (trail_of es)
marks-counted es = let n = marks-from [] es in omega arith

-- ---- the stop

stop-at : (b : Bool) (n k : ℕ) → n ≡ k → cond b (Some n) None ≡ cond b (Some k) None
stop-at b n k e = ap (λ (m : ℕ). cond b (Some m) None) e

stop-more : (n : ℕ) (es : List Entry) (e : Entry) (o : Option ℕ) → stop_from n es ≡ o → stop_from n (es ++ e ∷ []) ≡ stop_next o e.event (n + length es)
stop-more n [] e None h = stop-at (is_stop e.event) n (n + 0) (omega arith)
stop-more n [] e (Some k) h = absurd (let z : None ≡ Some k = h in cc)
stop-more n (d ∷ ds) e o h = by (stop-more (n + 1) ds e o) (is_stop d.event) refl h
  where
    by : (stop_from (n + 1) ds ≡ o → stop_from (n + 1) (ds ++ e ∷ []) ≡ stop_next o e.event (n + 1 + length ds)) → (b : Bool) → is_stop d.event ≡ b → cond b (Some n) (stop_from (n + 1) ds) ≡ o → cond (is_stop d.event) (Some n) (stop_from (n + 1) (ds ++ e ∷ [])) ≡ stop_next o e.event (n + length (d ∷ ds))
    by rest true i k =
        ap (λ (b : Bool). cond b (Some n) (stop_from (n + 1) (ds ++ e ∷ []))) i ∙ ap (λ (p : Option ℕ). stop_next p e.event (n + length (d ∷ ds))) k
    by rest false i k =
        let m : n + 1 + length ds ≡ n + length (d ∷ ds) = omega arith in
        ap (λ (b : Bool). cond b (Some n) (stop_from (n + 1) (ds ++ e ∷ []))) i ∙ rest k ∙ ap (stop_next o e.event) m

pub stop-closed : (es : List Entry) (e : Entry) → stop_from 1 (es ++ e ∷ []) ≡ stop_next (stop_from 1 es) e.event (length es + 1)
stop-closed es e = let m : 1 + length es ≡ length es + 1 = omega arith in stop-more 1 es e (stop_from 1 es) refl ∙ ap (stop_next (stop_from 1 es) e.event) m
