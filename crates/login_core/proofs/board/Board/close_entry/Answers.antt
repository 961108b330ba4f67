use Rattle.std.proofs.Common.{◌∙◌, sym, ap, arith}
use Rattle.login_model.specs.Trail.{Trail}
use Rattle.login_model.specs.Legal.{trail_of}
use Rattle.login_core.specs.inner.Draft.{DraftState, all_keys}
use Rattle.login_core.specs.inner.UnderWay.{so_far, entry_of}
use Rattle.login_core.proofs.UnderWay.{so_far-none}
use Rattle.login_core.proofs.Drafting.{ClosesBehind, closed-trail, draft-closed, so_far-same}
use Rattle.login_core.proofs.board.Board.close_entry.Goals as goal

pub invariant_of-draft : goal.invariant_of-draft
invariant_of-draft c =
    let m = c.args.self.now in
    let f = c.draft.inside in
    let before = f.journal.value.items in
    let new = c.of.result.value.items in
    let e = entry_of c.args.event c.args.verdict c.args.answer c.replace-marks.result.items in
    let b : ClosesBehind before m.journal.items new e f.marks c.replace-marks.new.dest = record {
      behind = ap (λ (d : DraftState). d.before) c.draft.view_is ∙ c.requires.begun.before;
      entry = ap (λ j. j.items) c.of.ensures ∙ c.journal.ensures ∙ c.close.ensures.items;
      marks_are = ap (λ r. r.items) c.replace-marks.ensures.value;
      blank_is = ap (λ r. r.items) (c.replace-marks.ensures.after ∙ c.take.ensures.taken) ∙ c.requires.begun.idle_empty;
    } in
    draft-closed before m.journal.items new e f.marks c.replace-marks.new.dest f.facts f.made f.reach c.draft.invariant b

pub returns-clause-closes : goal.returns-clause-closes
returns-clause-closes c =
    let m = c.args.self.now in
    let f = c.draft.inside in
    let behind = ap (λ (d : DraftState). d.before) c.draft.view_is ∙ c.requires.begun.before in
    record {
      marks = c.replace-marks.result.items;
      made = ap (so_far m.journal.items) (ap (λ r. r.items) c.replace-marks.ensures.value)
          ∙ sym (so_far-same f.journal.value.items m.journal.items f.marks.items behind) ∙ ap (λ (d : DraftState). d.trail) c.draft.view_is;
      entry = c.close.ensures.items;
    }

pub returns-clause-no_marks : goal.returns-clause-no_marks
returns-clause-no_marks c =
    let new = c.of.result.value.items in
    let none = ap (λ r. r.items) (c.replace-marks.ensures.after ∙ c.take.ensures.taken) ∙ c.requires.begun.idle_empty in
    ap (so_far new) none ∙ so_far-none new ∙ ap trail_of (ap (λ j. j.items) c.of.ensures ∙ c.journal.ensures)

pub returns-clause-within : goal.returns-clause-within
returns-clause-within c =
    let m = c.args.self.now in
    let f = c.draft.inside in
    let before = f.journal.value.items in
    let new = c.of.result.value.items in
    let e = entry_of c.args.event c.args.verdict c.args.answer c.replace-marks.result.items in
    let b : ClosesBehind before m.journal.items new e f.marks c.replace-marks.new.dest = record {
      behind = ap (λ (d : DraftState). d.before) c.draft.view_is ∙ c.requires.begun.before;
      entry = ap (λ j. j.items) c.of.ensures ∙ c.journal.ensures ∙ c.close.ensures.items;
      marks_are = ap (λ r. r.items) c.replace-marks.ensures.value;
      blank_is = ap (λ r. r.items) (c.replace-marks.ensures.after ∙ c.take.ensures.taken) ∙ c.requires.begun.idle_empty;
    } in
    let made = (draft-closed before m.journal.items new e f.marks c.replace-marks.new.dest f.facts f.made f.reach c.draft.invariant b).counted in
    omega arith

pub returns-clause-keys : goal.returns-clause-keys
returns-clause-keys c =
    let m = c.args.self.now in
    let f = c.draft.inside in
    let before = f.journal.value.items in
    let new = c.of.result.value.items in
    let e = entry_of c.args.event c.args.verdict c.args.answer c.replace-marks.result.items in
    let b : ClosesBehind before m.journal.items new e f.marks c.replace-marks.new.dest = record {
      behind = ap (λ (d : DraftState). d.before) c.draft.view_is ∙ c.requires.begun.before;
      entry = ap (λ j. j.items) c.of.ensures ∙ c.journal.ensures ∙ c.close.ensures.items;
      marks_are = ap (λ r. r.items) c.replace-marks.ensures.value;
      blank_is = ap (λ r. r.items) (c.replace-marks.ensures.after ∙ c.take.ensures.taken) ∙ c.requires.begun.idle_empty;
    } in
    ap (λ (t : Trail). all_keys t f.facts.fresh) (closed-trail before m.journal.items new e f.marks c.replace-marks.new.dest b) ∙ ap (λ (d : DraftState). d.keys) c.draft.view_is

pub returns-clause-begun : goal.returns-clause-begun
returns-clause-begun c = record {
  before = ap trail_of (ap (λ j. j.items) c.of.ensures ∙ c.journal.ensures);
  idle_empty = ap (λ r. r.items) c.take.ensures.left;
}
