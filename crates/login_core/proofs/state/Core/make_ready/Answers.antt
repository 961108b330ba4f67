use Rattle.std.proofs.Common.{rules, ℕ, ◌≡◌, ◌<◌, ◌≤◌, ◌+◌, ◌∙◌, true, List, ap, sym, subst, refl, length, arith}
use Rattle.login_base.specs.declared.ids.ConnId.{ConnId}
use Rattle.std.proofs.Math.Nat.{min-le_left}
use Rattle.login_model.specs.Full.{connected_after, full, mark_count, marks_needed, taken_count}
use Rattle.login_model.specs.Legal.{IsLegal, answered, trail_of}
use Rattle.login_model.specs.Policy.{verdict}
use Rattle.login_laws.specs.Amounts.{Part, keys_in}
use Rattle.login_laws.specs.Few.{most_taken}
use Rattle.login_laws.specs.Keys.{most_keys, switch_keys}
use Rattle.login_laws.specs.Need.{most_marks}
use Rattle.login_model.specs.Trail.{Trail}
use Rattle.login_model.specs.declared.event.Event.{Event}
use Rattle.login_model.specs.declared.rule.Verdict.{Verdict}
use Rattle.login_model.specs.declared.rule.Verdict.TheVariants.{Granted, Denied}
use Rattle.login_model.specs.declared.mark.Entry.{Entry}
use Rattle.login_laws.specs.Shares.{most_share_rise, share}
use Rattle.login_laws.specs.Sound.{IsSound}
use Rattle.login_laws.proofs.RoomLaws.{most-less, room}
use Rattle.login_laws.proofs.SoundLaws.{sound-journal}
use Rattle.login_facts.specs.declared.key_room.KeyRoom.{KeyRoom}
use Rattle.login_facts.specs.Counts.{AreCounted, HoldersAreThere}
use Rattle.login_core.specs.inner.Draft.{DraftState}
use Rattle.login_core.specs.State.{CoreState, NextIsWide, keys_with, marks_with, may_raise}
use Rattle.login_facts.specs.KeyRooms.{keys_of}
use Rattle.login_core.specs.inner.Inside.{HaveEnds}
use Rattle.login_core.specs.inner.Ledger.{end_room, next_room}
use Rattle.login_core.proofs.EndRooms.{AreWide, all-wide, reserved-have}
use Rattle.login_facts.proofs.CountedLaws.{legal-holders}
use Rattle.login_core.proofs.Entries.{marks-counted}
use Rattle.login_core.proofs.Keeping.{small}
use Rattle.login_facts.proofs.PairLaws.{pairs-taken}
use Rattle.login_core.proofs.state.Core.make_ready.Goals as goal

pub overflow_cast-reach : goal.overflow_cast-reach
overflow_cast-reach c =
    let s = small c.args.self.now.setup c.args.self.now.journal c.args.event.now c.requires.other c.requires.small in
    let marks = s.marks in
    let e = c.reach_for-reach.ensures in
    omega arith

pub reserve-requires-clause-numbered : goal.reserve-requires-clause-numbered
reserve-requires-clause-numbered c =
    let s = small c.args.self.now.setup c.args.self.now.journal c.args.event.now c.requires.other c.requires.small in
    let marks = s.marks in
    let e = c.reach_for-reach.ensures in
    omega arith

pub reserve-requires-clause-no_marks : goal.reserve-requires-clause-no_marks
reserve-requires-clause-no_marks c = c.self.invariant.no_marks ∙ sym c.self.invariant.begun.before

pub overflow_cast-next : goal.overflow_cast-next
overflow_cast-next c =
    let U = c.self.inside.setup in
    let m = c.self.inside.board in
    let now = c.args.self.now in
    let es = m.journal.items in
    let t = trail_of es in
    let s = small now.setup now.journal c.args.event.now c.requires.other c.requires.small in
    let marks = s.marks in
    let journal = ap (λ (q : CoreState). marks_needed (trail_of q.journal) (mark_count q.journal)) c.self.view_is in
    let bound = room t (mark_count es) in
    let less = most-less (most_taken t) t c.args.event.now (min-le_left (taken_count t) 128) in
    let H : Trail → Type 0 = HoldersAreThere in
    let most = c.entry_marks-next.ensures.most (subst H (sym c.self.invariant.no_marks) (legal-holders U es c.self.invariant.legal)) in
    let same = ap (λ (u : Trail). most_marks (most_taken u) u c.args.event.now) c.self.invariant.no_marks in
    omega arith

pub reserve-requires-clause-within : goal.reserve-requires-clause-within
reserve-requires-clause-within c =
    let U = c.self.inside.setup in
    let m = c.self.inside.board in
    let es = m.journal.items in
    let t = trail_of es in
    let reach = c.reach_for-reach.ensures in
    let journal = ap (λ (q : CoreState). marks_needed (trail_of q.journal) (mark_count q.journal)) c.self.view_is in
    let bound = room t (mark_count es) in
    let less = most-less (most_taken t) t c.args.event.now (min-le_left (taken_count t) 128) in
    let counted = marks-counted es in
    let H : Trail → Type 0 = HoldersAreThere in
    let most = c.entry_marks-next.ensures.most (subst H (sym c.self.invariant.no_marks) (legal-holders U es c.self.invariant.legal)) in
    let same = ap (λ (u : Trail). most_marks (most_taken u) u c.args.event.now) c.self.invariant.no_marks in
    let length_is = ap length c.self.invariant.no_marks in
    omega arith

pub make_ends-requires-clause-no_marks : goal.make_ends-requires-clause-no_marks
make_ends-requires-clause-no_marks c = c.reserve.ensures.trail ∙ c.self.invariant.no_marks ∙ ap trail_of (sym c.reserve.ensures.items)

pub make_ends-requires-clause-sound : goal.make_ends-requires-clause-sound
make_ends-requires-clause-sound c =
    let U = c.self.inside.setup in
    let m = c.self.inside.board in
    let P : Trail → Type 0 = IsSound U in
    record { setup = U; sound = subst P (sym (c.reserve.ensures.trail ∙ c.self.invariant.no_marks)) (sound-journal U m.journal.items c.self.invariant.legal) }

at-most : (k m n : ℕ) → k ≤ m → m ≤ n → k ≤ n
at-most k m n h l = omega arith

-- the room for keys is enough for the switch that is pending, whatever room came to it
keys-kept : (p : Part) (es fs : List Entry) (had got has : KeyRoom) → keys_in p (trail_of es) + switch_keys p (trail_of es) ≤ keys_of p had → fs ≡ es
    → keys_of p had ≤ keys_of p got → has ≡ got → keys_in p (trail_of fs) + switch_keys p (trail_of fs) ≤ keys_of p has
keys-kept p es fs had got has h items more same =
    let P : List Entry → Type 0 = λ js. keys_in p (trail_of js) + switch_keys p (trail_of js) ≤ keys_of p got in
    let Q : KeyRoom → Type 0 = λ r. keys_in p (trail_of fs) + switch_keys p (trail_of fs) ≤ keys_of p r in
    subst Q (sym same) (subst P (sym items) (at-most _ _ _ h more))

-- room for what was asked for is room for what an event with this verdict makes
marks-enough : (v : Verdict) (t : Trail) (e : Event) (next reach : ℕ) → (v ≡ Granted → next ≡ most_marks (most_taken t) t e) → length t + next ≤ reach → length t + marks_with v t e ≤ reach
marks-enough Granted t e next reach asked room = let most = asked refl in omega arith
marks-enough (Denied broken) t e next reach asked room = omega arith

keys-enough : (p : Part) (v : Verdict) (t : Trail) (e : Event) (next has : ℕ) → (v ≡ Granted → next ≡ most_keys p t e) → keys_in p t + next ≤ has → keys_in p t + switch_keys p t ≤ has
    → keys_in p t + keys_with v p t e ≤ has
keys-enough p Granted t e next has asked room kept = let most = asked refl in omega arith
keys-enough p (Denied broken) t e next has asked room kept = kept

pub returns-clause-ready : goal.returns-clause-ready
returns-clause-ready c =
    let U = c.self.inside.setup in
    let m = c.self.inside.board in
    let r = c.reserve.new.self in
    let n = c.make_ends.new.self in
    let now = c.args.self.now in
    let e = c.args.event.now in
    let es = n.journal.items in
    let t = trail_of es in
    let w = c.make_ends.ensures.same in
    let items = w.items ∙ c.reserve.ensures.items in
    let setup : now.setup ≡ U = sym (ap (λ (s : CoreState). s.setup) c.self.view_is) in
    let journal : now.journal ≡ es = sym (items ∙ ap (λ (s : CoreState). s.journal) c.self.view_is) in
    let connected = c.entries_for-entries.ensures.value ∙ (λ i. connected_after (setup i) (trail_of (journal i)) e + 2) in
    let reach = c.reach_for-reach.ensures ∙ ap (λ (js : List Entry). marks_needed (trail_of js) (mark_count js)) journal in
    let judged = c.requires.judged ∙ (λ i. verdict (setup i) (trail_of (journal i)) e) in
    let bound = room t (mark_count es) in
    let less = most-less (most_taken t) t c.args.event.now (min-le_left (taken_count t) 128) in
    let counted = marks-counted es in
    let entries = c.in_ok-reserve.ensures.entries in
    let kept = w.entries in
    let far = c.in_ok-reserve.ensures.far in
    let keys = c.in_ok-reserve.ensures.keys in
    let Q : List Entry → Type 0 = IsLegal U in
    let legal = subst Q (sym items) c.self.invariant.legal in
    let holders = legal-holders U es legal in
    let before : m.draft.trail ≡ t = c.self.invariant.no_marks ∙ ap trail_of (sym items) in
    let behind : r.draft.trail ≡ t = c.reserve.ensures.trail ∙ before in
    let trail : n.draft.trail ≡ t = ap (λ (d : DraftState). d.trail) w.draft ∙ behind in
    let P : Trail → Type 0 = AreCounted c.counts-taken.result in
    let taken = (subst P trail c.counts-taken.ensures).taken ∙ pairs-taken t holders in
    let rings = c.in_ok-make_rings.ensures in
    let next = c.in_ok-reserve.ensures.reach in
    let length_is = ap length behind in
    let same_far = ap (λ (d : DraftState). d.far) c.make_rings.ensures.rest ∙ ap (λ (d : DraftState). d.far) w.draft in
    let same_keys = ap (λ (d : DraftState). d.keys) c.make_rings.ensures.rest ∙ ap (λ (d : DraftState). d.keys) w.draft in
    let same_reach = ap (λ (d : DraftState). d.reach) c.make_rings.ensures.rest ∙ ap (λ (d : DraftState). d.reach) w.draft in
    let v = c.args.verdict in
    let A : Verdict → Type 0 = λ w. AreWide (end_room n.journal) w t e in
    let L : Verdict → Type 0 = λ w. NextIsWide w t e (next_room n.journal) in
    let H : Trail → Type 0 = HaveEnds (end_room m.journal) in
    let W : Trail → Type 0 = λ u. (who : ConnId) → may_raise v u e who ≡ true → 0 < end_room r.journal who → share who u + most_share_rise who u ≤ end_room n.journal who in
    let N : Trail → Type 0 = λ u. NextIsWide v u e (next_room n.journal) in
    let K : Trail → Type 0 = λ u. (who : ConnId) (k : ℕ) → k ≤ share who u + most_share_rise who u → k ≤ end_room r.journal who → k ≤ end_room n.journal who in
    let have = subst H (ap trail_of (sym items)) c.self.invariant.ends in
    let wide = subst W behind c.in_ok-make_ends.ensures.wide in
    record {
      entries = omega arith;
      far = omega arith;
      keys = λ p. (
          let K : Verdict → Type 0 = λ w. keys_in p t + keys_with w p t e ≤ keys_of p c.make_rings.new.self.keys in
          let most = ap (λ (u : Trail). most_keys p u e) before in
          let known = ap (keys_in p) before in
          let room = keys p in
          let same = ap (keys_of p) same_keys in
          subst K judged (keys-enough p v t e (keys_of p c.keys_needed-keys.result) (keys_of p c.make_rings.new.self.keys)
          (λ granted. c.keys_needed-keys.ensures.granted granted (subst HoldersAreThere (sym before) holders) p ∙ most) (omega arith)
          (keys-kept p m.journal.items es m.draft.keys r.draft.keys c.make_rings.new.self.keys (c.self.invariant.keys p) items (c.reserve.ensures.keeps_keys p) same_keys))
          );
      reach = (
          let M : Verdict → Type 0 = λ w. length t + marks_with w t e ≤ c.make_rings.new.self.reach in
          let most = ap (λ (u : Trail). most_marks (most_taken u) u e) before in
          subst M judged (marks-enough v t e c.entry_marks-next.result c.make_rings.new.self.reach
          (λ granted. c.entry_marks-next.ensures.granted granted (subst HoldersAreThere (sym before) holders) ∙ most) (omega arith))
          );
      ends = subst A judged (all-wide v t e (end_room r.journal) (end_room n.journal) (λ who i. (let h = have who i in let k = c.reserve.ensures.ends who in omega arith)) (subst K behind w.keeps) wide);
      next_end = subst L judged (subst N behind c.in_ok-make_ends.ensures.next);
      rings = omega arith;
      small = (λ i. full (sym setup i) (sym journal i) e) ∙ c.requires.small;
      texts = c.in_ok-prepare.ensures.ready;
      judged = judged;
      answer = c.in_ok-answer.ensures ∙ ap (λ (v : Verdict). answered U v e es) judged;
    }

-- ---- each end: what was made so far is kept, and who is connected has room for its end still

pub invariant_of-self-in_err-make_rings : goal.invariant_of-self-in_err-make_rings
invariant_of-self-in_err-make_rings c = record {
  set_up = search rules;
  legal = search rules;
  begun = search rules;
  no_marks = search rules;
  stop_is = search rules;
  entries = search rules;
  reach = search rules;
  keys = search rules;
  within = search rules;
  ends = c.make_ends.ensures.have (reserved-have c.self.inside.board c.reserve.new.self c.reserve.ensures.ends c.reserve.ensures.items c.self.invariant.ends);
  ears = search rules;
  kept_texts = search rules;
  few_entries = search rules;
  few_marks = search rules;
}

pub invariant_of-self-in_err-prepare : goal.invariant_of-self-in_err-prepare
invariant_of-self-in_err-prepare c = record {
  set_up = search rules;
  legal = search rules;
  begun = search rules;
  no_marks = search rules;
  stop_is = search rules;
  entries = search rules;
  reach = search rules;
  keys = search rules;
  within = search rules;
  ends = c.make_ends.ensures.have (reserved-have c.self.inside.board c.reserve.new.self c.reserve.ensures.ends c.reserve.ensures.items c.self.invariant.ends);
  ears = search rules;
  kept_texts = search rules;
  few_entries = search rules;
  few_marks = search rules;
}

pub invariant_of-self-2 : goal.invariant_of-self-2
invariant_of-self-2 c = record {
  set_up = search rules;
  legal = search rules;
  begun = search rules;
  no_marks = search rules;
  stop_is = search rules;
  entries = search rules;
  reach = search rules;
  keys = search rules;
  within = search rules;
  ends = c.make_ends.ensures.have (reserved-have c.self.inside.board c.reserve.new.self c.reserve.ensures.ends c.reserve.ensures.items c.self.invariant.ends);
  ears = search rules;
  kept_texts = search rules;
  few_entries = search rules;
  few_marks = search rules;
}

pub invariant_of-self-in_err-answer : goal.invariant_of-self-in_err-answer
invariant_of-self-in_err-answer c = record {
  set_up = search rules;
  legal = search rules;
  begun = search rules;
  no_marks = search rules;
  stop_is = search rules;
  entries = search rules;
  reach = search rules;
  keys = search rules;
  within = search rules;
  ends = c.make_ends.ensures.have (reserved-have c.self.inside.board c.reserve.new.self c.reserve.ensures.ends c.reserve.ensures.items c.self.invariant.ends);
  ears = search rules;
  kept_texts = search rules;
  few_entries = search rules;
  few_marks = search rules;
}

pub invariant_of-self-3 : goal.invariant_of-self-3
invariant_of-self-3 c = record {
  set_up = search rules;
  legal = search rules;
  begun = search rules;
  no_marks = search rules;
  stop_is = search rules;
  entries = search rules;
  reach = search rules;
  keys = λ p. keys-kept p c.self.inside.board.journal.items c.make_ends.new.self.journal.items c.self.inside.board.draft.keys c.reserve.new.self.draft.keys c.make_rings.new.self.keys
      (c.self.invariant.keys p) (c.make_ends.ensures.same.items ∙ c.reserve.ensures.items) (c.reserve.ensures.keeps_keys p)
      (ap (λ (d : DraftState). d.keys) c.make_rings.ensures.rest ∙ ap (λ (d : DraftState). d.keys) c.make_ends.ensures.same.draft);
  within = search rules;
  ends = c.make_ends.ensures.have (reserved-have c.self.inside.board c.reserve.new.self c.reserve.ensures.ends c.reserve.ensures.items c.self.invariant.ends);
  ears = search rules;
  kept_texts = search rules;
  few_entries = search rules;
  few_marks = search rules;
}
