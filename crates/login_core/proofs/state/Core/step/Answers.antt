use Rattle.std.proofs.Common.{◌≡◌, ◌≤◌, ◌∙◌, ◌∷◌, ◌++◌, [], List, Option, ℕ, sym, ap, subst, refl, arith, length}
use Rattle.login_base.specs.declared.ids.HandleNo.{HandleNo}
use Rattle.login_model.specs.Direct.{direct}
use Rattle.login_model.specs.Legal.{IsLegal, IsPlaced, stepped, trail_of}
use Rattle.login_model.specs.Policy.{verdict}
use Rattle.login_laws.specs.Sound.{Awaits, IsSound}
use Rattle.login_model.specs.Trail.{Trail, after}
use Rattle.login_model.specs.declared.answer.Answer.{Answer}
use Rattle.login_model.specs.declared.event.Event.{Event}
use Rattle.login_model.specs.declared.mark.Entry.{Entry}
use Rattle.login_model.specs.declared.mark.Mark.{Mark}
use Rattle.login_model.specs.declared.setup.Setup.{Setup}
use Rattle.login_model.specs.declared.rule.Verdict.{Verdict}
use Rattle.login_laws.proofs.SoundLaws.{sound-journal}
use Rattle.login_laws.proofs.LawfulLaws.{granted-awaits, legal-is-lawful}
use Rattle.device_model.specs.Ears.{heard_of}
use Rattle.device_model.specs.declared.ears.Ear.{Ear}
use Rattle.login_core.specs.inner.Board.{IsBegun}
use Rattle.login_facts.specs.Dues.{CallerIsKnown}
use Rattle.login_core.specs.inner.Draft.{DraftState, marked_by, reaching, with_ears}
use Rattle.login_facts.specs.Ears.{AreEnough, ListenLive, settled}
use Rattle.login_facts.specs.Rings.{ring_count}
use Rattle.login_core.specs.inner.Inside.{IsCore}
use Rattle.login_core.specs.inner.Spares.{HaveTexts}
use Rattle.login_core.specs.inner.UnderWay.{so_far, entry_of}
use Rattle.login_laws.specs.Amounts.{Part, keys_in}
use Rattle.login_core.specs.State.{CoreState, IsReady}
use Rattle.login_facts.specs.KeyRooms.{keys_of}
use Rattle.login_core.specs.inner.State.{answer_next, stop_next}
use Rattle.login_core.specs.declared.board.Board.{Board}
use Rattle.login_core.specs.declared.room.ready.Ready.{Ready}
use Rattle.login_core.specs.declared.room.texts.Texts.{Texts}
use Rattle.login_core.proofs.Entries.{Steps, begun-marked, last-is, legal-closed, so_far-is}
use Rattle.login_core.proofs.Growing.{trails}
use Rattle.login_facts.proofs.Known.{caller-known}
use Rattle.login_core.specs.inner.Ledger.{end_room, next_room}
use Rattle.login_core.proofs.EndRooms.{ends-follow, welcome-more}
use Rattle.login_core.proofs.Judged.{judged-inside, ready-judged}
use Rattle.login_core.proofs.Listeners.{are-enough, listen-live, stepped-between}
use Rattle.login_core.proofs.Stepping.{HearsOn, Stepping, answered-next, can-welcome, core-closed, fits-both, has-entry, keys-step, ready-texts, seen, stays-within, taken-step}
use Rattle.login_core.proofs.state.Core.step.Goals as goal

stepping : (U : Setup) (m : Board) (x : Texts) (a : Ready) (stop : Option ℕ) (now : CoreState) (e : Event) (v : Verdict) → IsCore U m x stop → seen U m x a ≡ now
    → IsPlaced now.journal e → IsReady now e → v ≡ verdict U m.draft.trail e → Stepping U m x a stop e v
stepping U m x a stop now e v k w p r h =
    let P : CoreState → Type 0 = λ s. IsPlaced s.journal e in
    let Q : CoreState → Type 0 = λ s. IsReady s e in
    record {
      core = k;
      placed = subst P (sym w) p;
      ready = subst Q (sym w) r;
      verdict_is = h ∙ ap (λ (t : Trail). verdict U t e) k.no_marks;
      sound = sound-journal U m.journal.items k.legal;
    }

-- the verdict that room was made with, if it was
pub verdict_for-verdict-requires : goal.verdict_for-verdict-requires
verdict_for-verdict-requires c = record {
  ready = λ f.
      judged-inside c.self.inside.board _ c.args.self.now c.self.inside.ready.verdict c.args.event c.self.invariant.no_marks refl c.self.view_is
      (ap (λ (s : CoreState). s.ready.verdict) c.self.view_is ∙ ready-judged c.args.self.now c.args.event f c.requires.ready);
}

pub begin-requires-clause-no_marks : goal.begin-requires-clause-no_marks
begin-requires-clause-no_marks c = c.self.invariant.no_marks ∙ sym c.self.invariant.begun.before

pub perform-requires-clause-verdict : goal.perform-requires-clause-verdict
perform-requires-clause-verdict c = c.verdict_for-verdict.ensures ∙ ap (λ (t : Trail). verdict c.self.inside.setup t c.args.event) (sym (trails c.begin.ensures.draft))

pub perform-requires-clause-known : goal.perform-requires-clause-known
perform-requires-clause-known c =
    let m = c.self.inside.board in
    let s = stepping c.self.inside.setup m c.self.inside.texts c.self.inside.ready c.self.inside.stop c.args.self.now c.args.event c.verdict_for-verdict.result c.self.invariant c.self.view_is c.requires.placed c.requires.ready c.verdict_for-verdict.ensures in
    let P : Trail → Type 0 = CallerIsKnown c.args.event in
    subst P (sym (trails c.begin.ensures.draft ∙ c.self.invariant.no_marks)) (caller-known m.journal.items c.args.event s.placed)

pub perform-requires-clause-sound : goal.perform-requires-clause-sound
perform-requires-clause-sound c =
    let m = c.self.inside.board in
    let s = stepping c.self.inside.setup m c.self.inside.texts c.self.inside.ready c.self.inside.stop c.args.self.now c.args.event c.verdict_for-verdict.result c.self.invariant c.self.view_is c.requires.placed c.requires.ready c.verdict_for-verdict.ensures in
    let P : Trail → Type 0 = IsSound c.self.inside.setup in
    subst P (sym (trails c.begin.ensures.draft ∙ c.self.invariant.no_marks)) s.sound

pub perform-requires-clause-awaits : goal.perform-requires-clause-awaits
perform-requires-clause-awaits c = λ g.
    let U = c.self.inside.setup in
    let m = c.self.inside.board in
    let e = c.args.event in
    let s = stepping U m c.self.inside.texts c.self.inside.ready c.self.inside.stop c.args.self.now e c.verdict_for-verdict.result c.self.invariant c.self.view_is c.requires.placed c.requires.ready c.verdict_for-verdict.ensures in
    let P : Trail → Type 0 = λ t. Awaits (direct U e t) in
    subst P (sym (trails c.begin.ensures.draft ∙ c.self.invariant.no_marks)) (granted-awaits U m.journal.items e s.core.legal s.placed (sym s.verdict_is ∙ g))

pub perform-requires-clause-ready : goal.perform-requires-clause-ready
perform-requires-clause-ready c =
    let m = c.self.inside.board in
    let s = stepping c.self.inside.setup m c.self.inside.texts c.self.inside.ready c.self.inside.stop c.args.self.now c.args.event c.verdict_for-verdict.result c.self.invariant c.self.view_is c.requires.placed c.requires.ready c.verdict_for-verdict.ensures in
    ready-texts _ c.args.event s.ready

pub perform-requires-clause-texts : goal.perform-requires-clause-texts
perform-requires-clause-texts c =
    let P : Trail → Type 0 = HaveTexts c.self.inside.texts in
    subst P (sym (trails c.begin.ensures.draft ∙ c.self.invariant.no_marks)) c.self.invariant.kept_texts

pub perform-requires-clause-room : goal.perform-requires-clause-room
perform-requires-clause-room c =
    let U = c.self.inside.setup in
    let m = c.self.inside.board in
    let v = c.verdict_for-verdict.result in
    let s = stepping U m c.self.inside.texts c.self.inside.ready c.self.inside.stop c.args.self.now c.args.event v c.self.invariant c.self.view_is c.requires.placed c.requires.ready c.verdict_for-verdict.ensures in
    let d = c.begin.new.self.draft in
    let P : Trail → Type 0 = λ t. length (stepped U v c.args.event t) ≤ d.reach in
    let Q : Trail → Type 0 = λ t. (p : Part) → keys_in p (stepped U v c.args.event t) ≤ keys_of p d.keys in
    let same = sym (trails c.begin.ensures.draft ∙ c.self.invariant.no_marks) in
    let keys = keys-step U m c.self.inside.texts c.self.inside.ready c.self.inside.stop c.args.event v s in
    let kept = ap (λ (y : DraftState). y.keys) c.begin.ensures.draft in
    fits-both (stepped U v c.args.event) d (subst P same (stays-within U m c.self.inside.texts c.self.inside.ready c.self.inside.stop c.args.event v d.reach c.begin.ensures.reach s)) (subst Q same (λ p. (let a = keys p in let b = ap (keys_of p) kept in omega arith)))

pub settle_ears-requires-clause-live : goal.settle_ears-requires-clause-live
settle_ears-requires-clause-live c =
    let m = c.self.inside.board in
    let P : DraftState → Type 0 = λ d. ListenLive d.ears d.before in
    let Q : Trail → Type 0 = ListenLive m.draft.ears in
    subst P (sym c.perform.ensures.marked) (subst P (sym c.begin.ensures.draft) (subst Q (sym c.self.invariant.begun.before) (listen-live m.journal.items m.draft.ears m.draft.rings c.self.invariant.ears)))

pub settle_ears-requires-clause-enough : goal.settle_ears-requires-clause-enough
settle_ears-requires-clause-enough c =
    let U = c.self.inside.setup in
    let m = c.self.inside.board in
    let e = c.args.event in
    let v = c.verdict_for-verdict.result in
    let rings = ring_count m.draft.ears m.draft.rings in
    let s = stepping U m c.self.inside.texts c.self.inside.ready c.self.inside.stop c.args.self.now e v c.self.invariant c.self.view_is c.requires.placed c.requires.ready c.verdict_for-verdict.ensures in
    let P : DraftState → Type 0 = λ d. AreEnough (ring_count d.ears d.rings) d.trail in
    let R : DraftState → Type 0 = λ d. AreEnough (ring_count d.ears d.rings) (stepped U v e d.trail) in
    let Q : Trail → Type 0 = λ t. AreEnough rings (stepped U v e t) in
    let between = stepped-between U m.journal.items e v s.verdict_is s.placed s.sound in
    let taken = taken-step U m c.self.inside.texts c.self.inside.ready c.self.inside.stop e v s in
    subst P (sym c.perform.ensures.marked) (subst R (sym c.begin.ensures.draft) (subst Q (sym c.self.invariant.no_marks) (are-enough U (stepped U v e (trail_of m.journal.items)) rings between taken)))

pub welcome-requires-clause-begun : goal.welcome-requires-clause-begun
welcome-requires-clause-begun c =
    let d = c.settle_ears.new.self in
    begun-marked (stepped c.self.inside.setup c.verdict_for-verdict.result c.args.event) c.begin.new.self d (c.settle_ears.ensures.rest ∙ ap (with_ears d.ears d.rings) c.perform.ensures.marked) c.begin.ensures.begun

pub welcome-requires-clause-room : goal.welcome-requires-clause-room
welcome-requires-clause-room c =
    let U = c.self.inside.setup in
    let m = c.self.inside.board in
    let v = c.verdict_for-verdict.result in
    let s = stepping U m c.self.inside.texts c.self.inside.ready c.self.inside.stop c.args.self.now c.args.event v c.self.invariant c.self.view_is c.requires.placed c.requires.ready c.verdict_for-verdict.ensures in
    welcome-more v c.args.event (next_room m.journal) (next_room c.begin.new.self.journal) c.begin.ensures.next (can-welcome U m c.self.inside.texts c.self.inside.ready c.self.inside.stop c.args.event v s)

pub close_entry-requires-clause-entries : goal.close_entry-requires-clause-entries
close_entry-requires-clause-entries c =
    let U = c.self.inside.setup in
    let m = c.self.inside.board in
    let v = c.verdict_for-verdict.result in
    let s = stepping U m c.self.inside.texts c.self.inside.ready c.self.inside.stop c.args.self.now c.args.event v c.self.invariant c.self.view_is c.requires.placed c.requires.ready c.verdict_for-verdict.ensures in
    let has = has-entry U m c.self.inside.texts c.self.inside.ready c.self.inside.stop c.args.event v s in
    let begun = c.begin.ensures.entries in
    let welcome = c.welcome.ensures.entries in
    omega arith

-- the entry that is closed
steps : (U : Setup) (m : Board) (d : DraftState) (x : Texts) (ready : Ready) (a : Answer) (stop : Option ℕ) (e : Event) (v : Verdict) (ms : List Mark) → Stepping U m x ready stop e v → a ≡ answer_next e ready.answer
    → d.trail ≡ stepped U v e m.draft.trail → so_far m.journal.items ms ≡ d.trail → Steps U m.journal.items e v a ms
steps U m d x ready a stop e v ms s h k made = record {
  placed = s.placed;
  verdict_is = s.verdict_is;
  answer_is = h ∙ answered-next U m x ready stop e v s;
  marks_are = made ∙ k ∙ ap (stepped U v e) s.core.no_marks;
}

-- what handles have heard behind it, after its marks were made and what is heard was settled
hears-on : (U : Setup) (m n : Board) (p d : DraftState) (e : Event) (v : Verdict) (ms : List Mark) (reach far : ℕ) → IsBegun m → m.draft.trail ≡ trail_of m.journal.items → p ≡ marked_by (stepped U v e) (reaching reach far m.draft) → d ≡ with_ears d.ears d.rings p
    → so_far m.journal.items ms ≡ d.trail → ((xs : List Mark) → after p.before xs ≡ p.trail → (h : HandleNo) → heard_of d.ears h ≡ settled h e v xs p.trail p.trail (heard_of p.ears h))
    → ring_count d.ears d.rings ≡ ring_count p.ears p.rings → n.draft.ears ≡ d.ears → n.draft.rings ≡ d.rings → HearsOn m n e v ms (stepped U v e (trail_of m.journal.items))
hears-on U m n p d e v ms reach far b none marked rest made heard rings ears_are rings_are =
    let before : p.before ≡ trail_of m.journal.items = ap (λ (x : DraftState). x.before) marked ∙ b.before in
    let trail : p.trail ≡ stepped U v e (trail_of m.journal.items) = trails marked ∙ ap (stepped U v e) none in
    let all = ap (λ (t : Trail). after t ms) before ∙ sym (so_far-is m.journal.items ms) ∙ made ∙ trails rest in
    record {
      heard = λ h. ap (λ (xs : List Ear). heard_of xs h) ears_are
          ∙ heard ms all h
          ∙ ap (λ (t : Trail). settled h e v ms t t (heard_of p.ears h)) trail
          ∙ ap (λ (x : DraftState). let u = stepped U v e (trail_of m.journal.items) in settled h e v ms u u (heard_of x.ears h)) marked;
      rings = (λ i. ring_count (ears_are i) (rings_are i)) ∙ rings ∙ ap (λ (x : DraftState). ring_count x.ears x.rings) marked;
    }

pub invariant_of-self : goal.invariant_of-self
invariant_of-self c =
    let U = c.self.inside.setup in
    let m = c.self.inside.board in
    let x = c.self.inside.texts in
    let v = c.verdict_for-verdict.result in
    let a = c.self.inside.ready in
    let b = c.answer_for-answer.result in
    let e = c.args.event in
    let stop = c.self.inside.stop in
    let closes = c.close_entry.ensures.closes in
    let s = stepping U m x a stop c.args.self.now e v c.self.invariant c.self.view_is c.requires.placed c.requires.ready c.verdict_for-verdict.ensures in
    let d = c.settle_ears.new.self in
    let begin = c.begin.ensures in
    let settle = c.settle_ears.ensures in
    let welcome = c.welcome.ensures in
    let close = c.close_entry.ensures in
    let items : c.welcome.new.self.journal.items ≡ m.journal.items = welcome.items ∙ begin.items in
    let made = ap (λ es. so_far es closes.marks) (sym items) ∙ closes.made ∙ trails welcome.draft in
    let marked = c.perform.ensures.marked ∙ ap (marked_by (stepped U v e)) begin.draft in
    let w = steps U m d x a b stop e v closes.marks s c.answer_for-answer.ensures (trails settle.rest ∙ trails marked) made in
    let hears = hears-on U m c.close_entry.new.self c.perform.new.self d e v closes.marks c.begin.new.self.draft.reach m.draft.far c.self.invariant.begun c.self.invariant.no_marks marked settle.rest made settle.heard settle.rings
    (close.ears ∙ ap (λ (y : DraftState). y.ears) welcome.draft) (close.rings ∙ ap (λ (y : DraftState). y.rings) welcome.draft) in
    let follows = ends-follow v e (next_room m.journal) (next_room c.begin.new.self.journal) (end_room m.journal) (end_room c.begin.new.self.journal) (end_room c.welcome.new.self.journal) (end_room c.close_entry.new.self.journal)
    begin.next begin.ends welcome.ends close.ends in
    let far = close.far ∙ ap (λ (y : DraftState). y.far) welcome.draft ∙ ap (λ (y : DraftState). y.far) settle.rest ∙ ap (λ (y : DraftState). y.far) marked in
    let keys = close.keys ∙ ap (λ (y : DraftState). y.keys) welcome.draft ∙ ap (λ (y : DraftState). y.keys) settle.rest ∙ ap (λ (y : DraftState). y.keys) marked in
    let same = ap length begin.items in
    let P : Trail → Type 0 = λ t. HaveTexts c.perform.new.texts (stepped U v e t) in
    let Q : Trail → Type 0 = HaveTexts c.perform.new.texts in
    let len = ap length c.journal.ensures in
    let value = c.len.ensures.value in
    let few = c.self.invariant.few_entries in
    core-closed U m c.close_entry.new.self x c.perform.new.texts a b stop c.stop_after-self-inside.result e v closes.marks s w
    (closes.entry ∙ ap (λ es. es ++ entry_of e v b closes.marks ∷ []) items) close.no_marks close.begun (close.entries ∙ welcome.entries ∙ begin.entries) far keys close.within follows
    (c.stop_after-self-inside.ensures ∙ ap (stop_next stop e) (omega arith)) (subst P c.self.invariant.no_marks (subst Q (trails marked) c.perform.ensures.texts)) hears

pub returns : goal.returns
returns c =
    let U = c.self.inside.setup in
    let m = c.self.inside.board in
    let x = c.self.inside.texts in
    let v = c.verdict_for-verdict.result in
    let a = c.self.inside.ready in
    let b = c.answer_for-answer.result in
    let stop = c.self.inside.stop in
    let old = c.args.self.now in
    let closes = c.close_entry.ensures.closes in
    let ms = closes.marks in
    let s = stepping U m x a stop old c.args.event v c.self.invariant c.self.view_is c.requires.placed c.requires.ready c.verdict_for-verdict.ensures in
    let items : c.welcome.new.self.journal.items ≡ m.journal.items = c.welcome.ensures.items ∙ c.begin.ensures.items in
    let made = ap (λ es. so_far es ms) (sym items) ∙ closes.made ∙ trails c.welcome.ensures.draft in
    let marked = c.perform.ensures.marked ∙ ap (marked_by (stepped U v c.args.event)) c.begin.ensures.draft in
    let w = steps U m c.settle_ears.new.self x a b stop c.args.event v ms s c.answer_for-answer.ensures (trails c.settle_ears.ensures.rest ∙ trails marked) made in
    let e : Entry = entry_of c.args.event v b ms in
    let entry = closes.entry ∙ ap (λ es. es ++ e ∷ []) items in
    let is : c.entry.result.now ≡ e = last-is m.journal.items c.journal-journal.result.now.items e c.entry.result.now c.len-2.result (c.journal-journal.ensures ∙ entry) c.len-2.ensures.value c.entry.ensures in
    let P : CoreState → Type 0 = λ q. IsLegal q.setup (q.journal ++ e ∷ []) in
    let Q : Entry → Type 0 = λ y. IsLegal old.setup (old.journal ++ y ∷ []) in (
      (
        refl,
        λ _. tt,
        record {
          setup = ap (λ (q : CoreState). q.setup) c.self.view_is;
          journal = entry ∙ ap (λ (q : CoreState). q.journal ++ e ∷ []) c.self.view_is ∙ ap (λ (y : Entry). old.journal ++ y ∷ []) (sym is);
        },
      ),
      record {
        event = ap (λ (y : Entry). y.event) is;
        lawful = legal-is-lawful old.setup (old.journal ++ c.entry.result.now ∷ []) (subst Q (sym is) (subst P c.self.view_is (legal-closed U m.journal.items c.args.event v b ms c.self.invariant.legal w)));
        after = tt;
      },
    )
