use Rattle.std.proofs.Common.{◌≡◌, ◌∙◌, ◌∷◌, sym, ap, subst, false, true, arith}
use Rattle.login_model.specs.Same.{same_fact}
use Rattle.login_model.specs.Trail.{Trail, value}
use Rattle.login_model.specs.declared.fact.Fact.{Fact}
use Rattle.login_model.specs.declared.mark.Mark.TheVariants.{Set}
use Rattle.login_facts.specs.Dues.{NamesKnown}
use Rattle.login_facts.specs.Facts.{StandFor}
use Rattle.login_core.specs.inner.UnderWay.{so_far}
use Rattle.login_core.specs.inner.Draft.{DraftState, with_trail}
use Rattle.login_table.proofs.Appending.{put-made, put-same}
use Rattle.login_facts.proofs.Known.{named-here}
use Rattle.login_facts.proofs.Standing.{opened}
use Rattle.login_core.proofs.Drafting.{draft-more, fresh-room, keys-set, new-here, one-more, room-inside, seen-more}
use Rattle.login_core.proofs.board.Draft.put.Goals as goal

pub returns-then-is_same_fact : goal.returns-then-is_same_fact
returns-then-is_same_fact c =
    let d = c.args.self.now in
    let same : same_fact (value d.trail c.args.key) c.args.fact ≡ true = ap (λ (f : Fact). same_fact f c.args.fact) (sym c.fact.ensures) ∙ sym c.is_same_fact.ensures ∙ c.if-is_same_fact.true in
    record { marked = ap (with_trail d) (sym (put-same c.args.key c.args.fact d.trail same)) }

pub set-requires-clause-spare : goal.set-requires-clause-spare
set-requires-clause-spare c =
    let d = c.args.self.now in
    let f = c.self.inside in
    let other : same_fact (value d.trail c.args.key) c.args.fact ≡ false = ap (λ (f : Fact). same_fact f c.args.fact) (sym c.fact.ensures) ∙ sym c.is_same_fact.ensures ∙ c.if-is_same_fact.false in
    let room = room-inside f.journal.value.items f.marks.items f.facts f.reach d c.self.view_is (one-more c.args.key c.args.fact d other c.requires.room) in
    let counted = c.self.invariant.counted in
    let far = c.self.invariant.far_enough in
    let fit = c.self.invariant.facts_fit in
    omega arith

pub set-requires-clause-fresh : goal.set-requires-clause-fresh
set-requires-clause-fresh c =
    let d = c.args.self.now in
    let f = c.self.inside in
    let t = so_far f.journal.value.items f.marks.items in
    let other : same_fact (value d.trail c.args.key) c.args.fact ≡ false = ap (λ (f : Fact). same_fact f c.args.fact) (sym c.fact.ensures) ∙ sym c.is_same_fact.ensures ∙ c.if-is_same_fact.false in
    fresh-room f.facts c.args.key c.args.fact t d c.self.invariant.stands (ap (λ (w : DraftState). w.trail) c.self.view_is) (ap (λ (w : DraftState). w.keys) c.self.view_is) other c.requires.room

pub set-requires-clause-known : goal.set-requires-clause-known
set-requires-clause-known c =
    let f = c.self.inside in
    let t = so_far f.journal.value.items f.marks.items in
    let P : Trail → Type 0 = NamesKnown c.args.fact in
    let named = subst P (sym (ap (λ (w : DraftState). w.trail) c.self.view_is)) c.requires.known in
    let Q : Fact → Type 0 = λ x. NamesKnown x f.facts.controls in
    subst Q (sym c.requires.copy) (named-here f.facts t c.args.fact (opened f.facts t c.self.invariant.stands) named)

pub push-requires : goal.push-requires
push-requires c =
    let d = c.args.self.now in
    let f = c.self.inside in
    let other : same_fact (value d.trail c.args.key) c.args.fact ≡ false = ap (λ (f : Fact). same_fact f c.args.fact) (sym c.fact.ensures) ∙ sym c.is_same_fact.ensures ∙ c.if-is_same_fact.false in
    let room = room-inside f.journal.value.items f.marks.items f.facts f.reach d c.self.view_is (one-more c.args.key c.args.fact d other c.requires.room) in
    let counted = c.self.invariant.counted in
    let fit = c.self.invariant.marks_fit in
    omega arith

pub invariant_of-self : goal.invariant_of-self
invariant_of-self c =
    let d = c.args.self.now in
    let f = c.self.inside in
    let es = f.journal.value.items in
    let ms = f.marks.items in
    let other : same_fact (value d.trail c.args.key) c.args.fact ≡ false = ap (λ (f : Fact). same_fact f c.args.fact) (sym c.fact.ensures) ∙ sym c.is_same_fact.ensures ∙ c.if-is_same_fact.false in
    let room = room-inside es ms f.facts f.reach d c.self.view_is (one-more c.args.key c.args.fact d other c.requires.room) in
    let P : Fact → Type 0 = λ y. StandFor c.set.new.self (Set c.args.key y ∷ so_far es ms) in
    draft-more es f.marks c.push.new.self f.facts c.set.new.self f.made f.reach (Set c.args.key c.args.fact) c.self.invariant room
    c.push.ensures.items c.push.ensures.spare (omega (arith, c.set.ensures.spare)) (subst P c.requires.copy (c.set.ensures.stands (so_far es ms) c.self.invariant.stands))

pub returns : goal.returns
returns c =
    let d = c.args.self.now in
    let f = c.self.inside in
    let t = so_far f.journal.value.items f.marks.items in
    let other : same_fact (value d.trail c.args.key) c.args.fact ≡ false = ap (λ (f : Fact). same_fact f c.args.fact) (sym c.fact.ensures) ∙ sym c.is_same_fact.ensures ∙ c.if-is_same_fact.false in
    record {
      marked = seen-more f.journal.value.items f.marks.items c.push.new.self.items f.facts c.set.new.self f.reach (Set c.args.key c.args.fact) d c.self.view_is
          c.push.ensures.items c.set.ensures.ears c.set.ensures.rings (λ p. (
          let new = new-here p f.facts t c.args.key c.self.invariant.stands in
          let keys = keys-set p c.args.key c.args.fact t in
          let left = c.set.ensures.fresh p in
          omega arith
          ))
          ∙ ap (with_trail d) (sym (put-made c.args.key c.args.fact d.trail other));
    }
