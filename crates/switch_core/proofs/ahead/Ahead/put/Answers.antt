use Rattle.std.proofs.Common.{◌≡◌, ◌∙◌, sym, ap, false, true}
use Rattle.login_model.specs.Same.{same_fact}
use Rattle.login_model.specs.Trail.{value}
use Rattle.login_model.specs.declared.fact.Fact.{Fact}
use Rattle.login_model.specs.declared.mark.Mark.TheVariants.{Set}
use Rattle.switch_core.specs.inner.Ahead.{with_trail}
use Rattle.switch_core.proofs.Aheads.{ahead-more, one-more, room-inside, seen-more}
use Rattle.login_table.proofs.Appending.{put-made, put-same}
use Rattle.switch_core.proofs.ahead.Ahead.put.Goals as goal

pub returns-then-is_same_fact : goal.returns-then-is_same_fact
returns-then-is_same_fact g c =
    let a = c.args.self.now in
    let same : same_fact (value a.trail c.args.key) c.args.fact ≡ true = ap (λ (f : Fact). same_fact f c.args.fact) (sym c.fact.ensures) ∙ sym c.is_same_fact.ensures ∙ c.if-is_same_fact.true in
    record { marked = ap (with_trail a) (sym (put-same c.args.key c.args.fact a.trail same)) }

pub push-requires : goal.push-requires
push-requires g c =
    let a = c.args.self.now in
    let f = c.self.inside in
    let other : same_fact (value a.trail c.args.key) c.args.fact ≡ false = ap (λ (f : Fact). same_fact f c.args.fact) (sym c.fact.ensures) ∙ sym c.is_same_fact.ensures ∙ c.if-is_same_fact.false in
    room-inside (g.F.Look.trail f.facts.now) f.out f.from f.start.value.spare a c.self.invariant c.self.view_is (one-more c.args.key c.args.fact a other c.requires.room)

pub invariant_of-self : goal.invariant_of-self
invariant_of-self g c =
    let f = c.self.inside in
    ahead-more f.out c.push.new.self f.from f.start.value.spare (Set c.args.key c.args.fact) c.self.invariant c.push.ensures.items c.push.ensures.spare c.requires.plain

pub returns : goal.returns
returns g c =
    let a = c.args.self.now in
    let f = c.self.inside in
    let other : same_fact (value a.trail c.args.key) c.args.fact ≡ false = ap (λ (f : Fact). same_fact f c.args.fact) (sym c.fact.ensures) ∙ sym c.is_same_fact.ensures ∙ c.if-is_same_fact.false in
    record {
      marked = seen-more (g.F.Look.trail f.facts.now) f.out.items c.push.new.self.items f.from f.start.value.spare (Set c.args.key c.args.fact) a c.self.view_is c.self.invariant.within c.push.ensures.items
          ∙ ap (with_trail a) (sym (put-made c.args.key c.args.fact a.trail other));
    }
