use Rattle.std.proofs.Common.{◌≡◌, ◌∙◌, sym, ap, false, true}
use Rattle.login_model.specs.Same.{same_fact}
use Rattle.login_model.specs.Trail.{put, value}
use Rattle.login_model.specs.declared.fact.Fact.{Fact}
use Rattle.login_model.specs.declared.fact.Fact.TheVariants.{Operation}
use Rattle.login_model.specs.declared.fact.Key.TheVariants.{Op}
use Rattle.login_table.proofs.Appending.{appends-none, appends-set, put-same, room-none, room-set, spare-set}
use Rattle.power_ops.proofs.operations.put.Goals as goal

pub returns-then-is_same_fact : goal.returns-then-is_same_fact
returns-then-is_same_fact g c =
    let t = g.F.Look.trail c.args.facts.now in
    let x = Operation c.args.operation in
    let same : same_fact (value t Op) x ≡ true = ap (λ (f : Fact). same_fact f x) (sym c.fact.ensures) ∙ sym c.is_same_fact.ensures ∙ c.if-is_same_fact.true in
    record {
      appends = appends-none (put Op x) t c.args.out.now.items (put-same Op x t same);
      room = room-none (put Op x) t c.args.out.now.spare (put-same Op x t same);
    }

pub push-requires : goal.push-requires
push-requires g c =
    let t = g.F.Look.trail c.args.facts.now in
    let x = Operation c.args.operation in
    let other : same_fact (value t Op) x ≡ false = ap (λ (f : Fact). same_fact f x) (sym c.fact.ensures) ∙ sym c.is_same_fact.ensures ∙ c.if-is_same_fact.false in
    spare-set Op x t c.args.out.now.spare other c.requires.room

pub returns : goal.returns
returns g c =
    let t = g.F.Look.trail c.args.facts.now in
    let x = Operation c.args.operation in
    let other : same_fact (value t Op) x ≡ false = ap (λ (f : Fact). same_fact f x) (sym c.fact.ensures) ∙ sym c.is_same_fact.ensures ∙ c.if-is_same_fact.false in
    record {
      appends = appends-set Op x t c.args.out.now.items c.push.new.self.items other tt c.push.ensures.items;
      room = room-set Op x t c.args.out.now.spare c.push.new.self.spare other c.push.ensures.spare;
    }
