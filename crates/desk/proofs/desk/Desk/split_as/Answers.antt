use Rattle.std.proofs.Common.{rules, ◌≡◌, ℕ, sym, subst, ap, ◌∙◌}
use Rattle.desk.specs.Passes.{IsNew}
use Rattle.desk.specs.Views.{Settled, split_view}
use Rattle.desk.proofs.Splitting.{right_settled, splits}
use Rattle.desk.proofs.desk.Desk.split_as.Goals as goal

pub split_seat-requires : goal.split_seat-requires
split_seat-requires g c = (search rules, search rules, splits _ _ _ _ _ _ c.args.seat.now.me.0 c.requires.seat.settled.idle c.requires.first c.requires.room (subst (λ (n : ℕ). IsNew n c.args.seat.now.me.0) (sym c.requires.picked) c.requires.who))

pub returns-clause-new : goal.returns-clause-new
returns-clause-new g c =
    let made = c.split_seat.ensures.4 in
    let is : c.split_seat.result.me.0 ≡ split_view c.args.who.0 c.args.seat.now.me.0 = ap (λ (z : _). z.0) made ∙ ap (λ (n : ℕ). split_view n c.args.seat.now.me.0) c.requires.picked in (
      record {
        table_is = search rules;
        settled = subst Settled (sym is) (right_settled c.args.who.0 c.args.seat.now.me.0 c.requires.seat.settled c.requires.first);
        holds_none = ap (λ (z : _). z.1) made;
      },
      is,
    )
