use Rattle.std.proofs.Common.{ap, ◌∙◌}
use Rattle.desk.specs.Views.{first_view}
use Rattle.desk.proofs.CountingUp.{counted_from}
use Rattle.desk.proofs.counting.count_apart.Goals as goal

pub returns-clause-one : goal.returns-clause-one
returns-clause-one g c = let counted =
    counted_from c.args.room c.args.most c.in_ok-desk.first.view c.split-one.new.pass.view c.split-two.new.pass.view c.split-one.result.view c.split-two.result.view c.in_ok-one.one.view c.in_ok-one.two.view
    c.join.new.into.view c.join-2.new.into.view c.close.result (c.in_ok-desk.ensures.first ∙ ap first_view c.in_ok-new.ensures.most) c.split-one.ensures.first c.split-one.ensures.new c.split-two.ensures.first c.split-two.ensures.new
    c.in_ok-one.ensures.one c.in_ok-one.ensures.two c.join.ensures.both c.join-2.ensures.both
    (let k = c.close.ensures in record { setup_is = k.setup; journal_is = k.journal; own = k.own; each = k.joined; each_who = k.joined_who; not_first = k.not_first; distinct = k.distinct; no_other = k.no_other }) in
    counted.one

pub returns-clause-two : goal.returns-clause-two
returns-clause-two g c = let counted =
    counted_from c.args.room c.args.most c.in_ok-desk.first.view c.split-one.new.pass.view c.split-two.new.pass.view c.split-one.result.view c.split-two.result.view c.in_ok-one.one.view c.in_ok-one.two.view
    c.join.new.into.view c.join-2.new.into.view c.close.result (c.in_ok-desk.ensures.first ∙ ap first_view c.in_ok-new.ensures.most) c.split-one.ensures.first c.split-one.ensures.new c.split-two.ensures.first c.split-two.ensures.new
    c.in_ok-one.ensures.one c.in_ok-one.ensures.two c.join.ensures.both c.join-2.ensures.both
    (let k = c.close.ensures in record { setup_is = k.setup; journal_is = k.journal; own = k.own; each = k.joined; each_who = k.joined_who; not_first = k.not_first; distinct = k.distinct; no_other = k.no_other }) in
    counted.two

pub returns-clause-all : goal.returns-clause-all
returns-clause-all g c = let counted =
    counted_from c.args.room c.args.most c.in_ok-desk.first.view c.split-one.new.pass.view c.split-two.new.pass.view c.split-one.result.view c.split-two.result.view c.in_ok-one.one.view c.in_ok-one.two.view
    c.join.new.into.view c.join-2.new.into.view c.close.result (c.in_ok-desk.ensures.first ∙ ap first_view c.in_ok-new.ensures.most) c.split-one.ensures.first c.split-one.ensures.new c.split-two.ensures.first c.split-two.ensures.new
    c.in_ok-one.ensures.one c.in_ok-one.ensures.two c.join.ensures.both c.join-2.ensures.both
    (let k = c.close.ensures in record { setup_is = k.setup; journal_is = k.journal; own = k.own; each = k.joined; each_who = k.joined_who; not_first = k.not_first; distinct = k.distinct; no_other = k.no_other }) in
    counted.all
