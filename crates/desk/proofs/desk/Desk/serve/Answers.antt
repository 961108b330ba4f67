use Rattle.std.proofs.Common.{rules, ◌∷◌, Some, refl, sym, ap, ◌∙◌}
use Rattle.atomic_table.specs.Table.{rest}
use Rattle.desk.proofs.Turning.{ready, publishes_ready, turned, settles}
use Rattle.desk.proofs.desk.Desk.serve.Goals as goal

pub exchange-requires : goal.exchange-requires
exchange-requires g c = let s = c.requires.turn in (search rules, (Some s.value, s.carried ∙ ap (λ (l : _). (0, Some s.value) ∷ l) (sym (ap rest s.carried))))

pub fetch_add-requires : goal.fetch_add-requires
fetch_add-requires g c =
    let out = c.in-Some.ensures in
    let back = c.exchange-2.ensures in
    let r = ready g.V.Journaled.who g.V.Journaled.setup g.V.Journaled.journal c.args.seat.now.me c.exchange.new.seat.me c.exchange-2.new.seat.me _ c.in-Some.value c.act-answer.new.value c.requires.turn out.2 refl out.3 back.3 in
    (search rules, search rules, publishes_ready _ _ _ _ _ _ _ _ c.in-Some.value c.act-answer.new.value c.args.who.0 r c.requires.who c.act-answer.ensures.setup c.act-answer.ensures.appends)

pub returns-clause-turn : goal.returns-clause-turn
returns-clause-turn g c =
    let out = c.in-Some.ensures in
    let back = c.exchange-2.ensures in
    let r = ready g.V.Journaled.who g.V.Journaled.setup g.V.Journaled.journal c.args.seat.now.me c.exchange.new.seat.me c.exchange-2.new.seat.me _ c.in-Some.value c.act-answer.new.value c.requires.turn out.2 refl out.3 back.3 in
    turned _ _ _ _ _ _ c.fetch_add.new.seat.me c.in-Some.value c.act-answer.new.value c.args.who.0 r c.requires.who c.act-answer.ensures.appends c.fetch_add.ensures.2 c.act-answer.ensures.setup c.act-answer.ensures.does

pub returns-clause-seat : goal.returns-clause-seat
returns-clause-seat g c =
    let out = c.in-Some.ensures in
    let back = c.exchange-2.ensures in
    let r = ready g.V.Journaled.who g.V.Journaled.setup g.V.Journaled.journal c.args.seat.now.me c.exchange.new.seat.me c.exchange-2.new.seat.me _ c.in-Some.value c.act-answer.new.value c.requires.turn out.2 refl out.3 back.3 in
    let e = settles g.V.Journaled.who g.V.Journaled.setup g.V.Journaled.journal c.args.seat.now.me c.exchange-2.new.seat.me c.fetch_add.new.seat.me c.in-Some.value c.act-answer.new.value r c.requires.inherited c.fetch_add.ensures.2 in
    record { table_is = search rules; settled = e.0; holds_none = e.1 }
