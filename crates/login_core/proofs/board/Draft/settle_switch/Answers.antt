use Rattle.std.proofs.Common.{arith}
use Rattle.login_model.specs.Switching.{settle_switch}
use Rattle.login_core.proofs.TakingOver.{has-more, has-room, more-awaits, more-can, more-draft, more-handles, more-made, more-seen}
use Rattle.login_core.proofs.board.Draft.settle_switch.Goals as goal

pub settle-requires-clause-room : goal.settle-requires-clause-room
settle-requires-clause-room c =
    let f = c.self.inside in
    has-room (settle_switch c.args.conf.now) f.journal.value.items f.marks f.facts f.made f.reach c.args.self.now c.of-so_far.result c.self.invariant c.self.view_is c.requires.room c.of-so_far.ensures

pub settle-requires-clause-awaits : goal.settle-requires-clause-awaits
settle-requires-clause-awaits c = (let f = c.self.inside in more-awaits f.journal.value.items f.marks.items f.facts f.reach c.args.self.now c.of-so_far.result c.self.view_is c.of-so_far.ensures c.requires.awaits)

pub settle-requires-clause-handles : goal.settle-requires-clause-handles
settle-requires-clause-handles c =
    let f = c.self.inside in
    more-handles f.journal.value.items f.marks f.facts f.made f.reach c.of-so_far.result c.self.invariant c.of-so_far.ensures

pub take_over-requires-clause-can : goal.take_over-requires-clause-can
take_over-requires-clause-can c =
    let f = c.self.inside in
    let more = has-more (settle_switch c.args.conf.now) f.journal.value.items f.marks c.settle.new.out f.facts f.made f.reach c.args.self.now c.of-so_far.result c.self.invariant c.self.view_is c.requires.room c.of-so_far.ensures c.settle.ensures.appends c.settle.ensures.room in
    more-can _ _ f.marks c.settle.new.out f.facts f.made f.reach c.args.self.now c.len-from.result more c.len-from.ensures.value

pub overflow_add-self : goal.overflow_add-self
overflow_add-self c =
    let f = c.self.inside in
    let more = has-more (settle_switch c.args.conf.now) f.journal.value.items f.marks c.settle.new.out f.facts f.made f.reach c.args.self.now c.of-so_far.result c.self.invariant c.self.view_is c.requires.room c.of-so_far.ensures c.settle.ensures.appends c.settle.ensures.room in
    let made = more-made _ _ f.marks c.settle.new.out f.facts f.made f.reach c.args.self.now c.len-from.result c.take_over.result more c.len-from.ensures.value c.take_over.ensures.count in
    omega arith

pub invariant_of-self : goal.invariant_of-self
invariant_of-self c =
    let f = c.self.inside in
    let more = has-more (settle_switch c.args.conf.now) f.journal.value.items f.marks c.settle.new.out f.facts f.made f.reach c.args.self.now c.of-so_far.result c.self.invariant c.self.view_is c.requires.room c.of-so_far.ensures c.settle.ensures.appends c.settle.ensures.room in
    more-draft _ _ f.marks c.settle.new.out f.facts c.take_over.new.facts f.made f.reach c.args.self.now c.len-from.result c.take_over.result more c.len-from.ensures.value
    c.take_over.ensures.count c.take_over.ensures.takes

pub returns : goal.returns
returns c =
    let f = c.self.inside in
    let more = has-more (settle_switch c.args.conf.now) f.journal.value.items f.marks c.settle.new.out f.facts f.made f.reach c.args.self.now c.of-so_far.result c.self.invariant c.self.view_is c.requires.room c.of-so_far.ensures c.settle.ensures.appends c.settle.ensures.room in
    record { marked = more-seen _ _ f.marks c.settle.new.out f.facts c.take_over.new.facts f.made f.reach c.args.self.now c.len-from.result more c.len-from.ensures.value c.take_over.ensures.takes }
