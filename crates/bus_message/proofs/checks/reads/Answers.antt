use Rattle.std.proofs.Common.{rules}
use Rattle.bus_message.specs.inner.KnownFields.{shown}
use Rattle.bus_message.proofs.FirstNumbers.{reads_1, reads_2, reads_3, reads_4, reads_5, reads_6, reads_7, reads_8, reads_9, reads_none}
use Rattle.bus_message.proofs.checks.reads.Goals as goal

pub returns-in-1 : goal.returns-in-1
returns-in-1 c = reads_1 (shown c.args.fields.now) c.args.wanted _ c.is_some.result c.in-1.is c.is_some.ensures c.requires.path

pub returns-in-2 : goal.returns-in-2
returns-in-2 c = reads_2 (shown c.args.fields.now) c.args.wanted _ c.is_some-in-2.result c.in-2.is c.is_some-in-2.ensures c.requires.interface

pub returns-in-3 : goal.returns-in-3
returns-in-3 c = reads_3 (shown c.args.fields.now) c.args.wanted _ c.is_some-in-3.result c.in-3.is c.is_some-in-3.ensures c.requires.member

pub returns-in-4 : goal.returns-in-4
returns-in-4 c = reads_4 (shown c.args.fields.now) c.args.wanted _ c.is_some-in-4.result c.in-4.is c.is_some-in-4.ensures c.requires.error

pub returns-in-5 : goal.returns-in-5
returns-in-5 c = reads_5 (shown c.args.fields.now) c.args.wanted _ c.is_some-in-5.result c.in-5.is c.is_some-in-5.ensures c.requires.reply_to

pub returns-in-6 : goal.returns-in-6
returns-in-6 c = reads_6 (shown c.args.fields.now) c.args.wanted _ c.is_some-in-6.result c.in-6.is c.is_some-in-6.ensures c.requires.destination

pub returns-in-7 : goal.returns-in-7
returns-in-7 c = reads_7 (shown c.args.fields.now) c.args.wanted _ c.is_some-in-7.result c.in-7.is c.is_some-in-7.ensures c.requires.sender

pub returns-in-8 : goal.returns-in-8
returns-in-8 c = reads_8 (shown c.args.fields.now) c.args.wanted c.types.result c.is_some-in-8.result c.in-8.is c.is_some-in-8.ensures c.types.ensures

pub returns-in-9 : goal.returns-in-9
returns-in-9 c = reads_9 (shown c.args.fields.now) c.args.wanted _ c.is_some-in-9.result c.in-9.is c.is_some-in-9.ensures c.u32_at.ensures

pub returns-in_default : goal.returns-in_default
returns-in_default c =
    reads_none (shown c.args.fields.now) c.args.wanted (search rules) (search rules) (search rules) (search rules) (search rules) (search rules) (search rules) (search rules) (search rules)
