use Rattle.login_prog.proofs.serve.whole.finish.Goals as goal

pub returns-clause-finished : goal.returns-clause-finished
returns-clause-finished g c = let k = c.close-core.ensures in record {
  setup = c.close-core.result.setup;
  journal = c.close-core.result.journal;
  closes = record { setup_is = k.setup; journal_is = k.journal; own = k.own; each = k.joined; each_who = k.joined_who; not_first = k.not_first; distinct = k.distinct; no_other = k.no_other };
  lawful = c.write_outcome-status.ensures.lawful;
  finishes = c.write_outcome-status.ensures.finishes;
}
