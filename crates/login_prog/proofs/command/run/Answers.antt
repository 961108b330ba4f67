use Rattle.std.proofs.Common.{arith, refl, ⊎_elim}
use Rattle.login_prog.proofs.CommandsApart.{no-replay, replaying, serving}
use Rattle.login_prog.proofs.Completions.{done_refuses, done_fills, refused_completes, refused_fills, full_completes, full_refuses}
use Rattle.login_prog.proofs.command.run.Goals as goal

pub returns-in-Done-clause-refuses : goal.returns-in-Done-clause-refuses
returns-in-Done-clause-refuses g c = λ words. done_refuses _ _ _ _ _ _ c.in-Done.ensures.gives

pub returns-in-Done-clause-fills : goal.returns-in-Done-clause-fills
returns-in-Done-clause-fills g c = λ words. done_fills _ _ _ _ _ _ c.in-Done.ensures.gives

pub returns-in-Script-clause-complete : goal.returns-in-Script-clause-complete
returns-in-Script-clause-complete g c = λ words. refused_completes _ _ _ _ _ _ _ c.in-Script.ensures.gives

pub returns-in-Script-clause-fills : goal.returns-in-Script-clause-fills
returns-in-Script-clause-fills g c = λ words. refused_fills _ _ _ _ _ _ _ c.in-Script.ensures.gives

pub returns-in-Full-clause-complete : goal.returns-in-Full-clause-complete
returns-in-Full-clause-complete g c = λ words. full_completes _ _ _ _ _ _ c.in-Full.ensures.gives

pub returns-in-Full-clause-refuses : goal.returns-in-Full-clause-refuses
returns-in-Full-clause-refuses g c = λ words. full_refuses _ _ _ _ _ _ c.in-Full.ensures.gives

pub returns-in-Done-clause-serves : goal.returns-in-Done-clause-serves
returns-in-Done-clause-serves g c = λ dir s. absurd (replaying c.args.words.now _ c.in-Some-Replay.field-0-is c.in-Some-Replay.ensures dir s)

pub returns-in-Script-clause-serves : goal.returns-in-Script-clause-serves
returns-in-Script-clause-serves g c = λ dir s. absurd (replaying c.args.words.now _ c.in-Some-Replay.field-0-is c.in-Some-Replay.ensures dir s)

pub returns-in-ReadFault-clause-serves : goal.returns-in-ReadFault-clause-serves
returns-in-ReadFault-clause-serves g c = λ dir s. absurd (replaying c.args.words.now _ c.in-Some-Replay.field-0-is c.in-Some-Replay.ensures dir s)

pub returns-in-WriteFault-clause-serves : goal.returns-in-WriteFault-clause-serves
returns-in-WriteFault-clause-serves g c = λ dir s. absurd (replaying c.args.words.now _ c.in-Some-Replay.field-0-is c.in-Some-Replay.ensures dir s)

pub returns-in-NoMemory-clause-serves : goal.returns-in-NoMemory-clause-serves
returns-in-NoMemory-clause-serves g c = λ dir s. absurd (replaying c.args.words.now _ c.in-Some-Replay.field-0-is c.in-Some-Replay.ensures dir s)

pub returns-in-Full-clause-serves : goal.returns-in-Full-clause-serves
returns-in-Full-clause-serves g c = λ dir s. absurd (replaying c.args.words.now _ c.in-Some-Replay.field-0-is c.in-Some-Replay.ensures dir s)

pub serve-requires-clause-new : goal.serve-requires-clause-new
serve-requires-clause-new g c = λ κs outs. let d = serving c.args.words.now _ _ c.in-Some-Serve.field-0-is tt c.in-Some-Serve.ensures in c.requires.new d.0 d.1

pub returns-in-Some-Serve-clause-done : goal.returns-in-Some-Serve-clause-done
returns-in-Some-Serve-clause-done g c = λ r. absurd (no-replay c.args.words.now _ _ c.in-Some-Serve.field-0-is tt c.in-Some-Serve.ensures r)

pub returns-in-Some-Serve-clause-quiet : goal.returns-in-Some-Serve-clause-quiet
returns-in-Some-Serve-clause-quiet g c = λ r. absurd (no-replay c.args.words.now _ _ c.in-Some-Serve.field-0-is tt c.in-Some-Serve.ensures r)

pub returns-in-Some-Serve-clause-steady : goal.returns-in-Some-Serve-clause-steady
returns-in-Some-Serve-clause-steady g c = λ r. absurd (no-replay c.args.words.now _ _ c.in-Some-Serve.field-0-is tt c.in-Some-Serve.ensures r)

pub returns-in-Some-Serve-clause-refused : goal.returns-in-Some-Serve-clause-refused
returns-in-Some-Serve-clause-refused g c = λ r. absurd (no-replay c.args.words.now _ _ c.in-Some-Serve.field-0-is tt c.in-Some-Serve.ensures r)

pub returns-in-Some-Serve-clause-full : goal.returns-in-Some-Serve-clause-full
returns-in-Some-Serve-clause-full g c = λ r. absurd (no-replay c.args.words.now _ _ c.in-Some-Serve.field-0-is tt c.in-Some-Serve.ensures r)

pub returns-in-Some-Serve-clause-broken : goal.returns-in-Some-Serve-clause-broken
returns-in-Some-Serve-clause-broken g c = λ r. absurd (no-replay c.args.words.now _ _ c.in-Some-Serve.field-0-is tt c.in-Some-Serve.ensures r)

pub returns-in-Some-Serve-clause-unwritten : goal.returns-in-Some-Serve-clause-unwritten
returns-in-Some-Serve-clause-unwritten g c = λ r. absurd (no-replay c.args.words.now _ _ c.in-Some-Serve.field-0-is tt c.in-Some-Serve.ensures r)

pub returns-in-Some-Serve-clause-front : goal.returns-in-Some-Serve-clause-front
returns-in-Some-Serve-clause-front g c = λ r. absurd (no-replay c.args.words.now _ _ c.in-Some-Serve.field-0-is tt c.in-Some-Serve.ensures r)

pub returns-in-Some-Serve-clause-few : goal.returns-in-Some-Serve-clause-few
returns-in-Some-Serve-clause-few g c = λ r. absurd (no-replay c.args.words.now _ _ c.in-Some-Serve.field-0-is tt c.in-Some-Serve.ensures r)

pub returns-in-Some-Serve-clause-complete : goal.returns-in-Some-Serve-clause-complete
returns-in-Some-Serve-clause-complete g c = λ r. absurd (no-replay c.args.words.now _ _ c.in-Some-Serve.field-0-is tt c.in-Some-Serve.ensures r)

pub returns-in-Some-Serve-clause-refuses : goal.returns-in-Some-Serve-clause-refuses
returns-in-Some-Serve-clause-refuses g c = λ r. absurd (no-replay c.args.words.now _ _ c.in-Some-Serve.field-0-is tt c.in-Some-Serve.ensures r)

pub returns-in-Some-Serve-clause-fills : goal.returns-in-Some-Serve-clause-fills
returns-in-Some-Serve-clause-fills g c = λ r. absurd (no-replay c.args.words.now _ _ c.in-Some-Serve.field-0-is tt c.in-Some-Serve.ensures r)

pub returns-in-Some-Serve-clause-listener : goal.returns-in-Some-Serve-clause-listener
returns-in-Some-Serve-clause-listener g c = λ n. let d = serving c.args.words.now _ _ c.in-Some-Serve.field-0-is tt c.in-Some-Serve.ensures in absurd (n d.0 d.1)

pub returns-in-Some-Serve-clause-clock : goal.returns-in-Some-Serve-clause-clock
returns-in-Some-Serve-clause-clock g c = λ n. let d = serving c.args.words.now _ _ c.in-Some-Serve.field-0-is tt c.in-Some-Serve.ensures in absurd (n d.0 d.1)

pub returns-in-Some-Serve-clause-spawner : goal.returns-in-Some-Serve-clause-spawner
returns-in-Some-Serve-clause-spawner g c = λ n. let d = serving c.args.words.now _ _ c.in-Some-Serve.field-0-is tt c.in-Some-Serve.ensures in absurd (n d.0 d.1)

pub returns-in-Some-Serve-clause-said : goal.returns-in-Some-Serve-clause-said
returns-in-Some-Serve-clause-said g c = λ n. let d = serving c.args.words.now _ _ c.in-Some-Serve.field-0-is tt c.in-Some-Serve.ensures in absurd (n d.0 d.1)

pub returns-in-Some-Serve-clause-status : goal.returns-in-Some-Serve-clause-status
returns-in-Some-Serve-clause-status g c = ⊎_elim (λ e. omega (arith, e)) (λ e. e.1) c.serve.ensures.status

pub returns-in-Some-Serve-clause-usage : goal.returns-in-Some-Serve-clause-usage
returns-in-Some-Serve-clause-usage g c =
    (λ one. absurd (⊎_elim (λ e. omega (arith, one, e)) (λ e. let two = e.0 in omega (arith, one, two)) c.serve.ensures.status), λ nobody. let d = serving c.args.words.now _ _ c.in-Some-Serve.field-0-is tt c.in-Some-Serve.ensures in absurd (nobody.1 d.0 d.1))

pub returns-in-Some-Serve-clause-untouched : goal.returns-in-Some-Serve-clause-untouched
returns-in-Some-Serve-clause-untouched g c = λ one. absurd (⊎_elim (λ e. omega (arith, one, e)) (λ e. let two = e.0 in omega (arith, one, two)) c.serve.ensures.status)

pub returns-in-Some-Serve-clause-read : goal.returns-in-Some-Serve-clause-read
returns-in-Some-Serve-clause-read g c = c.serve.ensures.caused.read

pub returns-in-Some-Serve-clause-write : goal.returns-in-Some-Serve-clause-write
returns-in-Some-Serve-clause-write g c = c.serve.ensures.caused.write

pub returns-in-Some-Serve-clause-asked : goal.returns-in-Some-Serve-clause-asked
returns-in-Some-Serve-clause-asked g c = c.serve.ensures.caused.asked

pub returns-in-Some-Serve-clause-started : goal.returns-in-Some-Serve-clause-started
returns-in-Some-Serve-clause-started g c = c.serve.ensures.caused.started

pub returns-in-Some-Serve-clause-serves : goal.returns-in-Some-Serve-clause-serves
returns-in-Some-Serve-clause-serves g c = λ dir s. c.serve.ensures.serves

pub returns-in-None-clause-usage : goal.returns-in-None-clause-usage
returns-in-None-clause-usage g c = (λ one. c.in-None.ensures, λ nobody. refl)

pub returns-in-None-clause-serves : goal.returns-in-None-clause-serves
returns-in-None-clause-serves g c = λ dir s. absurd (c.in-None.ensures.1 dir s)

pub returns-in-None-clause-complete : goal.returns-in-None-clause-complete
returns-in-None-clause-complete g c = λ r. absurd (c.in-None.ensures.0 r)

pub returns-in-None-clause-refuses : goal.returns-in-None-clause-refuses
returns-in-None-clause-refuses g c = λ r. absurd (c.in-None.ensures.0 r)

pub returns-in-None-clause-fills : goal.returns-in-None-clause-fills
returns-in-None-clause-fills g c = λ r. absurd (c.in-None.ensures.0 r)
