use Rattle.std.proofs.Common.{List, ℕ, subst}
use Rattle.replay.specs.inner.Telling.{TellsText}
use Rattle.replay.proofs.SaidOfLinks.{has-told, ok-more, told-links}
use Rattle.replay.proofs.telling.tell.Goals as goal

pub returns-clause-gives : goal.returns-clause-gives
returns-clause-gives g c = λ before p m b o.
    subst (λ (t : List ℕ). TellsText (g.K.Sink.held c.args.sink.now) (g.K.Sink.held c.tell_all.new.sink) t c.tell_all.result) (told-links c.args.office.now before p c.args.own.now m b o) c.tell_all.ensures.gives

pub returns-clause-told : goal.returns-clause-told
returns-clause-told g c = λ before p m b o. ok-more c.tell_all.result (λ f. has-told c.args.office.now before p c.args.own.now m b o c.tell_all.new.office f) c.tell_all.ensures.fetched
