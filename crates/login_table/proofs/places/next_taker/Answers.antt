use Rattle.std.proofs.Common.{◌∙◌, sym}
use Rattle.login_model.specs.declared.fact.Key.TheVariants.{Taken}
use Rattle.login_table.specs.inner.Keys.{has}
use Rattle.login_table.specs.inner.Places.{keys_at}
use Rattle.login_table.proofs.NextTaker.{searched-start, searched-more, searched-found, searched-none, searched-less}
use Rattle.login_table.proofs.places.next_taker.Goals as goal

pub loop-session-init : goal.loop-session-init
loop-session-init c = searched-start (λ s. has (Taken s c.args.device) (keys_at c.args.rows.now.items c.args.places.now)) c.args.above

pub returns-then-has : goal.returns-then-has
returns-then-has c =
    searched-found c.args.device (keys_at c.args.rows.now.items c.args.places.now) c.args.above c.loop-session.from c.loop-session.invariant c.in-Some.session c.in-Some.ensures (sym c.has.ensures ∙ c.if-has.true)

pub loop-session-smaller : goal.loop-session-smaller
loop-session-smaller c = searched-less c.loop-session.from c.in-Some.session (keys_at c.args.rows.now.items c.args.places.now) c.in-Some.ensures

pub loop-session-preserved : goal.loop-session-preserved
loop-session-preserved c =
    searched-more c.args.device (keys_at c.args.rows.now.items c.args.places.now) c.args.above c.loop-session.from c.loop-session.invariant c.in-Some.session c.in-Some.ensures (sym c.has.ensures ∙ c.if-has.false)

pub returns : goal.returns
returns c = searched-none c.args.device (keys_at c.args.rows.now.items c.args.places.now) c.args.above c.loop-session.from c.loop-session.invariant c.in_default.ensures
