use Rattle.std.proofs.Common.{ap, refl, None}
use Rattle.login_model.specs.declared.fact.Key.TheVariants.{Taken}
use Rattle.login_model.specs.Devices.{is_handle_fact}
use Rattle.login_model.specs.Names.{session_lt}
use Rattle.login_model.proofs.NameLaws.{session_order, taker_in, taker_keys}
use Rattle.login_table.specs.inner.Places.{keys_at}
use Rattle.login_table.specs.Rows.{RowList}
use Rattle.login_table.proofs.NextRow.{keys-of, next-there, there-of}
use Rattle.login_table.proofs.rows.Rows.next_taker.Goals as goal

pub next_taker-requires : goal.next_taker-requires
next_taker-requires c = keys-of c.self.inside.rows.items c.self.inside.there.list c.self.invariant.0

pub returns : goal.returns
returns c =
    let d = c.args.device in
    next-there session_lt session_order (taker_in d) (λ s. Taken s d) is_handle_fact None (taker_keys d) (λ a x. refl) (keys_at c.self.inside.rows.items c.self.inside.there.list) c.args.self.now.trail
    (there-of c.self.inside.rows.items c.self.inside.there.list c.args.self.now.trail c.self.invariant.0 (ap (λ (v : RowList). v.trail) c.self.view_is)) c.args.above c.next_taker.result c.next_taker.result c.next_taker.ensures refl
