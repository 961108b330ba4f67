use Rattle.std.proofs.Common.{ap, refl, None}
use Rattle.login_model.specs.declared.fact.Key.TheVariants.{Taken}
use Rattle.login_model.specs.Devices.{taken_in, is_handle_fact}
use Rattle.login_model.specs.Names.{device_lt}
use Rattle.login_model.proofs.NameLaws.{device_order, taken_keys}
use Rattle.login_table.specs.inner.Places.{keys_at}
use Rattle.login_table.specs.Rows.{RowList}
use Rattle.login_table.proofs.NextRow.{keys-of, next-there, there-of}
use Rattle.login_table.proofs.rows.Rows.next_taken.Goals as goal

pub next_taken-requires : goal.next_taken-requires
next_taken-requires c = keys-of c.self.inside.rows.items c.self.inside.there.list c.self.invariant.0

pub returns : goal.returns
returns c =
    let s = c.args.session in
    next-there device_lt device_order (taken_in s) (Taken s) is_handle_fact None (taken_keys s) (λ a x. refl) (keys_at c.self.inside.rows.items c.self.inside.there.list) c.args.self.now.trail
    (there-of c.self.inside.rows.items c.self.inside.there.list c.args.self.now.trail c.self.invariant.0 (ap (λ (v : RowList). v.trail) c.self.view_is)) c.args.above c.next_taken.result c.next_taken.result c.next_taken.ensures refl
