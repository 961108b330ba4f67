use Rattle.std.proofs.Common.{rules, ◌≡◌, ◌-◌, ◌<◌, List, Some, ap, subst, refl, arith, length}
use Rattle.std.proofs.lemmas.Option.{slice_get_read}
use Rattle.std.specs.List.{slice_get}
use Rattle.std.specs.Vec.{vec_len}
use mathlib.Core.List.{map}
use Rattle.login_edge.specs.ListenerInMemory.{ListenerState}
use Rattle.login_edge.specs.LinkInMemory.{LinkState}
use Rattle.login_edge.specs.Register.{Arrived}
use Rattle.login_edge.specs.inner.Slots.{arrived}
use Rattle.login_edge.proofs.SlotLaws.{slice_get-arrived}
use Rattle.login_edge.proofs.mem_listener.MemListener.link.Goals as goal

pub returns-in-Some-clause-back : goal.returns-in-Some-clause-back
returns-in-Some-clause-back c =
    let k = c.args.c.0 - 1 in
    let slot = c.index-slot.result.now in
    let vl : vec_len c.self.inside.slots ≡ length c.self.inside.slots.items = search rules in
    let links : map arrived c.self.inside.slots.items ≡ c.args.self.now.register.links = ap (λ (s : ListenerState). s.register.links) c.self.view_is in
    let within : k < length c.self.inside.slots.items = omega (arith, vl, c.len.ensures, c.if-len-number.false, c.if-number-eq0.false) in
    let there = slice_get_read c.self.inside.slots.items (length c.self.inside.slots.items) k slot refl within c.index-slot.ensures in
    record {
      arrived = arrived slot;
      first = omega (arith, c.if-number-eq0.false);
      came = subst (λ (l : List (Arrived LinkState)). slice_get l k ≡ Some (arrived slot)) links (slice_get-arrived c.self.inside.slots.items k slot there);
      back = c.in-Some.is;
    }
