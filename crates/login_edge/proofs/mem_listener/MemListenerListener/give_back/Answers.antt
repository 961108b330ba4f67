use Rattle.std.proofs.Common.{◌≡◌, ◌-◌, ◌<◌, List, Some, ap, refl, ◌∙◌, length}
use Rattle.std.proofs.lemmas.Option.{slice_get_read}
use Rattle.std.specs.List.{slice_get}
use mathlib.Core.List.{map}
use Rattle.login_edge.specs.ListenerInMemory.{ListenerState}
use Rattle.login_edge.specs.Register.{Arrived, given_back}
use Rattle.login_edge.specs.LinkInMemory.{LinkState}
use Rattle.login_edge.specs.inner.Slots.{arrived}
use Rattle.login_edge.proofs.SlotLaws.{map-put_back, register, slot_within}
use Rattle.login_edge.proofs.mem_listener.MemListenerListener.give_back.Goals as goal

pub returns-clause-tells : goal.returns-clause-tells
returns-clause-tells c =
    let k = c.args.c.0 - 1 in
    let links : map arrived c.self.inside.slots.items ≡ c.args.self.now.register.links = ap (λ (s : ListenerState). s.register.links) c.self.view_is in
    let there : slice_get (map arrived c.self.inside.slots.items) k ≡ Some c.requires.out.arrived = rw links c.requires.out.came in
    let within : k < length c.self.inside.slots.items = slot_within c.self.inside.slots.items k c.requires.out.arrived there in
    let slot = slice_get_read c.self.inside.slots.items (length c.self.inside.slots.items) k c.index_mut.result.now refl within c.index_mut.ensures.value in
    ap (λ (t : List (Arrived LinkState)). Some (register c.self.inside.asked c.self.inside.closed t)) (map-put_back c.self.inside.slots.items k c.index_mut.result.now c.args.link slot)
    ∙ ap (λ (s : ListenerState). Some (given_back c.args.c.0 c.args.link s.register)) c.self.view_is
