use Rattle.std.proofs.Common.{◌≡◌, ◌+◌, ◌++◌, refl, ap, ◌∙◌, rules, arith}
use Rattle.bus_message.specs.Spelling.{message_bytes}
use Rattle.wire_out.specs.declared.delivery.Delivery.{Delivery}
use Rattle.wire_out.proofs.Delivering.{one_left_out, one_written}
use Rattle.wire_out.proofs.delivery.Delivery.put.Goals as goal
use Rattle.wire_out.proofs.delivery.Delivery.put.Goals.{then-self+in_ok-bytes+in_ok-extend_from_slice, else-self}

pub returns : goal.returns
returns c =
    elim c.if-self.branch [
      | then-self+in_ok-bytes+in_ok-extend_from_slice w ↦
          (let bytes : w.extend_from_slice.new.self.items ≡ c.args.self.now.bytes.items ++ message_bytes (record c.args.message { serial = c.args.self.now.sent + 1 }) = search rules in
          one_written c.args.self.now _ c.args.message (omega (arith, w.if-self.true)) (ap (λ (d : Delivery). d.who) w.self-is) (ap (λ (d : Delivery). d.connected) w.self-is)
          (ap (λ (d : Delivery). d.from) w.self-is) refl (ap (λ (d : Delivery). d.bytes.items) w.self-is ∙ bytes))
      | else-self w ↦
          one_left_out c.args.self.now _ c.args.message (omega (arith, w.if-self.false)) (ap (λ (d : Delivery). d.who) w.self-is) (ap (λ (d : Delivery). d.connected) w.self-is)
          (ap (λ (d : Delivery). d.from) w.self-is) refl (ap (λ (d : Delivery). d.bytes.items) w.self-is)
    ]
