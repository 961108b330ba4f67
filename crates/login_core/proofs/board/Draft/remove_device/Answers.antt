use Rattle.std.proofs.Common.{◌≡◌, ◌∙◌, ℕ, List, Option, ap, refl, sym, subst, arith}
use Rattle.login_base.specs.declared.ids.DevNo.{DevNo}
use Rattle.login_model.specs.declared.fact.Fact.TheVariants.{Absent, Number}
use Rattle.login_model.specs.declared.fact.Key.TheVariants.{Dev, Mode}
use Rattle.login_model.specs.Facts.{graphics_seat}
use Rattle.login_model.specs.Procedure.{each, revoke}
use Rattle.login_model.specs.Taking.{lose_seat, remove_device, takers}
use Rattle.login_model.specs.Trail.{Trail, put, value}
use Rattle.login_laws.proofs.Carried.{each-carried, put-behind, revoke-carried}
use Rattle.login_laws.proofs.Widens.{lose_seat-widens}
use Rattle.login_laws.proofs.Tame.{Tame, tame}
use Rattle.login_core.specs.inner.Draft.{DraftState, with_trail, marked_by}
use Rattle.login_core.specs.inner.HandedOn.{graphics_fact}
use Rattle.login_core.proofs.Growing.{fits, trails}
use Rattle.login_core.proofs.TextsKept.{closing-later}
use Rattle.login_core.proofs.HandedOn.{lost}
use Rattle.login_core.proofs.board.Draft.remove_device.Goals as goal

-- the device is absent, and gone from sessions
abbrev dropped : DevNo → Trail → Trail
dropped d t = put (Mode d) (Number 0) (put (Dev d) Absent (each (λ s u. revoke s d u) (takers t d) t))

dropped-tame : (d : DevNo) (t : Trail) → Tame t (dropped d t)
dropped-tame d t =
    let a = each (λ s u. revoke s d u) (takers t d) t in
    let b = put (Dev d) Absent a in
    put-behind tame (Mode d) (Number 0) refl t b
    (put-behind tame (Dev d) Absent refl t a (each-carried tame (λ s u. revoke s d u) (λ s u. revoke-carried tame s d u) (takers t d) t))

-- what the seat of the device loses is what its fact says
handed-on : (d : DevNo) (o : Option (List ℕ)) (m n : DraftState) → o ≡ graphics_seat (value m.trail (Dev d)) → n ≡ marked_by (dropped d) m → marked_by (lose_seat (graphics_fact o)) n ≡ marked_by (remove_device d) m
unfolding remove_device
handed-on d o m n e q =
    let t = m.trail in
    ap (marked_by (lose_seat (graphics_fact o))) q
    ∙ ap (with_trail m) (ap (λ (x : Option (List ℕ)). lose_seat (graphics_fact x) (dropped d t)) e ∙ lost (value t (Dev d)) (dropped d t))

pub drop_device-requires : goal.drop_device-requires
unfolding remove_device
drop_device-requires c =
    let d = c.args.device in
    let t = c.args.self.now.trail in
    let g = lose_seat-widens (value t (Dev d)) (dropped d t) in
    record { room = λ r. (let n = g r in let h = c.requires.room r in omega arith) }

pub lose_seat-requires-clause-copies : goal.lose_seat-requires-clause-copies
lose_seat-requires-clause-copies c =
    let t = c.args.self.now.trail in
    let P : Trail → Type 0 = Tame t in
    let p = subst P (sym (trails c.drop_device.ensures.marked)) (dropped-tame c.args.device t) in
    closing-later c.args.closing.now.items t c.drop_device.new.self.trail p.sessions c.requires.copies

pub lose_seat-requires-clause-room : goal.lose_seat-requires-clause-room
lose_seat-requires-clause-room c =
    let m = c.args.self.now in
    let n = c.drop_device.new.self in
    let e = c.graphics_seat-graphics.ensures ∙ ap graphics_seat c.fact.ensures in
    fits _ _ m n (handed-on c.args.device c.graphics_seat-graphics.result m n e c.drop_device.ensures.marked) c.requires.room

pub returns-clause-marked : goal.returns-clause-marked
returns-clause-marked c =
    let e = c.graphics_seat-graphics.ensures ∙ ap graphics_seat c.fact.ensures in
    c.lose_seat.ensures.marked ∙ handed-on c.args.device c.graphics_seat-graphics.result c.args.self.now c.drop_device.new.self e c.drop_device.ensures.marked
