use Rattle.std.proofs.Common.{rules, ◌≡◌, ℕ, ◌≤◌, ◌∷◌, List, Some, length, take, drop, ap, sym, ◌∙◌, refl, arith, length-take-le}
use Rattle.std.proofs.lemmas.List.{take_at}
use Rattle.login_edge.specs.Scripts.{due, bytes_due}
use Rattle.login_edge.specs.inner.Scripts.{left_of}
use Rattle.login_edge.specs.LinkInMemory.{size_due}
use Rattle.login_edge.proofs.Dues.{bytes_due-due, bytes_due-piece}
use Rattle.login_edge.specs.declared.script.Turn.TheVariants.{Piece}
use Rattle.login_edge.proofs.mem_link.hear_next.Goals as goal

pub returns-in-Quiet-clause-gives : goal.returns-in-Quiet-clause-gives
returns-in-Quiet-clause-gives c =
    let e = c.in-Quiet.ensures in
    ap Some (ap (λ (p : List ℕ). bytes_due (due (Piece p ∷ c.next.new.self.turns))) e.1 ∙ bytes_due-due c.next.new.self.turns ∙ sym (ap bytes_due e.0))

pub returns-in-Quiet-clause-fails : goal.returns-in-Quiet-clause-fails
returns-in-Quiet-clause-fails c =
    let none : size_due (left_of c.args.script.now) (length c.args.buf.now) ≡ 0 = ap (λ ts. size_due ts (length c.args.buf.now)) c.in-Quiet.ensures.0 in
    ((λ e. search rules), (λ h. absurd (omega (arith, none, h, c.requires.fits))))

pub returns-in-End-clause-fails : goal.returns-in-End-clause-fails
returns-in-End-clause-fails c =
    let none : size_due (left_of c.args.script.now) (length c.args.buf.now) ≡ 0 = ap (λ ts. size_due ts (length c.args.buf.now)) c.in-End.ensures.0 in
    ((λ e. search rules), (λ h. absurd (omega (arith, none, h, c.requires.fits))))

pub returns-else-room-count-clause-gives : goal.returns-else-room-count-clause-gives
returns-else-room-count-clause-gives c =
    let n = c.min-count.result in
    let p = c.next.new.self.piece in
    let small : n ≤ length c.args.buf.now = omega arith in
    let within : n ≤ length p = omega (arith, c.min-count.ensures, ap length c.piece.ensures) in
    let len : length (take n c.args.buf.now) ≡ n = length-take-le n c.args.buf.now small in
    let is : c.give.new.buf ≡ take n p = c.give.ensures.given ∙ ap (λ (k : ℕ). take k p) len in
    let size : length c.give.new.buf ≡ n = ap length is ∙ length-take-le n p within in
    let rest : c.give.new.self.piece ≡ drop n p = c.give.ensures.piece ∙ ap (λ (k : ℕ). drop k p) len in
    ap Some (ap bytes_due c.in-Piece.ensures.0 ∙ bytes_due-piece p n c.next.new.self.turns
    ∙ rw (take_at c.give.new.buf (drop n c.args.buf.now) n size, is, rest, c.give.ensures.turns) refl)
