use Rattle.std.proofs.Common.{arith, length-take-le}
use Rattle.bus_auth.proofs.Identities.{identity_long, identity_ok, identity_err}
use Rattle.bus_auth.proofs.command.is_identity.Goals as goal

pub returns-then-count-gt10 : goal.returns-then-count-gt10
returns-then-count-gt10 c =
    (λ h. cc h, λ h. absurd (identity_long c.args.number c.args.text.now (omega arith) c.if-count-gt10.true h))

pub returns-in-Ok : goal.returns-in-Ok
returns-in-Ok c =
    identity_ok c.args.number _ c.args.text.now c.decode_to_slice.new.out c.decode_to_slice.result c.in-Ok.field-0 c.eq.result
    (omega arith) c.decode_to_slice.ensures.value c.in-Ok.is (length-take-le _ _ c.if-count-gt10.false)
    (rw (← c.read_number.ensures) c.eq.ensures)

pub returns-in-Err : goal.returns-in-Err
returns-in-Err c = (
  λ h. cc h,
  λ h. absurd (identity_err c.args.number _ c.args.text.now c.decode_to_slice.new.out c.decode_to_slice.result
      c.in-Err.field-0 (omega arith) c.decode_to_slice.ensures.value c.in-Err.is (length-take-le _ _ c.if-count-gt10.false) h),
)
