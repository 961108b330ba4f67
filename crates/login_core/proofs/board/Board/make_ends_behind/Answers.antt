use Rattle.std.proofs.Common.{◌≡◌, ◌||◌, Ok, Err, OnOk, Result, sym}
use Rattle.login_base.specs.declared.ids.ConnId.{ConnId}
use Rattle.login_laws.specs.Shares.{concerns}
use Rattle.login_core.specs.inner.Concerning.{is_named}
use Rattle.login_core.proofs.EndRooms.{wide-both, wide-then, widened-again}
use Rattle.login_core.proofs.board.Board.make_ends_behind.Goals as goal

-- what holds in any case holds where it went well
when : {A : Type 0} {E : Type 0} {P : Type 0} (r : Result A E) → P → OnOk r P
when (Ok a) p = p
when (Err e) p = tt

pub returns-in_err-widen_ends-2-clause-same : goal.returns-in_err-widen_ends-2-clause-same
returns-in_err-widen_ends-2-clause-same c =
    widened-again c.args.self.now c.widen_ends.new.self c.widen_ends-2.new.self c.widen_ends.ensures.same c.widen_ends-2.ensures.same

pub returns-clause-same : goal.returns-clause-same
returns-clause-same c =
    let old = c.args.self.now in
    let m = c.widen_ends-2.new.self in
    widened-again old m c.prepare_end.new.self (widened-again old c.widen_ends.new.self m c.widen_ends.ensures.same c.widen_ends-2.ensures.same) c.prepare_end.ensures.same

pub returns-clause-wide : goal.returns-clause-wide
returns-clause-wide c =
    let old = c.args.self.now in
    let t = old.draft.trail in
    let e = c.args.event.now in
    let m = c.widen_ends-2.new.self in
    let n = c.prepare_end.new.self in
    let touched = c.touched-touched in
    let active = c.active_holders-active in
    let is = λ (d : ConnId). (let z : concerns t e d ≡ (is_named d touched.result || is_named d active.result) = (λ i. sym (touched.ensures d) i || sym (active.ensures d) i) in z) in
    let both = wide-both (λ d. is_named d touched.result) (λ d. is_named d active.result) (λ d. concerns t e d) old c.widen_ends.new.self m is c.widen_ends.ensures.same c.widen_ends-2.ensures.same c.in_ok-widen_ends.ensures.wide c.in_ok-widen_ends-2.ensures.wide in
    let wide = wide-then (λ d. concerns t e d) old m n (widened-again old c.widen_ends.new.self m c.widen_ends.ensures.same c.widen_ends-2.ensures.same) c.prepare_end.ensures.same both in
    when c.prepare_end.result wide
