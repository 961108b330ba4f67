use Rattle.std.proofs.Common.{rules, ◌≡◌, ◌+◌, ◌-◌, Some, ap, sym, ◌∙◌, refl, arith, length, min, slice_index_or}
use Rattle.login_base.specs.declared.ids.Millis.{Millis}
use Rattle.login_edge.specs.Faults.{one_more}
use Rattle.login_edge.specs.Readings.{with_reading}
use Rattle.login_edge.specs.declared.clock.Reading.TheVariants.{At}
use Rattle.login_edge.specs.ClockInMemory.{ClockState, reading_at, told_of}
use Rattle.login_edge.proofs.Moments.{tells-next}
use Rattle.login_edge.proofs.mem_clock.MemClockClock.now.Goals as goal

pub returns-clause-reading : goal.returns-clause-reading
returns-clause-reading c =
    let v = c.self.view_is in
    let s : c.self.inside.readings ≡ c.args.self.now.script = ap (λ (s : ClockState). s.script) v in
    let g : c.self.inside.given ≡ c.args.self.now.given = ap (λ (s : ClockState). s.given) v in
    let at : c.min-at.result ≡ min (length c.self.inside.readings - 1) c.self.inside.given = omega (arith, c.min-at.ensures, c.len-last.ensures.value) in
    let r : slice_index_or c.as_slice.result.now c.min-at.result (record { 0 = 0 }) ≡ reading_at c.args.self.now.script c.args.self.now.given =
    rw (c.as_slice.ensures, at, s, g) refl in
    λ moment e. ((let is : slice_index_or c.as_slice.result.now c.min-at.result (record { 0 = 0 }) ≡ moment = search rules in sym is ∙ r), ap (λ n. n + 1) g)

pub returns-clause-tells : goal.returns-clause-tells
returns-clause-tells c =
    let m : Millis = slice_index_or c.as_slice.result.now c.min-at.result (record { 0 = 0 }) in
    let at : c.min-at.result ≡ min (length c.self.inside.readings - 1) c.self.inside.given = omega (arith, c.min-at.ensures, c.len-last.ensures.value) in
    let r : slice_index_or c.as_slice.result.now c.min-at.result (record { 0 = 0 }) ≡ reading_at c.self.inside.readings c.self.inside.given =
    rw (c.as_slice.ensures, at) refl in
    let asked : c.saturating_add-self-inside.result ≡ one_more c.self.inside.asked = search rules in
    ap Some (tells-next c.self.inside.readings c.self.inside.given c.self.inside.asked c.saturating_add-self-inside.result m r asked)
    ∙ ap (λ (s : ClockState). Some (with_reading (At m) (told_of s))) c.self.view_is
