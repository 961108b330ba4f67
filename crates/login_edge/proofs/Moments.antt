-- Laws of what a clock in memory tells.
use Rattle.std.proofs.Common.{◌≡◌, ℕ, ◌+◌, List, [], ◌∷◌, ◌++◌, suc, refl, sym, ap, ◌∙◌, arith}
use Rattle.login_base.specs.declared.ids.Millis.{Millis}
use Rattle.login_edge.specs.Faults.{one_more}
use Rattle.login_edge.specs.Readings.{Readings, with_reading}
use Rattle.login_edge.specs.declared.clock.Reading.TheVariants.{At}
use Rattle.login_edge.specs.ClockInMemory.{first_readings, reading_at}

pub first_readings-next : (script : List Millis) (n : ℕ) → first_readings script (n + 1) ≡ first_readings script n ++ (reading_at script n).0 ∷ []
first_readings-next script n = let e : n + 1 ≡ suc n = omega arith in rw e refl

abbrev readings : List ℕ → ℕ → Readings
readings given asked = record { given = given; asked = asked }

-- one reading more
pub tells-next : (script : List Millis) (n asked next : ℕ) (moment : Millis) → moment ≡ reading_at script n → next ≡ one_more asked
    → ◌≡◌ {A = Readings} (record { given = first_readings script (n + 1); asked = next }) (with_reading (At moment) (record { given = first_readings script n; asked = asked }))
tells-next script n asked next moment e f =
    ap (λ (g : List ℕ). readings g next) (first_readings-next script n)
    ∙ ap (λ (m : Millis). readings (first_readings script n ++ m.0 ∷ []) next) (sym e)
    ∙ ap (λ (a : ℕ). readings (first_readings script n ++ moment.0 ∷ []) a) f
