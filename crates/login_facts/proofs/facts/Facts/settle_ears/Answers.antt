use Rattle.std.proofs.Common.{refl, sym, subst}
use Rattle.login_facts.specs.Dues.{AreOwed}
use Rattle.login_facts.specs.Facts.{Tables, TablesStand}
use Rattle.login_facts.proofs.Standing.{closed, opened, owing-of, tables-roomy}
use Rattle.login_facts.proofs.facts.Facts.settle_ears.Goals as goal

pub returns-clause-stands : goal.returns-clause-stands
returns-clause-stands c = λ t s.
    let P : Tables → Type 0 = λ f. TablesStand f t in
    let Q : Tables → Type 0 = λ f. AreOwed f.owing t in
    let f = subst P (sym c.self.view_is) (opened c.args.self.now t s) in
    let o = subst Q (sym c.self.view_is) (owing-of c.args.self.now t s) in
    closed _ t (tables-roomy _ _ t f refl refl refl c.settle.ensures.keeps.trail refl refl refl refl refl refl refl refl refl) o
