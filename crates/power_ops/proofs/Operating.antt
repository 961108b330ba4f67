-- What is read of a fact does what the fact does.
use Rattle.std.proofs.Common.{◌≡◌, ℕ, Bool, true, false, List, [], ◌∷◌, ◌++◌, ap, ◌∙◌}
use Rattle.login_model.specs.Power.{ask_operation, end_operation, job_done, prepare, settle_operation, start}
use Rattle.login_model.specs.Trail.{Trail, put, value}
use Rattle.login_model.specs.Where.{now}
use Rattle.login_model.specs.declared.conf.Conf.{Conf}
use Rattle.login_model.specs.declared.fact.Fact.{Fact}
use Rattle.login_model.specs.declared.fact.Fact.TheVariants as fact
use Rattle.login_model.specs.declared.fact.Key.TheVariants as key
use Rattle.login_model.specs.declared.mark.Mark.{Mark}
use Rattle.login_model.specs.declared.mark.Mark.TheVariants.{Say}
use Rattle.login_model.specs.declared.mark.Notice.{Notice}
use Rattle.login_model.specs.declared.mark.Whom.TheVariants.{All}
use Rattle.login_model.specs.declared.operation.OpKind.{OpKind}
use Rattle.login_model.specs.declared.operation.Operation.TheVariants.{Idle, Waiting, Running}
use Rattle.login_table.specs.Appended.{Appends}
use Rattle.login_table.proofs.Appending.{appends-said}

-- a request at a moment that is now
pub asked : (k : OpKind) (skip : Bool) (t : Trail) (m : ℕ) (n : Notice) → m ≡ now t → n ≡ prepare k true → Say All n ∷ put key.Op (fact.Operation (Waiting k (record { 0 = m }) skip)) t ≡ ask_operation k skip t
unfolding ask_operation
asked k skip t m n e q =
    ap (λ (v : ℕ). Say All n ∷ put key.Op (fact.Operation (Waiting k (record { 0 = v }) skip)) t) e
    ∙ ap (λ (v : Notice). Say All v ∷ put key.Op (fact.Operation (Waiting k (record { 0 = now t }) skip)) t) q

pub started : (conf : Conf) (x : Fact) (t : Trail) → x ≡ value t key.Op → start conf x t ≡ settle_operation conf t
unfolding settle_operation
started conf x t e = ap (λ (y : Fact). start conf y t) e

-- the end of the operation that runs
pub appends-end : (k : OpKind) (n : Notice) (t : Trail) (old mid new : List Mark) → n ≡ prepare k false → Appends (put key.Op (fact.Operation Idle)) t old mid → new ≡ mid ++ Say All n ∷ [] → Appends (end_operation (fact.Operation (Running k))) t old new
appends-end k n t old mid new q a e =
    let same = ap (λ (v : Notice). Say All v ∷ put key.Op (fact.Operation Idle) t) q in
    appends-said (put key.Op (fact.Operation Idle)) (end_operation (fact.Operation (Running k))) All n t old mid new same a e

pub ended : (x : Fact) (t : Trail) → x ≡ value t key.Op → end_operation x t ≡ job_done t
unfolding job_done
ended x t e = ap (λ (y : Fact). end_operation y t) e
