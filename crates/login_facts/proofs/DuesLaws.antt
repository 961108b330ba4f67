-- What is due, and what connections owe behind one more mark.
use Rattle.std.proofs.Common.{◌≡◌, ◌+◌, ◌*◌, ◌∙◌, ℕ, Bool, true, cond, Option, List, [], ◌∷◌, length, ap, refl, sym}
use Rattle.login_base.specs.declared.ids.ConnId.{ConnId}
use Rattle.login_base.specs.declared.ids.SessId.{SessId}
use Rattle.login_model.specs.declared.fact.Key.{Key}
use Rattle.login_model.specs.declared.fact.Key.TheVariants as key
use Rattle.login_model.specs.declared.fact.Fact.{Fact}
use Rattle.login_model.specs.declared.mark.Mark.TheVariants.{Say}
use Rattle.login_model.specs.declared.mark.Whom.{Whom}
use Rattle.login_model.specs.declared.mark.Notice.{Notice}
use Rattle.login_model.specs.Devices.{taken_devices}
use Rattle.login_model.specs.Facts.{controller_in}
use Rattle.login_model.specs.Trail.{Trail, value, was_set}
use Rattle.login_model.specs.Where.{is_session}
use Rattle.login_facts.specs.declared.owing.Charge.{Charge}
use Rattle.login_facts.specs.declared.owing.Owing.{Owing}
use Rattle.login_facts.specs.Dues.{AreOwed, charge_at}
use Rattle.login_facts.specs.Owing.{charge, due_at, keeper}
use Rattle.login_facts.specs.Sums.{has_row, sum_in}
use Rattle.login_facts.proofs.Known.{known-none, known-say}
use Rattle.login_facts.proofs.OwedLaws.{owed-none, owed-say}
use Rattle.login_facts.proofs.TakenLaws.{taken-none, taken-say}

-- ---- what a session makes

pub charge-is : (t : Trail) (c : ConnId) (s : SessId) (x : Charge) (y : Fact) → is_session t s ≡ true → y ≡ value t (key.Ctl s) → x.controller ≡ controller_in y → x.keeper ≡ keeper t s
    → x.taken ≡ length (taken_devices t s) → charge_at x c ≡ charge t c s
charge-is t c s x y there e f k h =
    let g : Bool → Option ConnId → Option ConnId → ℕ → ℕ = λ b o p n. cond b (due_at o (1 + 2 * n) c + due_at p (4 + 2 * n) c) 0 in
    let controller = f ∙ ap controller_in e in
    let yes = sym there in
    λ i. g (yes i) (controller i) (k i) (h i)

-- ---- what is owed

none-set : (k : Key) → was_set [] k ≡ true → ⊥
unfolding was_set
none-set k e = cc

said : (k : Key) (w : Whom) (n : Notice) (t : Trail) → was_set t k ≡ was_set (Say w n ∷ t) k
unfolding was_set
said k w n t = refl

pub owing-none : (owing : Owing) → owing.marks.items ≡ [] → owing.taken.items ≡ [] → AreOwed owing []
owing-none owing e f = record {
  marks = λ c. ap (λ (xs : List (ℕ × ℕ)). sum_in xs c.0) e ∙ sym (owed-none c);
  taken = λ s. ap (λ (xs : List (ℕ × ℕ)). sum_in xs s.0) f ∙ sym (taken-none s);
  known = known-none;
  rows = λ c e. absurd (none-set (key.Conn c) e);
  takers = λ s d e. absurd (none-set (key.Taken s d) e);
}

pub owing-say : (owing : Owing) (w : Whom) (n : Notice) (t : Trail) → AreOwed owing t → AreOwed owing (Say w n ∷ t)
owing-say owing w n t o = record {
  marks = λ c. o.marks c ∙ sym (owed-say w n t c);
  taken = λ s. o.taken s ∙ sym (taken-say w n t s);
  known = known-say w n t o.known;
  rows = λ c e. o.rows c (said (key.Conn c) w n t ∙ e);
  takers = λ s d e. o.takers s d (said (key.Taken s d) w n t ∙ e);
}

pub owing-same : (old new : Owing) (t : Trail) → new.marks.items ≡ old.marks.items → new.taken.items ≡ old.taken.items → AreOwed old t → AreOwed new t
owing-same old new t e f o = record {
  marks = λ c. ap (λ (xs : List (ℕ × ℕ)). sum_in xs c.0) e ∙ o.marks c;
  taken = λ s. ap (λ (xs : List (ℕ × ℕ)). sum_in xs s.0) f ∙ o.taken s;
  known = o.known;
  rows = λ c w. ap (λ (xs : List (ℕ × ℕ)). has_row xs c.0) e ∙ o.rows c w;
  takers = λ s d w. ap (λ (xs : List (ℕ × ℕ)). has_row xs s.0) f ∙ o.takers s d w;
}
