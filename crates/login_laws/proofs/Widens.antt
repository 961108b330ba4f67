-- Each procedure only adds: no fewer marks than before, and no fewer keys that were set.
use Rattle.std.proofs.Common.{◌≡◌, ◌≤◌, ℕ, Bool, true, false, cond, Option, Some, None, List, [], ◌∷◌, length, arith}
use Rattle.login_base.specs.declared.ids.SessId.{SessId}
use Rattle.login_base.specs.declared.ids.Uid.{Uid}
use Rattle.login_base.specs.declared.ids.DevNo.{DevNo}
use Rattle.login_base.specs.declared.ids.HandleNo.{HandleNo}
use Rattle.login_model.specs.Same.{same_fact}
use Rattle.login_model.specs.Trail.{Trail, put, tell_all, value}
use Rattle.login_model.specs.Procedure.{each, force, forget, if_some, in_phase, kill, know, leave, leave_seat, release, resume, revoke, set_phase, shut, take_seat, tell_controller, untake, vacate, yes}
use Rattle.login_model.specs.Creating.{appear_on}
use Rattle.login_model.specs.Taking.{appear_seat, enliven, lose_seat}
use Rattle.login_model.specs.declared.hardware.DevKind.{DevKind}
use Rattle.login_model.specs.declared.mark.Whom.{Whom}
use Rattle.login_model.specs.declared.mark.Whom.TheVariants.{All}
use Rattle.login_model.specs.declared.mark.Mark.TheVariants.{Say, Set}
use Rattle.login_model.specs.declared.mark.Notice.{Notice}
use Rattle.login_model.specs.declared.session.Phase.{Phase}
use Rattle.login_model.specs.declared.session.Phase.TheVariants.{Closing, Gone}
use Rattle.login_model.specs.declared.setup.Setup.{Setup}
use Rattle.login_model.specs.declared.fact.Key.{Key}
use Rattle.login_model.specs.declared.fact.Key.TheVariants as key
use Rattle.login_model.specs.declared.fact.Fact.{Fact}
use Rattle.login_model.specs.declared.fact.Fact.TheVariants as fact
use Rattle.login_laws.specs.Amounts.{Keys, Marks, Resource, amount, keys_in}
use Rattle.login_laws.proofs.Carried.{Carried, Operated, Switched, appear_on-carried, appear_seat-carried, each-carried, enliven-carried, force-carried, forget-carried, if_some-carried, kill-carried, know-carried, leave-carried, leave_seat-carried, lose_seat-carried, release-carried, resume-carried, revoke-carried, shut-carried, take_seat-carried, tell_controller-carried, untake-carried, vacate-carried}

-- no less of each resource than before
abbrev pub Widens : Trail → Trail → Type 0
Widens t u = (r : Resource) → amount r t ≤ amount r u

pub widens-refl : (t : Trail) → Widens t t
widens-refl t = λ r. omega arith

pub widens-trans : (t u v : Trail) → Widens t u → Widens u v → Widens t v
widens-trans t u v p q = λ r. (let a = p r in let b = q r in omega arith)

-- ---- marks

-- one more mark, and one more key or none
pub set-widens : (k : Key) (x : Fact) (t : Trail) (r : Resource) → amount r t ≤ amount r (Set k x ∷ t)
unfolding keys_in
set-widens k x t Marks = omega arith
set-widens k x t (Keys p) = omega arith

pub say-widens : (w : Whom) (n : Notice) (t : Trail) (r : Resource) → amount r t ≤ amount r (Say w n ∷ t)
unfolding keys_in
say-widens w n t Marks = omega arith
say-widens w n t (Keys p) = omega arith

cond-widens : (b : Bool) (t u v : Trail) → Widens t u → Widens t v → Widens t (cond b u v)
cond-widens true t u v p q = p
cond-widens false t u v p q = q

pub put-widens : (k : Key) (x : Fact) (t : Trail) (r : Resource) → amount r t ≤ amount r (put k x t)
unfolding put
put-widens k x t = cond-widens (same_fact (value t k) x) t t (Set k x ∷ t) (widens-refl t) (set-widens k x t)

-- a setting behind what is wider
pub put-behind : (k : Key) (x : Fact) (t u : Trail) → Widens t u → Widens t (put k x u)
put-behind k x t u p = widens-trans t u (put k x u) p (put-widens k x u)

-- carried along all procedures: a law of `Carried` is cited at `widens`. Only the laws that a ruleset names have a line
-- here, since a ruleset takes names alone
abbrev pub widens : Carried
widens = record {
  R = Widens;
  refl = widens-refl;
  trans = widens-trans;
  put = λ k x t e. put-widens k x t;
  say = say-widens;
  closing = λ s t u o p. put-behind (key.Sess s) (in_phase Closing (value u (key.Sess s))) t u p;
  gone = λ s t u p. put-behind (key.Sess s) (in_phase Gone (value u (key.Sess s))) t u p;
}

pub widens-switched : Switched widens
widens-switched = record { awaited = λ s d t. put-widens (key.Awaited s d) yes t; pending = λ x t. put-widens key.Pending x t; vt = λ x t. put-widens key.Vt x t }

pub widens-operated : Operated widens
widens-operated = record { op = λ o t. put-widens key.Op (fact.Operation o) t }

pub each-widens : {A : Type 0} (f : A → Trail → Trail) → ((x : A) (t : Trail) → Widens t (f x t)) → (xs : List A) (t : Trail) → Widens t (each f xs t)
each-widens f step xs t = each-carried widens f step xs t

pub tell_all-widens : (n : Notice) (t : Trail) (r : Resource) → amount r t ≤ amount r (tell_all n t)
tell_all-widens n t = widens.say All n t

pub tell_controller-widens : (x : Fact) (n : Notice) (t : Trail) (r : Resource) → amount r t ≤ amount r (tell_controller x n t)
tell_controller-widens x n t = tell_controller-carried widens x n t

pub kill-widens : (x : Fact) (t : Trail) (r : Resource) → amount r t ≤ amount r (kill x t)
kill-widens x t = kill-carried widens x t

pub untake-widens : (s : SessId) (d : DevNo) (t : Trail) (r : Resource) → amount r t ≤ amount r (untake s d t)
untake-widens s d t = untake-carried widens s d t

pub release-widens : (s : SessId) (t : Trail) (r : Resource) → amount r t ≤ amount r (release s t)
release-widens s t = release-carried widens s t

pub revoke-widens : (s : SessId) (d : DevNo) (t : Trail) (r : Resource) → amount r t ≤ amount r (revoke s d t)
revoke-widens s d t = revoke-carried widens s d t

pub force-widens : (s : SessId) (t : Trail) (r : Resource) → amount r t ≤ amount r (force s t)
force-widens s t = force-carried widens s t

pub resume-widens : (s : SessId) (t : Trail) (r : Resource) → amount r t ≤ amount r (resume s t)
resume-widens s t = resume-carried widens s t

pub set_phase-widens : (s : SessId) (p : Phase) (t : Trail) (r : Resource) → amount r t ≤ amount r (set_phase s p t)
set_phase-widens s p t = put-widens (key.Sess s) (in_phase p (value t (key.Sess s))) t

pub vacate-widens : (seat : List ℕ) (t : Trail) (r : Resource) → amount r t ≤ amount r (vacate seat t)
vacate-widens seat t = vacate-carried widens seat t

pub leave_seat-widens : (s : SessId) (seat : List ℕ) (t : Trail) (r : Resource) → amount r t ≤ amount r (leave_seat s seat t)
leave_seat-widens s seat t = leave_seat-carried widens s seat t

pub shut-widens : (s : SessId) (t : Trail) (r : Resource) → amount r t ≤ amount r (shut s t)
shut-widens s t = shut-carried widens s t

pub take_seat-widens : (seat : List ℕ) (s : SessId) (old : Option SessId) (t : Trail) (r : Resource) → amount r t ≤ amount r (take_seat seat s old t)
take_seat-widens seat s old t = take_seat-carried widens seat s old t

pub know-widens : (u : Uid) (t : Trail) (r : Resource) → amount r t ≤ amount r (know u t)
know-widens u t = know-carried widens u t

pub forget-widens : (u : Uid) (t : Trail) (r : Resource) → amount r t ≤ amount r (forget u t)
forget-widens u t = forget-carried widens u t

pub leave-widens : (U : Setup) (u : Uid) (t : Trail) (r : Resource) → amount r t ≤ amount r (leave U u t)
leave-widens U u t = leave-carried widens U u t

pub appear_on-widens : (o : Option (List ℕ)) (s : SessId) (t : Trail) (r : Resource) → amount r t ≤ amount r (appear_on o s t)
appear_on-widens o s t = appear_on-carried widens o s t

pub enliven-widens : (h : HandleNo) (is_so : Bool) (t : Trail) (r : Resource) → amount r t ≤ amount r (enliven h is_so t)
enliven-widens h is_so t = enliven-carried widens h is_so t

pub appear_seat-widens : (kind : DevKind) (seat : List ℕ) (t : Trail) (r : Resource) → amount r t ≤ amount r (appear_seat kind seat t)
appear_seat-widens kind seat t = appear_seat-carried widens kind seat t

pub lose_seat-widens : (x : Fact) (t : Trail) (r : Resource) → amount r t ≤ amount r (lose_seat x t)
lose_seat-widens x t = lose_seat-carried widens x t
