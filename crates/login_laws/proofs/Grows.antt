-- Each procedure only adds marks.
use Rattle.std.proofs.Common.{◌≤◌, Option, Some, None, List, length, arith}
use Rattle.login_base.specs.declared.ids.SessId.{SessId}
use Rattle.login_base.specs.declared.ids.DevNo.{DevNo}
use Rattle.login_model.specs.Trail.{Trail, put, tell_all}
use Rattle.login_model.specs.Procedure.{each, force, if_some, kill, resume, set_phase, tell_controller, untake, yes}
use Rattle.login_model.specs.declared.mark.Notice.{Notice}
use Rattle.login_model.specs.declared.session.Phase.{Phase}
use Rattle.login_model.specs.declared.session.Phase.TheVariants.{Closing, Gone}
use Rattle.login_model.specs.declared.fact.Key.{Key}
use Rattle.login_model.specs.declared.fact.Key.TheVariants as key
use Rattle.login_model.specs.declared.fact.Fact.{Fact}
use Rattle.login_laws.specs.Amounts.{Marks}
use Rattle.login_laws.proofs.Carried.{Carried, Switched, each-carried, if_some-carried}
use Rattle.login_laws.proofs.Widens.{force-widens, kill-widens, put-widens, resume-widens, say-widens, set_phase-widens, tell_all-widens, tell_controller-widens, untake-widens}

-- at least as many marks as before
abbrev pub Grows : Trail → Trail → Type 0
Grows t u = length t ≤ length u

grows-trans : (t u v : Trail) → Grows t u → Grows u v → Grows t v
grows-trans t u v p q = omega arith

pub put-grows : (k : Key) (x : Fact) (t : Trail) → Grows t (put k x t)
put-grows k x t = put-widens k x t Marks

pub phase-behind : (s : SessId) (p : Phase) (t u : Trail) → Grows t u → Grows t (set_phase s p u)
phase-behind s p t u g = grows-trans t u (set_phase s p u) g (set_phase-widens s p u Marks)

pub tell_all-grows : (n : Notice) (t : Trail) → Grows t (tell_all n t)
tell_all-grows n t = tell_all-widens n t Marks

pub tell_controller-grows : (x : Fact) (n : Notice) (t : Trail) → Grows t (tell_controller x n t)
tell_controller-grows x n t = tell_controller-widens x n t Marks

-- growing is carried along all procedures: a law of `Carried` is cited at `grows`. Only the laws that a ruleset names
-- have a line here, since a ruleset takes names alone
abbrev pub grows : Carried
grows = record {
  R = Grows;
  refl = λ t. omega arith;
  trans = λ t u v p q. omega arith;
  put = λ k x t e. put-grows k x t;
  say = λ w n t. say-widens w n t Marks;
  closing = λ s t u o p. phase-behind s Closing t u p;
  gone = λ s t u p. phase-behind s Gone t u p;
}

pub grows-switched : Switched grows
grows-switched = record { awaited = λ s d t. put-grows (key.Awaited s d) yes t; pending = λ x t. put-grows key.Pending x t; vt = λ x t. put-grows key.Vt x t }

pub each-grows : {A : Type 0} (f : A → Trail → Trail) → ((x : A) (t : Trail) → Grows t (f x t)) → (xs : List A) (t : Trail) → Grows t (each f xs t)
each-grows f step xs t = each-carried grows f step xs t

pub if_some-grows : {A : Type 0} (f : A → Trail → Trail) → ((x : A) (t : Trail) → Grows t (f x t)) → (o : Option A) (t : Trail) → Grows t (if_some f o t)
if_some-grows f step o t = if_some-carried grows f step o t

pub kill-grows : (x : Fact) (t : Trail) → Grows t (kill x t)
kill-grows x t = kill-widens x t Marks

pub untake-grows : (s : SessId) (d : DevNo) (t : Trail) → Grows t (untake s d t)
untake-grows s d t = untake-widens s d t Marks

pub force-grows : (s : SessId) (t : Trail) → Grows t (force s t)
force-grows s t = force-widens s t Marks

pub resume-grows : (s : SessId) (t : Trail) → Grows t (resume s t)
resume-grows s t = resume-widens s t Marks
