use Rattle.std.proofs.Common.{◌≡◌, ◌∙◌, ap, sym, subst, refl, eqb, map, List, ℕ, Option, Some, None}
use Rattle.std.specs.List.{slice_split}
use Rattle.login_policy.specs.Reading.{Saying, saying, saying_of}
use Rattle.login_policy.specs.declared.fault.TableFault.{TableFault}
use Rattle.login_policy.specs.declared.fault.TableFault.TheVariants.{BadLine}
use Rattle.login_policy.specs.Reading.{fault_of}
use Rattle.login_policy.specs.inner.UnderWay.{Takes}
use Rattle.login_policy.proofs.reader.Reader.add.Goals as goal

-- what the words of a line say is what the line says
said : (line : List ℕ) (words : List (List ℕ)) (o : Option Saying) → words ≡ slice_split (λ b. eqb b 32) line → o ≡ saying_of words → o ≡ saying (Some line)
unfolding saying
said line words o e h = h ∙ ap saying_of e

pub returns-in-Some : goal.returns-in-Some
returns-in-Some c =
    let one : Saying = record { name = c.in-Some.name.now; row = c.in-Some.row } in
    let is : Some one ≡ saying (Some c.args.line.now) = said c.args.line.now _ (Some one) (ap (map (λ word. word.now)) c.deref.ensures.value ∙ c.in_ok-words.ensures) c.in-Some.ensures in
    subst (λ (o : Option Saying). Takes c.args.self.now c.give.new.self o c.give.result) is c.give.ensures

pub returns : goal.returns
returns c =
    let is : None ≡ saying (Some c.args.line.now) = said c.args.line.now _ None (ap (map (λ word. word.now)) c.deref.ensures.value ∙ c.in_ok-words.ensures) c.in-None.ensures in
    ap (fault_of c.args.self.now.number c.args.self.now.said) (sym is)
