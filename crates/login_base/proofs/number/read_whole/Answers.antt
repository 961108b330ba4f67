use Rattle.std.proofs.Common.{rules, arith, ◌≡◌, sym, ◌∙◌, Some, subst, ap}
use Rattle.std.proofs.lemmas.Result.{IfOk-at_ok}
use Rattle.login_base.specs.inner.Plain.{IsPlain}
use Rattle.login_base.specs.Number.{whole_of}
use Rattle.login_base.proofs.Numbers.{whole_of_none, decimal_IsPlain, whole_is_parsed, decimal_is_parsed, decimal_is_utf8}
use Rattle.login_base.proofs.number.read_whole.Goals as goal

pub returns-then-not-is_plain : goal.returns-then-not-is_plain
returns-then-not-is_plain c = sym (whole_of_none _ (λ n small e. let p = decimal_IsPlain n small in let q : IsPlain c.args.word.now = subst IsPlain (sym e) p in search rules))

pub returns-in-Ok-parse : goal.returns-in-Ok-parse
returns-in-Ok-parse c =
    let same = c.in-Ok.ensures.cases.0 in
    let plain : IsPlain c.args.word.now = search rules in
    let read : whole_of c.in-Ok.text.now ≡ Some c.in-Ok-parse.n = IfOk-at_ok (λ n. whole_of c.in-Ok.text.now ≡ Some n) c.in-Ok-parse.is (whole_is_parsed c.in-Ok.text.now c.parse.result (rw same plain) c.parse.ensures.value.0) in
    sym (ap whole_of (sym same) ∙ read)

pub returns-in-Err-parse : goal.returns-in-Err-parse
returns-in-Err-parse c = sym (whole_of_none _ (λ n small w. decimal_is_parsed 64 c.in-Ok.text.now c.parse.result _ n (omega arith) c.parse.ensures.value.0 c.in-Err-parse.is small (c.in-Ok.ensures.cases.0 ∙ w)))

pub returns-in-Err : goal.returns-in-Err
returns-in-Err c = sym (whole_of_none _ (λ n small w. c.in-Err.ensures.cases.0 (decimal_is_utf8 _ n small w)))
