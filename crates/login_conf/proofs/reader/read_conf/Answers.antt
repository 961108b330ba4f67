use Rattle.std.proofs.Common.{ℕ, ◌+◌, ◌<◌, ◌≤◌, List, [], ◌∷◌, length, eqb, Option, Some, None, IfSome, Bor, subst, arith}
use Rattle.std.specs.Option.{option_map_or}
use Rattle.std.specs.List.{slice_split}
use Rattle.login_conf.specs.Reading.{conf_of, diagnostics_of}
use Rattle.login_conf.specs.inner.UnderWay.{IsRead}
use Rattle.login_conf.proofs.reader.read_conf.Goals as goal

-- the lines that are left
left : Option (Bor (List ℕ)) → List (List ℕ)
left rest = option_map_or (λ text. slice_split (λ x. eqb x 10) text.now) rest []

bytes_left : Option (Bor (List ℕ)) → ℕ
bytes_left rest = option_map_or (λ text. length text.now + 1) rest 0

fewer : (rest : Option (Bor (List ℕ))) (n : ℕ) → IfSome rest (λ text. length text.now < n) → bytes_left rest ≤ n
unfolding bytes_left
fewer None n h = omega arith
fewer (Some text) n h = omega (arith, h)

pub loop-rest-preserved : goal.loop-rest-preserved
unfolding left bytes_left
loop-rest-preserved c =
    let conf = conf_of c.args.bytes.now in
    let wrong = diagnostics_of c.args.bytes.now in
    let whole : IsRead c.loop-rest.reader (slice_split (λ x. eqb x 10) c.in-Some.text.now) conf wrong
    = subst (λ (o : Option (Bor (List ℕ))). IsRead c.loop-rest.reader (left o) conf wrong) c.in-Some.is c.loop-rest.invariant.0 in
    let cut : IsRead c.loop-rest.reader (c.cut.result.0.now ∷ left c.cut.result.1) conf wrong
    = subst (λ (lines : List (List ℕ)). IsRead c.loop-rest.reader lines conf wrong) c.cut.ensures.split whole in
    let room : c.loop-rest.reader.number + (length c.in-Some.text.now + 1) ≤ length c.args.bytes.now + 2
    = subst (λ (o : Option (Bor (List ℕ))). c.loop-rest.reader.number + bytes_left o ≤ length c.args.bytes.now + 2) c.in-Some.is c.loop-rest.invariant.1 in
    (c.in_ok-add.ensures.read _ _ _ cut, omega (arith, room, c.in_ok-add.ensures.number, fewer c.cut.result.1 _ c.cut.ensures.shorter))

pub returns-clause-conf : goal.returns-clause-conf
unfolding left
returns-clause-conf c =
    let conf = conf_of c.args.bytes.now in
    let wrong = diagnostics_of c.args.bytes.now in
    c.finish.ensures.conf conf wrong (subst (λ (o : Option (Bor (List ℕ))). IsRead c.loop-rest.reader (left o) conf wrong) c.in_default.is c.loop-rest.invariant.0)

pub returns-clause-diagnostics : goal.returns-clause-diagnostics
unfolding left
returns-clause-diagnostics c =
    let conf = conf_of c.args.bytes.now in
    let wrong = diagnostics_of c.args.bytes.now in
    c.finish.ensures.diagnostics conf wrong (subst (λ (o : Option (Bor (List ℕ))). IsRead c.loop-rest.reader (left o) conf wrong) c.in_default.is c.loop-rest.invariant.0)
