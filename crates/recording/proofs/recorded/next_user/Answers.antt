use Rattle.std.proofs.Common.{◌≡◌, ℕ, ◌+◌, List, [], ◌∷◌, ◌++◌, take, Option, ap, sym, ◌∙◌, subst, arith}
use Rattle.std.specs.Option.{option_map}
use Rattle.std.proofs.lemmas.List.{take_all, take_more}
use Rattle.login_model.specs.declared.setup.UserRow.{UserRow}
use Rattle.recording.specs.inner.Parts.{IsNextUser, nearer}
use Rattle.recording.proofs.UserOrder.{next_more}
use Rattle.recording.proofs.recorded.next_user.Goals as goal

pub loop-row-preserved : goal.loop-row-preserved
loop-row-preserved c =
    let row : UserRow = c.row-item.result in
    let users : List UserRow = c.args.users.now in
    let i : ℕ = c.loop-row.row-index in
    let last : ℕ = c.args.last.0 in
    let next : Option UserRow = option_map (λ r. r.now) c.loop-row.next in
    let front : take i users ++ row ∷ [] ≡ take (i + 1) users
    = ap (λ (x : UserRow). take i users ++ x ∷ []) c.row-item.is ∙ sym (take_more users i row c.loop-row-test.true) in
    let step : IsNextUser (take (i + 1) users) last (nearer last next row)
    = subst (λ (rows : List UserRow). IsNextUser rows last (nearer last next row)) front (next_more last (take i users) next row c.loop-row.invariant) in
    subst (λ (o : Option UserRow). IsNextUser (take (i + 1) users) last o) (sym c.nearer-next.ensures) step

pub returns : goal.returns
returns c =
    subst (λ (rows : List UserRow). IsNextUser rows c.args.last.0 (option_map (λ r. r.now) c.loop-row.next))
    (take_all c.loop-row.row-index c.args.users.now (omega (arith, c.loop-row-test.false))) c.loop-row.invariant
