use Rattle.std.proofs.Common.{◌≡◌, ◌≢◌, ℕ, ◌+◌, ◌<◌, Option, length, sym, subst, IfSome, arith}
use Rattle.std.specs.Option.{option_map}
use Rattle.login_base.specs.declared.ids.Uid.{Uid}
use Rattle.login_edge.specs.Register.{Register, IsOut, accepted, given_back}
use Rattle.login_edge.proofs.Given.{came-is-out, stays-out, stays-out-of}
use Rattle.login_edge.specs.declared.listener.Accepted.TheVariants.{Came}
use Rattle.edge_rows.proofs.listeners.serve_in_reverse.Goals as goal

abbrev IsOutIn : {L : Type 0} → ℕ → Option (Register L) → Type 0
IsOutIn c told = IfSome told (λ r. IsOut c r.links)

-- the link that came is out
newest-is-out : {L : Type 0} (told next : Option (Register L)) (before c : ℕ) (link : L) (uid : Uid)
    → next ≡ option_map (accepted (Came link uid)) told → IfSome told (λ r. length r.links ≡ before) → before + 1 ≡ c → IsOutIn c next
newest-is-out told next before c link uid tells counted is =
    subst (IsOutIn c) (sym tells) (subst (λ (n : ℕ). IsOutIn n (option_map (accepted (Came link uid)) told)) is (came-is-out told before link uid counted))

-- a link stays out while the next one comes and is given back
first-stays-out : {L : Type 0} (told next last : Option (Register L)) (c d : ℕ) (link back : L) (uid : Uid)
    → next ≡ option_map (accepted (Came link uid)) told → last ≡ option_map (given_back d back) next → 0 < d → d ≢ c → IsOutIn c told → IsOutIn c last
first-stays-out told next last c d link back uid came gave first apart out =
    subst (IsOutIn c) (sym gave) (stays-out-of next c d back first apart (subst (IsOutIn c) (sym came) (stays-out told c (Came link uid) out)))

pub give_back-requires-clause-out : goal.give_back-requires-clause-out
give_back-requires-clause-out g c =
    newest-is-out _ _ _ 2 _ _ c.in-Came-accept.ensures.tells (g.N.Listener.counted c.accept.new.self) (omega (arith, c.in-Came.ensures.numbers.1, c.requires))

pub give_back-requires-2-clause-out : goal.give_back-requires-2-clause-out
give_back-requires-2-clause-out g c =
    first-stays-out _ _ _ 1 2 _ _ _ c.in-Came-accept.ensures.tells c.give_back.ensures.tells (omega arith) (λ e. omega (arith, e))
    (newest-is-out _ _ _ 1 _ _ c.in-Came.ensures.tells (g.N.Listener.counted c.args.listener.now) (omega (arith, c.requires)))

pub give_back-requires-clause-number : goal.give_back-requires-clause-number
give_back-requires-clause-number g c = omega (arith, c.say_all-2.ensures.number, c.in-Came-accept.ensures.numbers.0, c.in-Came.ensures.numbers.1, c.requires)

pub give_back-requires-2-clause-number : goal.give_back-requires-2-clause-number
give_back-requires-2-clause-number g c = omega (arith, c.say_all.ensures.number, c.in-Came.ensures.numbers.0, c.requires)
