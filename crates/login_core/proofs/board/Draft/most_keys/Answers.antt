use Rattle.std.proofs.Common.{◌≡◌, ◌+◌, ◌*◌, ℕ, Bool, true, false, cond, length, arith}
use Rattle.login_model.specs.Where.{sessions}
use Rattle.login_laws.specs.Amounts.{OfOthers, OfTaken}
use Rattle.login_laws.specs.Few.{most_taken}
use Rattle.login_laws.specs.Keys.{kills_all}
use Rattle.login_laws.specs.Need.{asks_to_turn, may_switch}
use Rattle.login_core.proofs.board.Draft.most_keys.Goals as goal

none-of : (b : Bool) (n : ℕ) → cond b (0 * n) 0 ≡ 0
none-of true n = omega arith
none-of false n = omega arith

one-of : (b : Bool) (n : ℕ) → cond b (1 * n) 0 ≡ cond b n 0
one-of true n = omega arith
one-of false n = omega arith

none : (b : Bool) → ◌≡◌ {A = ℕ} (cond b 0 0) 0
none true = omega arith
none false = omega arith

split : (b : Bool) (m n : ℕ) → cond b (m + n) 0 ≡ cond b m 0 + cond b n 0
split true m n = omega arith
split false m n = omega arith

pub returns-clause-value : goal.returns-clause-value
returns-clause-value c OfTaken h =
    (let t = c.args.self.now.trail in
    let e = c.args.event.now in
    let m = most_taken t in
    let signals = none-of (kills_all e) (length (sessions t)) in
    let switch = split (may_switch t e) (2 * (m + 1)) 0 in
    let rest = none (may_switch t e) in
    let turn = c.keys_of_turn.ensures.value h in
    let back = c.keys_brought_back.ensures.value h in
    omega arith)
returns-clause-value c OfOthers h =
    (let t = c.args.self.now.trail in
    let e = c.args.event.now in
    let m = most_taken t in
    let signals = one-of (kills_all e) (length (sessions t)) in
    let turn = none-of (asks_to_turn e) m in
    let switch = split (may_switch t e) (0 * (m + 1)) 2 in
    let back = none-of (may_switch t e) (m + 1) in
    let sent = c.keys_of_signals.ensures.value in
    let beside = c.keys_of_switch.ensures.value in
    omega arith)
