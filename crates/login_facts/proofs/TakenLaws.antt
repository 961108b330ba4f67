-- How many devices a session has taken, after one more mark.
use Rattle.std.proofs.Common.{◌≡◌, ◌≤◌, ◌+◌, ◌==◌, Bool, true, false, cond, Some, None, [], ◌∷◌, length, refl, ap, sym, arith}
use Rattle.login_base.specs.declared.ids.DevNo.{DevNo}
use Rattle.login_base.specs.declared.ids.SessId.{SessId}
use Rattle.login_model.specs.declared.fact.Key.{Key}
use Rattle.login_model.specs.declared.fact.Key.TheVariants as key
use Rattle.login_model.specs.declared.fact.Fact.{Fact}
use Rattle.login_model.specs.declared.mark.Mark.TheVariants.{Set, Say}
use Rattle.login_model.specs.declared.mark.Whom.{Whom}
use Rattle.login_model.specs.declared.mark.Notice.{Notice}
use Rattle.login_model.specs.Devices.{is_handle_fact, is_taken, taken_devices, taken_in}
use Rattle.login_model.specs.Names.{device_lt, names}
use Rattle.login_model.specs.Trail.{Trail, value}
use Rattle.login_model.proofs.NameLaws.{device_order, taken_keys}
use Rattle.login_table.proofs.Listing.{Kind, all, filter-length, kind, names-length}
use Rattle.login_facts.specs.Counts.{one_there}
use Rattle.login_facts.specs.Dues.{taker_at, taker_in}
use Rattle.login_facts.proofs.CountLaws.{count-set}

taken_kind : SessId → Kind DevNo
taken_kind s = kind device_lt device_order (taken_in s) (key.Taken s) is_handle_fact None (taken_keys s)

taken-all : (t : Trail) (s : SessId) → length (taken_devices t s) ≡ length (all (taken_kind s) t)
unfolding taken_devices taken_kind
taken-all t s = refl

there-if : (b n : Bool) (d : DevNo) (r s : SessId) → (r.0 == s.0) ≡ b → one_there (cond b (Some d) None) n ≡ taker_at (cond n (Some r) None) s
there-if true true d r s e = sym (ap (λ (z : Bool). cond z 1 0) e)
there-if false true d r s e = sym (ap (λ (z : Bool). cond z 1 0) e)
there-if true false d r s e = refl
there-if false false d r s e = refl

there-one : (s : SessId) (k : Key) (x : Fact) → one_there (taken_in s k) (is_handle_fact x) ≡ taker_at (taker_in k x) s
there-one s (key.Taken r d) x = there-if (r.0 == s.0) (is_handle_fact x) d r s refl
there-one s _ x = refl

pub taken-set : (k : Key) (y : Fact) (t : Trail) (s : SessId)
    → length (taken_devices (Set k y ∷ t) s) + taker_at (taker_in k (value t k)) s ≡ length (taken_devices t s) + taker_at (taker_in k y) s
unfolding taken_kind
taken-set k y t s =
    let moved = count-set (taken_kind s) k y t in
    let a = taken-all t s in
    let b = taken-all (Set k y ∷ t) s in
    let left = there-one s k (value t k) in
    let came = there-one s k y in
    omega arith

pub taken-say : (w : Whom) (n : Notice) (t : Trail) (s : SessId) → length (taken_devices (Say w n ∷ t) s) ≡ length (taken_devices t s)
unfolding taken_devices names value
taken-say w n t s = refl

pub taken-none : (s : SessId) → length (taken_devices [] s) ≡ 0
unfolding taken_devices names
taken-none s = refl

pub taken-bound : (t : Trail) (s : SessId) → length (taken_devices t s) ≤ length t
unfolding taken_devices
taken-bound t s =
    let few = filter-length (is_taken t s) (names device_lt (taken_in s) t) in
    let most = names-length device_lt (taken_in s) t in
    omega arith

-- no more and no fewer, where the setting tells nothing of it
pub taken-same : (k : Key) (y : Fact) (t : Trail) (s : SessId) → ((x : Fact) → taker_at (taker_in k x) s ≡ 0) → length (taken_devices (Set k y ∷ t) s) ≡ length (taken_devices t s)
taken-same k y t s none = (let moved = taken-set k y t s in let a = none (value t k) in let b = none y in omega arith)
