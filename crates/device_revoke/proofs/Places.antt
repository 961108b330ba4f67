-- The places of the kinds that have rows of their own.
use Rattle.std.proofs.Common.{◌≡◌, ℕ, ◌==◌, Bool, true, false, cond, refl}
use Rattle.device_revoke.specs.declared.kind.Kind.{Kind}
use Rattle.device_revoke.specs.declared.kind.Kind.TheVariants.{Owners, Lives, Takes, Awaits}
use Rattle.device_revoke.specs.inner.Kinds.{kind_at}
use Rattle.login_table.proofs.Parts.{by-test}

-- the kind by three tests
abbrev among : Bool → Bool → Bool → Kind
among a b d = cond a Owners (cond b Lives (cond d Takes Awaits))

owners-by : (a b d : Bool) → among a b d ≡ Owners → a ≡ true
owners-by true b d e = refl
owners-by false true d e = absurd cc
owners-by false false true e = absurd cc
owners-by false false false e = absurd cc

lives-by : (a b d : Bool) → among a b d ≡ Lives → (a ≡ false) × (b ≡ true)
lives-by true b d e = absurd cc
lives-by false true d e = (refl, refl)
lives-by false false true e = absurd cc
lives-by false false false e = absurd cc

takes-by : (a b d : Bool) → among a b d ≡ Takes → (a ≡ false) × (b ≡ false) × (d ≡ true)
takes-by true b d e = absurd cc
takes-by false true d e = absurd cc
takes-by false false true e = (refl, refl, refl)
takes-by false false false e = absurd cc

awaits-by : (a b d : Bool) → among a b d ≡ Awaits → (a ≡ false) × (b ≡ false) × (d ≡ false)
awaits-by true b d e = absurd cc
awaits-by false true d e = absurd cc
awaits-by false false true e = absurd cc
awaits-by false false false e = (refl, refl, refl)

pub at-owners : (n : ℕ) → kind_at n ≡ Owners → n ≡ 7
at-owners n e = by-test n 7 (owners-by (n == 7) (n == 8) (n == 13) e)

pub at-lives : (n : ℕ) → kind_at n ≡ Lives → ((n == 7) ≡ false) × (n ≡ 8)
at-lives n e = let p = lives-by (n == 7) (n == 8) (n == 13) e in (p.0, by-test n 8 p.1)

pub at-takes : (n : ℕ) → kind_at n ≡ Takes → ((n == 7) ≡ false) × ((n == 8) ≡ false) × (n ≡ 13)
at-takes n e = let p = takes-by (n == 7) (n == 8) (n == 13) e in (p.0, p.1, by-test n 13 p.2)

pub at-awaits : (n : ℕ) → kind_at n ≡ Awaits → ((n == 7) ≡ false) × ((n == 8) ≡ false) × ((n == 13) ≡ false)
at-awaits n e = awaits-by (n == 7) (n == 8) (n == 13) e
