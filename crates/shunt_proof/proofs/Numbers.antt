-- Versions and their numbers.
use Rattle.std.specs.Prelude.{◌==◌, if◌then◌else◌}
use Rattle.std.proofs.Common.{◌≡◌, ℕ, ◌≤◌, Bool, true, false, refl, arith}
use Rattle.std.proofs.lemmas.Bool.{eqb-true}
use Rattle.shunt_proof.specs.declared.records.Version.{Version}
use Rattle.shunt_proof.specs.declared.records.Version.TheVariants.{Prices, Stacks}
use Rattle.shunt_proof.specs.defs.Numbers.{number_of, version_with}

pub number_back : (version : Version) → version_with (number_of version) ≡ version
number_back Prices = refl
number_back Stacks = refl

pub number_small : (version : Version) → (1 ≤ number_of version) × (number_of version ≤ 2)
number_small Prices = (omega arith, omega arith)
number_small Stacks = (omega arith, omega arith)

pub number_low : (n : ℕ) → 1 ≤ n → number_of (version_with n) ≤ n
number_low n some = by (n == 2) refl
  where
    by : (b : Bool) → (n == 2) ≡ b → number_of (if b then Stacks else Prices) ≤ n
    by true e = omega (arith, eqb-true n 2 e)
    by false e = some
