-- Plans that cost no more than one that is given.
use Rattle.std.specs.Prelude.{Option, Some, None, IfSome}
use Rattle.std.proofs.Common.{ℕ, ◌≤◌, arith}

pub no_dearer : {A : Type 0} (given : Option A) (cost : A → ℕ) (known now : ℕ) → now ≤ known → IfSome given (λ a. known ≤ cost a) → IfSome given (λ a. now ≤ cost a)
no_dearer None cost known now le h = tt
no_dearer (Some a) cost known now le h = omega (arith, le, h)
