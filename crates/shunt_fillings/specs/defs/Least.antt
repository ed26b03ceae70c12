-- The least bound of some sums, of cases that are open.
use Rattle.std.specs.Prelude.{◌≡◌, ◌⊎◌, ℕ, ◌+◌, ◌<◌, ℤ, pos, ◌≤ℤ◌, List, length, slice_index_or}
use Rattle.shunt_base.specs.declared.duals.Case.{Case}
use Rattle.shunt_blocks.specs.declared.records.Block.{Block}
use Rattle.shunt_prices.specs.defs.Bounds.{IsOpenAt, IsBoundOf}

-- the bound of an open case by these sums, and at most that of the last case and of each open one before a number
pub record IsLeastBelow (cases : List Case) (path : List Block) (sums : List ℤ) (k : ℕ) (bound : ℤ) : Type 0 where
  pub number : ℕ
  pub opens : IsOpenAt cases path number
  pub is : IsBoundOf (slice_index_or sums number (pos 0)) bound
  pub least : (j : ℕ) (other : ℤ) → (j < k) ⊎ (j + 1 ≡ length cases) → IsOpenAt cases path j → IsBoundOf (slice_index_or sums j (pos 0)) other → bound ≤ℤ other
