-- Rows and columns that are paired, while rows are put in one after the other. There are n columns, and one more at n, where the row
-- stands that is put in. An owner n + 1 says that a column is free.
use Rattle.std.specs.Prelude.{◌≡◌, ◌≢◌, ◌⊎◌, ℕ, ◌+◌, ◌<◌, ◌≤◌, List}
use Rattle.shunt_dual.specs.defs.Tables.{at}

-- each of the first rows has a place, which it owns; each column but the hole is free or the place of its owner
pub record IsPaired (n rows hole : ℕ) (place owner : List ℕ) : Type 0 where
  pub placed : (r : ℕ) → r < rows → at place r ≤ n
  pub apart : (r : ℕ) → r < rows → at place r ≢ hole
  pub owned : (r : ℕ) → r < rows → at owner (at place r) ≡ r
  pub back : (c : ℕ) → c ≤ n → c ≢ hole → (at owner c ≡ n + 1) ⊎ ((at owner c < rows) × (at place (at owner c) ≡ c))

-- alpha is at most cost and debt, and as high where a row is placed; a free column has no debt, a row to come no alpha
pub record AreDuals (n rows top : ℕ) (cost : ℕ → ℕ → ℕ) (alpha debt place owner : List ℕ) : Type 0 where
  pub feasible : (r c : ℕ) → r < n → c < n → at alpha r ≤ cost r c + at debt c
  pub tight : (r : ℕ) → r < rows → at place r < n → at alpha r ≡ cost r (at place r) + at debt (at place r)
  pub fresh : (c : ℕ) → c < n → at owner c ≡ n + 1 → at debt c ≡ 0
  pub zero : (r : ℕ) → rows ≤ r → r < n → at alpha r ≡ 0
  pub low : (r : ℕ) → r < n → at alpha r ≤ top
  pub small : (c : ℕ) → c < n → at debt c ≤ top
