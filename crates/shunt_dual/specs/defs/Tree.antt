-- The tree that grows from the row at column n, over columns. `when` is when a column joined it, or n + 1.
use Rattle.std.specs.Prelude.{◌≡◌, ◌≢◌, ◌⊎◌, ℕ, ◌+◌, ◌*◌, ◌<◌, ◌≤◌, List}
use Rattle.shunt_dual.specs.defs.Tables.{at, times}

-- distance is the least slack of a path to a column over the tree's rows, way the row before it on such a path, t the number of columns in the tree
pub record IsGrown (n rows top t : ℕ) (cost : ℕ → ℕ → ℕ) (alpha debt place owner distance way when : List ℕ) : Type 0 where
  pub reach : (c : ℕ) → c < n → (at way c < rows) × (at when (at place (at way c)) < at when c)
  pub path : (c : ℕ) → c < n → at distance c + at alpha (at way c) ≡ at distance (at place (at way c)) + (cost (at way c) c + at debt c)
  pub done : (r c : ℕ) → r < rows → c < n → at when (at place r) < n + 1 → at distance c + at alpha r ≤ at distance (at place r) + (cost r c + at debt c)
  pub order : (b c : ℕ) → b ≤ n → c ≤ n → at when b < n + 1 → at when c ≡ n + 1 → at distance b ≤ at distance c
  pub marks : (c : ℕ) → c ≤ n → (at when c < t) ⊎ (at when c ≡ n + 1)
  pub held : (c : ℕ) → c < n → at when c < n + 1 → at owner c ≢ n + 1
  pub low : (c : ℕ) → c ≤ n → at distance c ≤ 2 * top
  pub root : at when n < n + 1
  pub count : times (n + 1) when + t ≡ n + 1

-- a free column outside the tree, and no other outside is nearer
pub record IsEnd (n c : ℕ) (owner distance when : List ℕ) : Type 0 where
  pub within : c < n
  pub free : at owner c ≡ n + 1
  pub outside : at when c ≡ n + 1
  pub least : (b : ℕ) → b ≤ n → at when b ≡ n + 1 → at distance c ≤ at distance b

-- one column after a row was tried: as it was, or nearer by that row
abbrev pub IsTriedRow : (r own base row debt distance way new_distance new_way : ℕ) → Type 0
IsTriedRow r own base row debt distance way new_distance new_way =
    ((new_distance ≡ distance) × (new_way ≡ way) × (distance + own ≤ base + (row + debt)))
    ⊎ ((new_distance < distance) × (new_way ≡ r) × (new_distance + own ≡ base + (row + debt)))
