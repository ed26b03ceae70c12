-- What the shares of a matching add up to, and dual values under the shares.
use Rattle.std.specs.Prelude.{◌≡◌, ℕ, ◌+◌, ◌*◌, ◌<◌, ◌≤◌, ℤ, pos, ◌+ℤ◌, ◌≤ℤ◌, List, [], length, unwrap_or, IfSome, All}
use Rattle.shunt_lists.specs.defs.Below.{sum_below}
use Rattle.shunt_base.specs.declared.duals.Duals.{Duals}
use Rattle.shunt_instance.specs.defs.Instance.{Night, unit_total, position_total}
use Rattle.shunt_instance.specs.defs.Matching.{place_of}
use Rattle.shunt_matching.specs.defs.Nights.{Matches}
use Rattle.shunt_prices.specs.defs.Sums.{sum_z}
use Rattle.shunt_prices.specs.defs.Limits.{IsValue}
use Rattle.shunt_prices.specs.defs.Cases.{alpha_at, beta_at}
use Rattle.shunt_dual.specs.defs.Shares.{Table, share_at, AreShares}

-- the shares of the units with the positions that a list gives them, added up
abbrev pub share_total : Table → List ℕ → ℕ
share_total t place = sum_below (length place) (λ u. unwrap_or (share_at t u (place_of place u)) 0)

-- the values of each matchable pair add up to its share at most
abbrev pub AreUnder : Night → Table → Duals → Type 0
AreUnder night t d = (u v : ℕ) → u < unit_total night → v < position_total night → IfSome (share_at t u v) (λ share. (alpha_at d u +ℤ beta_at d v) ≤ℤ pos share)

-- the shares of a matching add up to this, and those of none to less
pub record IsLeastTotal (night : Night) (t : Table) (total : ℕ) : Type 0 where
  pub place : List ℕ
  pub matches : Matches night place
  pub is : total ≡ share_total t place
  pub least : (other : List ℕ) → Matches night other → total ≤ share_total t other

-- the assignment bound: the least total of shares, divided by 1000 and rounded up
pub record IsAssignmentBound (night : Night) (bound : ℕ) : Type 0 where
  pub table : Table
  pub shares : AreShares night table
  pub total : ℕ
  pub least : IsLeastTotal night table total
  pub enough : total ≤ 1000 * bound
  pub rounded : 1000 * bound < total + 1000

-- a matching, what its shares add up to, and dual values within the limits and under the shares that add up to the same
pub record IsShown (night : Night) (t : Table) (place : List ℕ) (alpha beta : List ℤ) (total : ℤ) : Type 0 where
  pub matches : Matches night place
  pub is : total ≡ pos (share_total t place)
  pub least : (other : List ℕ) → Matches night other → total ≤ℤ pos (share_total t other)
  pub alphas : length alpha ≡ unit_total night
  pub betas : length beta ≡ position_total night
  pub alphas_in : All IsValue alpha
  pub betas_in : All IsValue beta
  pub under : AreUnder night t (record { alpha = alpha; beta = beta; prices = [] })
  pub sum : sum_z (λ z. z) alpha +ℤ sum_z (λ z. z) beta ≡ total
