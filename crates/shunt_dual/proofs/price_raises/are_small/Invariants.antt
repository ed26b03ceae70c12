use Rattle.std.specs.Prelude.{slice_index_or}
use Rattle.std.proofs.Common.{ℕ, ◌≤◌, ◌<◌}
use Rattle.shunt_base.specs.declared.duals.Price.{Price}
use Rattle.shunt_dual.proofs.price_raises.are_small.Given as goal

abbrev pub invariant-loop-price : goal.invariant-loop-price
invariant-loop-price l = (k : ℕ) (d : Price) → k < l.price-index → (slice_index_or l.prices k d).value ≤ 1000000000
