use Rattle.std.specs.Prelude.{pos, ◌≤ℤ◌, slice_set, slice_index_or}
use Rattle.std.proofs.Common.{ℤ}
use Rattle.shunt_prices.specs.defs.Limits.{IsValue}
use Rattle.shunt_dual.proofs.Asked.{MetBelow}
use Rattle.shunt_dual.proofs.unit_values.greatest.Given as goal

abbrev pub invariant-loop-ask : goal.invariant-loop-ask
invariant-loop-ask l = record {
  low : slice_index_or l.alpha l.u (pos 0) ≤ℤ l.z;
  high : l.z ≤ℤ pos 999999999999;
  met : MetBelow (slice_set l.alpha l.u l.z) l.asks l.ask-index;
  most : (other : ℤ) → IsValue other → MetBelow (slice_set l.alpha l.u other) l.asks l.ask-index → other ≤ℤ l.z;
}
