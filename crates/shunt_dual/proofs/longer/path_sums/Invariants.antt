use Rattle.std.specs.Prelude.{All, pos}
use Rattle.std.proofs.Common.{◌≡◌, ℕ, ◌<◌, length, get_or}
use Rattle.shunt_prices.specs.defs.Sums.{IsWithin}
use Rattle.shunt_prices.specs.defs.Bounds.{case_sum}
use Rattle.shunt_dual.proofs.longer.path_sums.Given as goal

abbrev pub invariant-cases : goal.invariant-cases
invariant-cases l = record {
  many : length l.sums.items ≡ l.k;
  small : All (IsWithin 4010000000000000000) l.sums.items;
  each : (j : ℕ) → j < l.k → get_or l.sums.items j (pos 0) ≡ case_sum l.instance l.path.blocks l.cases j;
}
