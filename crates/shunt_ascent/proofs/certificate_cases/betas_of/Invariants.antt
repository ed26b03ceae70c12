use Rattle.std.proofs.Common.{◌≡◌, All, length}
use Rattle.shunt_prices.specs.defs.Limits.{IsValue}
use Rattle.shunt_ascent.proofs.certificate_cases.betas_of.Given as goal

abbrev pub invariant-loop-v : goal.invariant-loop-v
invariant-loop-v l = record {
  size : length l.values.items ≡ l.v;
  each : All IsValue l.values.items;
}
