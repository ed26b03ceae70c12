use Rattle.std.proofs.Common.{◌≡◌, All, length}
use Rattle.shunt_prices.specs.defs.Limits.{IsValue}
use Rattle.shunt_ascent.proofs.certificate_cases.alphas_of.Given as goal

abbrev pub invariant-loop-u : goal.invariant-loop-u
invariant-loop-u l = record {
  size : length l.values.items ≡ l.u;
  each : All IsValue l.values.items;
}
