use Rattle.shunt_prices.specs.defs.Limits.{ArePrices, AreApart}
use Rattle.shunt_ascent.proofs.certificate_cases.prices_of.Given as goal

abbrev pub invariant-loop-place : goal.invariant-loop-place
invariant-loop-place l = record {
  prices : ArePrices l.instance l.prices.items;
  apart : AreApart l.prices.items;
}
