use Rattle.std.proofs.Common.{All}
use Rattle.shunt_base.specs.declared.duals.Case.{Case}
use Rattle.shunt_prices.specs.defs.Limits.{AreApart, AreCases}
use Rattle.shunt_tree.proofs.proposal.proposed.Given as goal

abbrev pub invariant-loop-place : goal.invariant-loop-place
invariant-loop-place l = record {
  cases : All (AreCases l.instance) l.stock.items;
  apart : All (All (λ (c : Case). AreApart c.duals.prices)) l.stock.items;
}
