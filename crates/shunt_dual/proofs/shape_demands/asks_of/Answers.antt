use Rattle.std.proofs.Common.{arith}
use Rattle.std.proofs.lemmas.List.{length-map}
use Rattle.shunt_dual.specs.declared.shape_demands.Demand.{Demand}
use Rattle.shunt_dual.specs.defs.Asks.{shapes_asked}
use Rattle.shunt_dual.proofs.Gathered.{all_asks}
use Rattle.shunt_dual.proofs.shape_demands.asks_of.Goals as goal

pub returns-clause-exact : goal.returns-clause-exact
returns-clause-exact c =
    all_asks c.args.instance.now c.args.beta.now c.args.prices.now (shapes_asked c.args.demands.now) c.loop-demand.demand-index c.loop-demand.asks.items
    (omega (arith, length-map c.args.demands.now (λ (d : Demand). d.shape), c.loop-demand-test.false, c.loop-demand.auto.demand-index-end)) c.loop-demand.invariant.asks
