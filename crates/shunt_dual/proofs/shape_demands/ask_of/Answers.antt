use Rattle.std.proofs.Common.{refl, arith}
use Rattle.std.proofs.lemmas.Int.{ints}
use Rattle.shunt_blocks.specs.defs.Shapes.{position_from}
use Rattle.shunt_dual.proofs.Demands.{taken_is}
use Rattle.shunt_dual.proofs.shape_demands.ask_of.Goals as goal

pub returns-clause-exact : goal.returns-clause-exact
returns-clause-exact c =
    let taken = taken_is c.args.beta.now c.position_from.result (position_from c.args.instance.now c.args.demand.now.shape) c.args.demand.now.shape.n c.run_sum-taken.result
    c.position_from.ensures.exact c.run_sum-taken.ensures.exact in
    let small = c.run_sum-taken.ensures.small in
    let weight = c.least_weight.ensures.small in
    record {
      first = c.unit_from-first.ensures.exact;
      n = refl;
      weight = c.least_weight.result;
      least = c.least_weight.ensures.exact;
      most = omega (arith, ints, taken, small.low, small.high, weight);
    }
