use Rattle.std.proofs.Common.{◌∙◌, arith}
use Rattle.shunt_search.proofs.polisher.polish_around.Goals as goal

pub stand-requires-clause-few : goal.stand-requires-clause-few
stand-requires-clause-few c = c.feasible_lists.ensures.few c.args.instance.now c.args.blocks.now c.station.ensures.formed c.requires

pub sweeps-preserved : goal.sweeps-preserved
sweeps-preserved c =
    let h = c.sweeps.invariant in
    let e = c.sweep.ensures in
    let less = e.cheaper c.sweeps-test.true in
    let before = h.cost in
    record {
      feasible = e.feasible;
      stand = e.stand;
      room = e.room;
      shapes = e.shapes ∙ h.shapes;
      keeps = λ k. e.keeps (h.keeps k);
      cost = omega (arith, less, before);
    }
