use Rattle.std.proofs.Common.{sym, arith}
use Rattle.shunt_dual.specs.defs.Tables.{cost_at, at}
use Rattle.shunt_dual.proofs.Sums.{total_none, total_more}
use Rattle.shunt_dual.proofs.table.cost_of.Goals as goal

pub loop-r-init : goal.loop-r-init
loop-r-init c = record {
  sum = sym (total_none (cost_at c.args.table.now c.args.n) c.args.place.now);
  small = omega arith;
}

pub loop-r-preserved : goal.loop-r-preserved
loop-r-preserved c =
    let r = c.loop-r.r in
    let inside = c.requires.place.below r c.loop-r-test.true in
    let here = c.cost_row.ensures.value (at c.args.place.now r) inside in
    record {
      sum = omega (arith, c.loop-r.invariant.sum, here, total_more (cost_at c.args.table.now c.args.n) r c.args.place.now (omega (arith, c.requires.place.rows)));
      small = omega (arith, c.loop-r.invariant.small, here, c.requires.table.low r (at c.args.place.now r) c.loop-r-test.true inside);
    }
