use Rattle.std.proofs.Common.{arith, rules}
use Rattle.shunt_instance.proofs.Cells.{costs_start, costs_back}
use Rattle.shunt_instance.proofs.lookups.cost_table.Goals as goal

pub routes-init : goal.routes-init
routes-init c = record { within = omega arith; table = costs_start c.args.routes.now _ (c.in_ok-costs.ensures.items_if_clones_equal (λ y h. search rules)) }

pub routes-preserved : goal.routes-preserved
routes-preserved c = record {
  within = omega arith;
  table = rw c.route_cell.ensures.exact (costs_back c.args.routes.now c.routes.left c.routes.costs.items _ c.routes-test.true c.routes.invariant.within c.requires
      c.routes.invariant.table);
}
