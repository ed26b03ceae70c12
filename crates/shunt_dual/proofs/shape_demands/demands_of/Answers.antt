use Rattle.std.specs.Prelude.{All, List}
use Rattle.std.proofs.Common.{◌≡◌, ◌+◌, take, subst, sym}
use Rattle.shunt_dual.specs.declared.shape_demands.Demand.{Demand}
use Rattle.shunt_dual.specs.defs.Asks.{IsDemand, shapes_asked}
use Rattle.shunt_dual.proofs.Gathered.{one_demand, all_push}
use Rattle.shunt_dual.proofs.shape_demands.demands_of.Goals as goal

pub loop-shape-preserved : goal.loop-shape-preserved
loop-shape-preserved c =
    let h = c.loop-shape.invariant in
    record {
      shapes = subst (λ (ds : List Demand). shapes_asked ds ≡ take (c.loop-shape.shape-index + 1) c.args.shapes.now) (sym c.in_ok-push.ensures.items)
          (one_demand c.args.shapes.now c.loop-shape.demands.items c.loop-shape.shape-index c.demand_of.result _ c.loop-shape-test.true h.shapes c.demand_of.ensures.shape);
      each = subst (All (IsDemand c.args.instance.now)) (sym c.in_ok-push.ensures.items)
          (all_push (IsDemand c.args.instance.now) c.loop-shape.demands.items c.demand_of.result h.each c.demand_of.ensures.demand);
    }
