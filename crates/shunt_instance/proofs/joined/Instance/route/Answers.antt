use Rattle.std.proofs.Common.{subst}
use Rattle.shunt_instance.specs.defs.Instance.{IsOrderedNight}
use Rattle.shunt_instance.proofs.Looked.{cost_read, cost_bound, cost_open}
use Rattle.shunt_instance.proofs.joined.Instance.route.Goals as goal

pub returns-clause-cost : goal.returns-clause-cost
returns-clause-cost c = cost_bound c.args.self.now c.args.platform c.args.track c.args.side _ (subst IsOrderedNight c.self.view_is c.self.invariant.formed)
    (cost_read _ _ _ c.args.platform c.args.track c.args.side _ _ c.self.view_is c.self.invariant.formed c.self.invariant.route_costs c.requires.platform c.requires.track
    c.route_cell.ensures.exact c.index.ensures)

pub returns-clause-open_at : goal.returns-clause-open_at
returns-clause-open_at c = cost_open c.args.self.now c.args.platform c.args.track c.args.side _ (subst IsOrderedNight c.self.view_is c.self.invariant.formed)
    (cost_read _ _ _ c.args.platform c.args.track c.args.side _ _ c.self.view_is c.self.invariant.formed c.self.invariant.route_costs c.requires.platform c.requires.track
    c.route_cell.ensures.exact c.index.ensures)
