use Rattle.shunt_search.proofs.known.keep_plan.Goals as goal

pub path_cost-cost-requires-clause-within : goal.path_cost-cost-requires-clause-within
path_cost-cost-requires-clause-within c =
    let in_range = c.feasible_lists.ensures.in_range c.args.instance.now c.args.plan.now c.units.ensures.formed c.requires.feasible in
    λ k d lt. (in_range.each k d lt).within
