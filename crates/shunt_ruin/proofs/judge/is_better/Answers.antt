use Rattle.shunt_ruin.proofs.judge.is_better.Goals as goal

pub cost-requires-2-clause-few : goal.cost-requires-2-clause-few
cost-requires-2-clause-few c = c.feasible_lists.ensures.few c.args.instance.now c.args.plan.now c.units.ensures.formed c.requires.feasible
