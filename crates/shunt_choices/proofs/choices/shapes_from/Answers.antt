use Rattle.shunt_choices.proofs.Runs.{all_left}
use Rattle.shunt_choices.proofs.choices.shapes_from.Goals as goal

pub returns : goal.returns
returns c = all_left c.args.instance.now c.args.covered.now c.args.u c.reaches-reach.result c.greatest-most.result c.reaches-reach.ensures.exact c.greatest-most.ensures.bound
    (c.greatest-most.ensures.least 8 c.reaches-reach.ensures.few)
