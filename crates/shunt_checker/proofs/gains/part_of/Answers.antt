use Rattle.shunt_checker.proofs.Longer.{unparked}
use Rattle.shunt_checker.proofs.gains.part_of.Goals as goal

pub returns-in_default-clause-exact : goal.returns-in_default-clause-exact
returns-in_default-clause-exact c = unparked c.args.instance.now c.args.case.now.duals.prices c.args.shape c.args.park c.in_default.is
