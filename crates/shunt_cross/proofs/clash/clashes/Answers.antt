use Rattle.shunt_cross.proofs.Through.{counts}
use Rattle.shunt_cross.proofs.clash.clashes.Goals as goal

pub returns-clause-through : goal.returns-clause-through
returns-clause-through c = counts c.args.lengths.now c.args.stays.now _ _ c.requires.stays c.requires.tracks c.pairs.ensures c.overs.ensures
