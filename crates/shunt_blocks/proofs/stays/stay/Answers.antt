use Rattle.shunt_blocks.proofs.Times.{given_formed}
use Rattle.shunt_blocks.proofs.stays.stay.Goals as goal

pub returns-clause-formed : goal.returns-clause-formed
returns-clause-formed c = given_formed c.args.instance.now c.args.block.now c.stay_of.result c.stay_of.ensures.exact c.station.ensures.formed c.requires c.stay_of.ensures.id
