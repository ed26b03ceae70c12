use Rattle.shunt_blocks.proofs.Times.{stay_formed}
use Rattle.shunt_blocks.proofs.laws.stays.Goals as goal

pub returns : goal.returns
returns c = record { formed = λ night b h w id. stay_formed night b h w id }
