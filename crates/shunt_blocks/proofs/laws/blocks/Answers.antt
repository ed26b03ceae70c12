use Rattle.shunt_blocks.proofs.Sound.{sound}
use Rattle.shunt_blocks.proofs.laws.blocks.Goals as goal

pub returns : goal.returns
returns c = λ night b. sound night b
