use Rattle.shunt_blocks.proofs.Times.{unit_is, position_is}
use Rattle.shunt_blocks.proofs.Places.{unit_in, position_in}
use Rattle.shunt_blocks.proofs.laws.places.Goals as goal

pub returns : goal.returns
returns c = record {
  unit = λ night s k h lt. unit_is night s k h lt;
  position = λ night s k h lt. position_is night s k h lt;
  unit_in = λ night s u h has. unit_in night s u h has;
  position_in = λ night s v h has. position_in night s v h has;
}
