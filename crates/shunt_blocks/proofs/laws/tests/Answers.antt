use Rattle.shunt_blocks.proofs.Agreed.{unit_test, position_test, pair_test, option_test}
use Rattle.shunt_blocks.proofs.laws.tests.Goals as goal

pub returns : goal.returns
returns c = record {
  unit = λ night s u. unit_test night s u;
  position = λ night s v. position_test night s v;
  pair = λ night u v. pair_test night u v;
  option = λ night s o low. option_test night s o low;
}
