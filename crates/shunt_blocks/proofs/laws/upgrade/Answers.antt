use Rattle.shunt_blocks.proofs.Upgrade.{same_block, same_feasible, same_cost, same_total, two_types, lacks_in, lacks_out}
use Rattle.shunt_blocks.proofs.laws.upgrade.Goals as goal

pub returns : goal.returns
returns c = record {
  block = λ night b plain. same_block night b plain;
  feasible = λ night blocks plain. same_feasible night blocks plain;
  cost = λ night b plain within. same_cost night b plain within.runs.arr;
  total = λ night blocks plain within. same_total night blocks plain within;
  types = λ night b plain within. two_types night b plain within.runs;
  route_in = λ night b plain within. lacks_in night b plain within.runs.arr;
  route_out = λ night b. lacks_out night b;
}
