use Rattle.shunt_blocks.proofs.Started.{opening_feasible, opening_keeps}
use Rattle.shunt_blocks.proofs.laws.opening_plans.Goals as goal

pub returns : goal.returns
returns c = record {
  feasible = λ night pins place is usable m. opening_feasible night pins place is usable m;
  keeps = λ pins others. opening_keeps pins others;
}
