use Rattle.std.proofs.Common.{◌++◌}
use Rattle.shunt_blocks.specs.defs.Lists.{placed}
use Rattle.shunt_blocks.specs.defs.Pins.{singles}
use Rattle.shunt_blocks.proofs.Matched.{plan_matching}
use Rattle.shunt_blocks.proofs.Started.{opening_feasible}
use Rattle.shunt_blocks.proofs.laws.matchings.Goals as goal

pub returns : goal.returns
returns c = record {
  of_plan = λ night blocks h. let m = plan_matching night blocks h in (m.place, m.is);
  of_rest = λ night pins place is usable rest.
      let m = plan_matching night (placed (pins ++ singles night pins place)) (opening_feasible night pins place is usable rest) in
      (m.place, m.is);
}
