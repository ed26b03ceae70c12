use Rattle.std.proofs.Common.{sym, subst}
use Rattle.shunt_blocks.specs.defs.Lists.{AreInRange}
use Rattle.shunt_plan.proofs.Formed.{pins_formed}
use Rattle.shunt_plan.proofs.pins.read_pins.Goals as goal

pub returns-clause-in_range : goal.returns-clause-in_range
returns-clause-in_range c = subst (AreInRange c.args.instance.now) (sym c.into_vec.ensures) (pins_formed c.args.instance.now _ _ c.in_ok-read.ensures)
