use Rattle.shunt_blocks.specs.defs.Shapes.{begins_at}
use Rattle.shunt_compare.specs.defs.Changes.{AreBelow, IsRegrouped}
use Rattle.shunt_compare.proofs.regrouped.regrouped.Given as goal

abbrev pub invariant-units : goal.invariant-units
invariant-units l = AreBelow (begins_at l.instance) (IsRegrouped l.was l.now) l.unit l.blocks.items
