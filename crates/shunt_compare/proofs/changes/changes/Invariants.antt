use Rattle.shunt_compare.specs.defs.Changes.{AreBelow, IsChange}
use Rattle.shunt_compare.proofs.changes.changes.Given as goal

abbrev pub invariant-units : goal.invariant-units
invariant-units l = AreBelow (λ c. c.unit) (IsChange l.instance l.was l.now) l.unit l.changes.items
