use Rattle.std.proofs.Common.{ap, subst, arith}
use Rattle.shunt_instance.specs.defs.Instance.{Night, IsOrderedNight}
use Rattle.shunt_instance.proofs.Looked.{units_few, first_read, unit_room}
use Rattle.shunt_instance.proofs.joined.Instance.first_unit.Goals as goal

pub returns-clause-within : goal.returns-clause-within
returns-clause-within c = omega (
  arith,
  first_read _ _ _ _ _ (ap (λ (n : Night). n.arrive) c.self.view_is) c.self.invariant.units_before c.requires c.index.ensures,
  unit_room c.args.self.now c.args.train.0 c.requires,
)

pub returns-clause-few : goal.returns-clause-few
returns-clause-few c = units_few c.args.self.now (subst IsOrderedNight c.self.view_is c.self.invariant.formed)
