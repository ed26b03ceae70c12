use Rattle.std.proofs.Common.{ap, subst, arith}
use Rattle.shunt_instance.specs.defs.Instance.{Night, IsOrderedNight}
use Rattle.shunt_instance.proofs.Looked.{positions_few, first_read, position_room}
use Rattle.shunt_instance.proofs.joined.Instance.first_position.Goals as goal

pub returns-clause-within : goal.returns-clause-within
returns-clause-within c = omega (
  arith,
  first_read _ _ _ _ _ (ap (λ (n : Night). n.depart) c.self.view_is) c.self.invariant.positions_before c.requires c.index.ensures,
  position_room c.args.self.now c.args.train.0 c.requires,
)

pub returns-clause-few : goal.returns-clause-few
returns-clause-few c = positions_few c.args.self.now (subst IsOrderedNight c.self.view_is c.self.invariant.formed)
