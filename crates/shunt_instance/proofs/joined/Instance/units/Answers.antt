use Rattle.std.proofs.Common.{arith, refl}
use Rattle.shunt_instance.proofs.Looked.{units_counted}
use Rattle.shunt_instance.proofs.joined.Instance.units.Goals as goal

pub returns-clause-few : goal.returns-clause-few
returns-clause-few c = omega (arith, units_counted _ _ _ _ _ _ c.self.invariant.formed c.self.invariant.entries refl)
