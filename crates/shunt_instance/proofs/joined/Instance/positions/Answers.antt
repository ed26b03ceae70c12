use Rattle.std.proofs.Common.{arith, refl}
use Rattle.shunt_instance.proofs.Looked.{positions_counted}
use Rattle.shunt_instance.proofs.joined.Instance.positions.Goals as goal

pub returns-clause-few : goal.returns-clause-few
returns-clause-few c = omega (arith, positions_counted _ _ _ _ _ _ c.self.invariant.formed c.self.invariant.entries refl)
