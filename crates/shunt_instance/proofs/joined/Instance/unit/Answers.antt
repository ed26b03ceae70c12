use Rattle.shunt_instance.proofs.Looked.{unit_read}
use Rattle.shunt_instance.proofs.joined.Instance.unit.Goals as goal

pub returns-clause-facts : goal.returns-clause-facts
returns-clause-facts c = unit_read _ _ _ _ _ _ _ _ c.self.view_is c.self.invariant.formed c.self.invariant.entries c.requires c.index.ensures
