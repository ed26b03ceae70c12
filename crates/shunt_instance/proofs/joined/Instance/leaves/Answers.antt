use Rattle.shunt_instance.proofs.Looked.{leave_read}
use Rattle.shunt_instance.proofs.joined.Instance.leaves.Goals as goal

pub returns-clause-small : goal.returns-clause-small
returns-clause-small c = leave_read _ _ _ _ _ _ _ _ c.self.view_is c.self.invariant.formed c.self.invariant.entries c.requires c.index.ensures
