use Rattle.std.specs.Prelude.{IsTrue, ◌↔◌}
use Rattle.std.proofs.Common.{List, subst, sym}
use Rattle.shunt_proof.specs.declared.records.Node.{Node}
use Rattle.shunt_proof.specs.defs.Nodes.{AreNodes}
use Rattle.shunt_proof.specs.defs.Trees.{IsChildOf}
use Rattle.shunt_checker.specs.defs.NodeFaults.{HasTwin}
use Rattle.shunt_checker.proofs.descent.is_twice.Goals as goal

pub has_twin-requires-clause-nodes : goal.has_twin-requires-clause-nodes
has_twin-requires-clause-nodes c = subst (AreNodes c.args.instance.now) (sym c.as_slice.ensures) c.requires.nodes

pub has_twin-requires-clause-child : goal.has_twin-requires-clause-child
has_twin-requires-clause-child c = subst (λ (ns : List Node). IsChildOf ns c.args.above c.args.k) (sym c.as_slice.ensures) c.requires.child

pub returns : goal.returns
returns c = subst (λ (ns : List Node). IsTrue c.has_twin.result ↔ HasTwin ns c.args.k c.args.choice) c.as_slice.ensures c.has_twin.ensures
