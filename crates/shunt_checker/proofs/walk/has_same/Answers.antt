use Rattle.std.specs.Prelude.{IsTrue, ◌↔◌}
use Rattle.std.proofs.Common.{◌≡◌, ◌<◌, List, length, subst, sym}
use Rattle.shunt_proof.specs.declared.records.NodeDuals.TheVariants.{Same}
use Rattle.shunt_proof.specs.declared.records.Node.{Node}
use Rattle.shunt_proof.specs.defs.Nodes.{node_at}
use Rattle.shunt_checker.proofs.walk.has_same.Goals as goal

pub is_same-requires : goal.is_same-requires
is_same-requires c = subst (λ (ns : List Node). c.args.k < length ns) (sym c.as_slice.ensures) c.requires

pub returns : goal.returns
returns c = subst (λ (ns : List Node). IsTrue c.is_same.result ↔ ((node_at ns c.args.k).duals ≡ Same)) c.as_slice.ensures c.is_same.ensures
