use Rattle.std.proofs.Common.{◌≡◌, ◌<◌, List, length, subst, sym}
use Rattle.shunt_proof.specs.declared.records.Node.{Node}
use Rattle.shunt_proof.specs.defs.Nodes.{node_at}
use Rattle.shunt_checker.proofs.nodes.kind_of.Goals as goal

pub kind_at-requires : goal.kind_at-requires
kind_at-requires c = subst (λ (ns : List Node). c.args.k < length ns) (sym c.as_slice.ensures) c.requires

pub returns : goal.returns
returns c = subst (λ (ns : List Node). c.kind_at.result ≡ (node_at ns c.args.k).kind) c.as_slice.ensures c.kind_at.ensures
