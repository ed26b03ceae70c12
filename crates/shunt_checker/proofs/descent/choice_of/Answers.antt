use Rattle.std.proofs.Common.{◌≡◌, ◌<◌, List, length, subst, sym}
use Rattle.shunt_proof.specs.declared.records.Node.{Node}
use Rattle.shunt_proof.specs.defs.Nodes.{node_at}
use Rattle.shunt_checker.proofs.descent.choice_of.Goals as goal

pub choice_at-requires : goal.choice_at-requires
choice_at-requires c = subst (λ (ns : List Node). c.args.k < length ns) (sym c.as_slice.ensures) c.requires

pub returns : goal.returns
returns c = subst (λ (ns : List Node). c.choice_at.result ≡ (node_at ns c.args.k).choice) c.as_slice.ensures c.choice_at.ensures
