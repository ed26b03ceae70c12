use Rattle.std.proofs.Common.{◌≡◌, ◌<◌, List, length, subst, sym}
use Rattle.shunt_proof.specs.declared.records.NodeDuals.TheVariants.{New}
use Rattle.shunt_proof.specs.declared.records.Node.{Node}
use Rattle.shunt_proof.specs.defs.Nodes.{node_at}
use Rattle.shunt_proof.specs.defs.Trees.{duals_at}
use Rattle.shunt_checker.specs.defs.Walks.{AreOwn}
use Rattle.shunt_checker.proofs.Descents.{are_own, one_list}
use Rattle.shunt_checker.proofs.walk.cases_at.Goals as goal

pub own_cases-requires-clause-there : goal.own_cases-requires-clause-there
own_cases-requires-clause-there c = subst (λ (ns : List Node). c.args.owner < length ns) (sym c.as_slice.ensures) c.requires.there

pub own_cases-requires-clause-own : goal.own_cases-requires-clause-own
own_cases-requires-clause-own c =
    subst (λ (ns : List Node). AreOwn (node_at ns c.args.owner).duals) (sym c.as_slice.ensures)
    (are_own (node_at c.args.certificate.now.nodes c.args.owner).duals (duals_at c.args.certificate.now.nodes c.args.j) c.requires.own)

pub returns : goal.returns
returns c =
    one_list (node_at c.args.certificate.now.nodes c.args.owner).duals c.own_cases.result.now (duals_at c.args.certificate.now.nodes c.args.j)
    (subst (λ (ns : List Node). (node_at ns c.args.owner).duals ≡ New c.own_cases.result.now) c.as_slice.ensures c.own_cases.ensures) c.requires.own
