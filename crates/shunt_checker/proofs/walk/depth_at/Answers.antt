use Rattle.std.proofs.Common.{◌≡◌, ◌≤◌, ◌<◌, List, length, subst, sym, arith}
use Rattle.shunt_proof.specs.declared.records.Node.{Node}
use Rattle.shunt_proof.specs.defs.Nodes.{node_at, FitsNode}
use Rattle.shunt_proof.specs.defs.Trees.{depth_at}
use Rattle.shunt_checker.proofs.walk.depth_at.Goals as goal

pub depth_of-requires : goal.depth_of-requires
depth_of-requires c = subst (λ (ns : List Node). c.args.k < length ns) (sym c.as_slice.ensures) c.requires.there

pub returns-clause-exact : goal.returns-clause-exact
returns-clause-exact c = subst (λ (ns : List Node). c.depth_of.result ≡ depth_at ns c.args.k) c.as_slice.ensures c.depth_of.ensures.exact

pub returns-clause-small : goal.returns-clause-small
returns-clause-small c =
    let fits : FitsNode c.args.instance.now (node_at c.args.certificate.now.nodes c.args.k) = c.requires.nodes.each c.args.k _ c.requires.there in
    let few : depth_at c.args.certificate.now.nodes c.args.k ≤ 160 = fits.depth in
    let is : c.depth_of.result ≡ depth_at c.args.certificate.now.nodes c.args.k = subst
    (λ (ns : List Node). c.depth_of.result ≡ depth_at ns c.args.k) c.as_slice.ensures c.depth_of.ensures.exact in
    omega (arith, few, is)
