use Rattle.std.proofs.Common.{◌≡◌, ◌≤◌}
use Rattle.shunt_proof.specs.declared.records.NodeDuals.TheVariants.{Same}
use Rattle.shunt_proof.specs.defs.Nodes.{node_at, FitsNode}
use Rattle.shunt_proof.specs.defs.Trees.{duals_at, parent}
use Rattle.shunt_checker.proofs.Looked.{against}
use Rattle.shunt_checker.proofs.Descents.{duals_from, own_is, same_is, same_deep, handed_down, root_flat}
use Rattle.shunt_checker.proofs.walk.owner_of.Goals as goal
use Rattle.shunt_proof.proofs.Depths.{branch_goes as branch_whole}

pub frame_above-requires-clause-deep : goal.frame_above-requires-clause-deep
frame_above-requires-clause-deep c =
    let nodes = c.args.certificate.now.nodes in
    let fits : FitsNode c.args.instance.now (node_at nodes c.args.k) = c.requires.nodes.each c.args.k _ c.requires.there in
    same_deep c.args.instance.now (node_at nodes c.args.k).depth (node_at nodes c.args.k).kind (node_at nodes c.args.k).duals
    (c.has_same.ensures.0 c.if-not-has_same.false) fits.duals

pub returns-then-not-has_same : goal.returns-then-not-has_same
returns-then-not-has_same c = λ other.
    let night = c.args.instance.now in
    let nodes = c.args.certificate.now.nodes in
    let fits : FitsNode night (node_at nodes c.args.k) = c.requires.nodes.each c.args.k _ c.requires.there in
    let from = duals_from nodes c.args.k (λ some. c.parents.ensures.duals night nodes c.args.k c.requires.nodes some c.requires.there)
    (λ some. c.parents.ensures.root_duals night nodes c.requires.nodes some) c.requires.there in
    record {
      there = c.requires.there;
      own = own_is night (node_at nodes c.args.k).depth (node_at nodes c.args.k).kind (node_at nodes c.args.k).duals from.0 (duals_at nodes c.args.k) from.1
          (against c.has_same.result ((node_at nodes c.args.k).duals ≡ Same) c.has_same.ensures c.if-not-has_same.true) fits.duals other;
    }

pub returns : goal.returns
returns c = λ other.
    let night = c.args.instance.now in
    let nodes = c.args.certificate.now.nodes in
    let fits : FitsNode night (node_at nodes c.args.k) = c.requires.nodes.each c.args.k _ c.requires.there in
    let same : (node_at nodes c.args.k).duals ≡ Same = c.has_same.ensures.0 c.if-not-has_same.false in
    let deep = same_deep night (node_at nodes c.args.k).depth (node_at nodes c.args.k).kind (node_at nodes c.args.k).duals same fits.duals in
    let some : 1 ≤ c.args.k = root_flat nodes c.args.k c.requires.nodes.root c.requires.there deep in
    let law = c.parents.ensures.parent night nodes c.args.k c.requires.nodes some c.requires.there in
    handed_down nodes c.args.k (parent nodes c.args.k) c.frame_above.result.owner
    (same_is (node_at nodes c.args.k).duals (duals_at nodes (parent nodes c.args.k)) (duals_at nodes c.args.k)
    (c.parents.ensures.duals night nodes c.args.k c.requires.nodes some c.requires.there) same)
    (c.frame_above.ensures.owner (branch_whole (node_at nodes (parent nodes c.args.k)).kind law.2))
