use Rattle.std.specs.Prelude.{true, false}
use Rattle.std.proofs.Common.{◌≡◌, refl, ◌∙◌, arith}
use Rattle.shunt_checker.proofs.Siblings.{child_laws, none_at_first, none_more, not_stated, twin_found, no_twin}
use Rattle.shunt_checker.proofs.children.has_twin.Goals as goal

pub loop-j-init : goal.loop-j-init
loop-j-init c =
    let nodes = c.args.nodes.now in
    let laws = child_laws c.args.instance.now nodes c.requires.nodes c.children.ensures.are c.children.ensures.later c.children.ensures.between in
    none_at_first nodes laws c.args.parent c.args.choice c.args.parent (omega arith)

pub loop-j-preserved : goal.loop-j-preserved
loop-j-preserved c =
    let nodes = c.args.nodes.now in
    let laws = child_laws c.args.instance.now nodes c.requires.nodes c.children.ensures.are c.children.ensures.later c.children.ensures.between in
    none_more nodes laws c.args.parent c.args.choice c.loop-j.j c.loop-j.invariant
    (not_stated nodes laws c.args.parent c.args.choice c.loop-j.j c.depth_of-depth.result c.states_at.result
    (c.depth_of-depth.ensures.exact ∙ c.requires.child.depth) c.states_at.ensures c.if-states_at.false)

pub returns-then-states_at : goal.returns-then-states_at
returns-then-states_at c =
    let nodes = c.args.nodes.now in
    let laws = child_laws c.args.instance.now nodes c.requires.nodes c.children.ensures.are c.children.ensures.later c.children.ensures.between in
    let found = c.states_at.ensures.0 c.if-states_at.true in (
      λ t. twin_found nodes laws c.args.parent c.args.k c.requires.child c.args.choice c.loop-j.j (omega arith) (omega (arith, c.loop-j-test.true))
          (found.depth ∙ c.depth_of-depth.ensures.exact) found.same,
      λ h. refl,
    )

pub returns : goal.returns
returns c =
    let nodes = c.args.nodes.now in
    let laws = child_laws c.args.instance.now nodes c.requires.nodes c.children.ensures.are c.children.ensures.later c.children.ensures.between in (
      λ (t : false ≡ true). cc,
      λ h. absurd (no_twin nodes laws c.args.parent c.args.k c.requires.child c.args.choice c.loop-j.j
          (omega (arith, c.loop-j-test.false)) c.loop-j.invariant h),
    )
