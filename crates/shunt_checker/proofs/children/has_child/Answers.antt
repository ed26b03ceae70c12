use Rattle.std.specs.Prelude.{true, false}
use Rattle.std.proofs.Common.{◌≡◌, ◌+◌, refl, ap, ℕ, ◌∙◌, arith}
use Rattle.shunt_checker.proofs.Siblings.{child_laws, none_at_first, none_deeper_at_first, none_more, deeper_more, not_stated, child_found, none_behind, none_of_all}
use Rattle.shunt_checker.proofs.children.has_child.Goals as goal

pub loop-j-init : goal.loop-j-init
loop-j-init c =
    let nodes = c.args.nodes.now in
    let laws = child_laws c.args.instance.now nodes c.requires.nodes c.children.ensures.are c.children.ensures.later c.children.ensures.between in
    record { none = none_at_first nodes laws c.args.k c.args.choice (c.args.k + 1) (omega arith); deeper = none_deeper_at_first nodes laws c.args.k c.args.choice }

pub loop-j-preserved : goal.loop-j-preserved
loop-j-preserved c =
    let nodes = c.args.nodes.now in
    let laws = child_laws c.args.instance.now nodes c.requires.nodes c.children.ensures.are c.children.ensures.later c.children.ensures.between in
    record {
      none = none_more nodes laws c.args.k c.args.choice c.loop-j.j c.loop-j.invariant.none
          (not_stated nodes laws c.args.k c.args.choice c.loop-j.j (c.depth_of-depth.result + 1) c.states_at.result
          (ap (λ (n : ℕ). n + 1) c.depth_of-depth.ensures.exact) c.states_at.ensures c.if-states_at.false);
      deeper = deeper_more nodes laws c.args.k c.args.choice c.loop-j.j c.loop-j.invariant.deeper
          (omega (arith, c.depth_of.ensures.exact, c.depth_of-depth.ensures.exact, c.if-depth_of-depth.false));
    }

pub returns-then-states_at : goal.returns-then-states_at
returns-then-states_at c =
    let nodes = c.args.nodes.now in
    let laws = child_laws c.args.instance.now nodes c.requires.nodes c.children.ensures.are c.children.ensures.later c.children.ensures.between in
    let found = c.states_at.ensures.0 c.if-states_at.true in (
      λ t. child_found nodes laws c.args.k c.args.choice c.loop-j.j (omega arith) (omega (arith, c.loop-j-test.true)) c.loop-j.invariant.deeper
          (found.depth ∙ ap (λ (n : ℕ). n + 1) c.depth_of-depth.ensures.exact) found.same,
      λ h. refl,
    )

pub returns-then-depth_of-depth : goal.returns-then-depth_of-depth
returns-then-depth_of-depth c =
    let nodes = c.args.nodes.now in
    let laws = child_laws c.args.instance.now nodes c.requires.nodes c.children.ensures.are c.children.ensures.later c.children.ensures.between in (
      λ (t : false ≡ true). cc,
      λ h. absurd (none_behind nodes laws c.args.k c.args.choice c.loop-j.j (omega arith)
          (omega (arith, c.depth_of.ensures.exact, c.depth_of-depth.ensures.exact, c.if-depth_of-depth.true)) c.loop-j.invariant.none h),
    )

pub returns : goal.returns
returns c =
    let nodes = c.args.nodes.now in
    let laws = child_laws c.args.instance.now nodes c.requires.nodes c.children.ensures.are c.children.ensures.later c.children.ensures.between in
    (λ (t : false ≡ true). cc, λ h. absurd (none_of_all nodes laws c.args.k c.args.choice c.loop-j.j (omega (arith, c.loop-j-test.false)) c.loop-j.invariant.none h))
