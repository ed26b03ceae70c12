use Rattle.std.specs.Prelude.{IfNone}
use Rattle.std.proofs.Common.{◌≡◌, ◌≤◌, ℕ, List, ap, subst, sym, ◌∙◌, arith}
use Rattle.shunt_blocks.specs.declared.records.Block.{Block}
use Rattle.shunt_base.specs.declared.duals.Case.{Case}
use Rattle.shunt_proof.specs.defs.Nodes.{node_at, FitsNode}
use Rattle.shunt_proof.specs.defs.Trees.{depth_at, duals_at, parent, path_at}
use Rattle.shunt_proof.specs.defs.Versions.{HoldIn}
use Rattle.shunt_checker.specs.defs.NodeSteps.{Judges}
use Rattle.shunt_checker.specs.defs.Walks.{IsAtNode, IsOwner, Settles, front_of}
use Rattle.shunt_checker.proofs.Looked.{against}
use Rattle.shunt_checker.proofs.Versioned.{hold_longer}
use Rattle.shunt_checker.proofs.Acceptance.{unbroken}
use Rattle.shunt_checker.proofs.Descents.{later, root_at, root_bare, root_from, settled, both_ok, came_down, child_told, child_passed, child_at, hold_below}
use Rattle.shunt_checker.proofs.walk.node_fault.Goals as goal
use Rattle.shunt_proof.proofs.Depths.{branch_goes as branch_whole}

pub returns-then-is_root : goal.returns-then-is_root
returns-then-is_root g c =
    let night = c.args.instance.now in
    let nodes = c.args.certificate.now.nodes in
    let root = c.is_root.ensures.0 c.if-is_root.true in
    let fits : FitsNode night (node_at nodes c.args.k) = c.requires.0.nodes.each c.args.k _ c.requires.1.0 in
    let at : IsAtNode night g.start c.args.certificate.now c.args.k c.args.path.now = record {
      of = c.requires.1.1.0.of;
      path = root_at night g.start nodes c.args.k c.args.path.now.blocks root c.requires.1.1.0.path
          (c.parents.ensures.root_path night g.start nodes c.requires.0.nodes c.requires.0.some);
      through = c.requires.1.1.0.through;
      each = c.requires.1.1.0.each;
      pins = c.requires.1.1.0.pins;
    } in
    let from = root_from night g.start c.args.certificate.now c.args.k root (root_bare night nodes c.args.k root c.requires.0.nodes.root c.requires.1.0 fits) in
    both_ok c.own_fault.result (Judges night c.args.certificate.now c.args.k c.args.path.now.blocks 4 8) (λ r. IfNone r (c.own_fault.new.path ≡ c.args.path.now))
    (Settles night g.start c.args.certificate.now c.args.k c.own_fault.new.path)
    (λ r judged kept. settled night g.start c.args.certificate.now c.args.k c.args.path.now c.own_fault.new.path r at from judged kept) c.own_fault.ensures.found
    c.own_fault.ensures.kept

pub frame_above-frame-requires-clause-deep : goal.frame_above-frame-requires-clause-deep
frame_above-frame-requires-clause-deep g c =
    let some : 1 ≤ c.args.k = later c.args.k (against c.is_root.result (c.args.k ≡ 0) c.is_root.ensures c.if-is_root.false) in
    let law = c.parents.ensures.parent c.args.instance.now c.args.certificate.now.nodes c.args.k c.requires.0.nodes some c.requires.1.0 in
    let depth = law.1 in
    omega (arith, depth)

pub parent_fault-requires-clause-some : goal.parent_fault-requires-clause-some
parent_fault-requires-clause-some g c = later c.args.k (against c.is_root.result (c.args.k ≡ 0) c.is_root.ensures c.if-is_root.false)

pub parent_fault-requires-clause-deep : goal.parent_fault-requires-clause-deep
parent_fault-requires-clause-deep g c =
    let some : 1 ≤ c.args.k = later c.args.k (against c.is_root.result (c.args.k ≡ 0) c.is_root.ensures c.if-is_root.false) in
    let law = c.parents.ensures.parent c.args.instance.now c.args.certificate.now.nodes c.args.k c.requires.0.nodes some c.requires.1.0 in
    let depth = law.1 in
    omega (arith, depth)

pub parent_fault-requires-clause-long : goal.parent_fault-requires-clause-long
parent_fault-requires-clause-long g c =
    let night = c.args.instance.now in
    let nodes = c.args.certificate.now.nodes in
    let some : 1 ≤ c.args.k = later c.args.k (against c.is_root.result (c.args.k ≡ 0) c.is_root.ensures c.if-is_root.false) in
    let law = c.parents.ensures.parent night nodes c.args.k c.requires.0.nodes some c.requires.1.0 in
    let deep : 1 ≤ depth_at nodes c.args.k = (let depth = law.1 in omega (arith, depth)) in
    let came = came_down night g.start c.args.certificate.now c.args.k c.requires.0.nodes some c.requires.1.0
    (λ b d lt le. c.parents.ensures.front night g.start nodes b d c.requires.0.nodes lt le) (λ b lt. c.parents.ensures.size night g.start nodes b c.requires.0.nodes lt)
    deep c.args.path.now c.requires.1.1.0.path c.requires.1.1.0.pins in
    came.0

pub returns-in-Some : goal.returns-in-Some
returns-in-Some g c =
    let night = c.args.instance.now in
    let nodes = c.args.certificate.now.nodes in
    let some : 1 ≤ c.args.k = later c.args.k (against c.is_root.result (c.args.k ≡ 0) c.is_root.ensures c.if-is_root.false) in
    let law = c.parents.ensures.parent night nodes c.args.k c.requires.0.nodes some c.requires.1.0 in
    let deep : 1 ≤ depth_at nodes c.args.k = (let depth = law.1 in omega (arith, depth)) in
    let came = came_down night g.start c.args.certificate.now c.args.k c.requires.0.nodes some c.requires.1.0
    (λ b d lt le. c.parents.ensures.front night g.start nodes b d c.requires.0.nodes lt le) (λ b lt. c.parents.ensures.size night g.start nodes b c.requires.0.nodes lt)
    deep c.args.path.now c.requires.1.1.0.path c.requires.1.1.0.pins in
    child_told night g.start c.args.certificate.now c.args.k (front_of nodes c.args.k c.args.path.now) came.1 c.args.best c.requires.1.1.0.best c.in_ok-misled.misled
    c.in_ok-misled.ensures.found c.in-Some.reason c.in-Some.is

pub cases_at-requires : goal.cases_at-requires
cases_at-requires g c =
    let night = c.args.instance.now in
    let nodes = c.args.certificate.now.nodes in
    let some : 1 ≤ c.args.k = later c.args.k (against c.is_root.result (c.args.k ≡ 0) c.is_root.ensures c.if-is_root.false) in
    let law = c.parents.ensures.parent night nodes c.args.k c.requires.0.nodes some c.requires.1.0 in
    subst (λ (j : ℕ). IsOwner nodes j c.frame_above-frame.result.owner) (sym c.frame_above-frame.ensures.node)
    (c.frame_above-frame.ensures.owner (branch_whole (node_at nodes (parent nodes c.args.k)).kind law.2))

pub own_fault-requires-2-clause-known : goal.own_fault-requires-2-clause-known
own_fault-requires-2-clause-known g c =
    let night = c.args.instance.now in
    let nodes = c.args.certificate.now.nodes in
    let some : 1 ≤ c.args.k = later c.args.k (against c.is_root.result (c.args.k ≡ 0) c.is_root.ensures c.if-is_root.false) in
    let law = c.parents.ensures.parent night nodes c.args.k c.requires.0.nodes some c.requires.1.0 in
    let deep : 1 ≤ depth_at nodes c.args.k = (let depth = law.1 in omega (arith, depth)) in
    let came = came_down night g.start c.args.certificate.now c.args.k c.requires.0.nodes some c.requires.1.0
    (λ b d lt le. c.parents.ensures.front night g.start nodes b d c.requires.0.nodes lt le) (λ b lt. c.parents.ensures.size night g.start nodes b c.requires.0.nodes lt)
    deep c.args.path.now c.requires.1.1.0.path c.requires.1.1.0.pins in
    let at = child_at night g.start c.args.certificate.now c.args.k (front_of nodes c.args.k c.args.path.now) came.1 c.args.best c.requires.1.1.0.best c.in_ok-misled.misled
    c.in_ok-misled.ensures.found c.in_default.is
    c.parent_fault.new.path c.parent_fault.ensures.of (c.parent_fault.ensures.pins
    ∙ c.requires.1.1.0.pins) c.in_ok-misled.ensures.leads c.in_ok-misled.ensures.through c.in_ok-misled.ensures.each in
    let hold : HoldIn c.args.certificate.now.version night (path_at night g.start nodes (parent nodes c.args.k)) (duals_at nodes (parent nodes c.args.k)) =
    unbroken night g.start c.args.certificate.now (parent nodes c.args.k) (c.requires.1.1.0.sound (parent nodes c.args.k) law.0)
    (branch_whole (node_at nodes (parent nodes c.args.k)).kind law.2) in
    let choice = c.parents.ensures.choice night nodes c.args.k c.requires.0.nodes some c.requires.1.0 in
    let below = hold_below night g.start c.args.certificate.now c.args.k (parent nodes c.args.k) choice.0
    (λ path b cases h. hold_longer c.args.certificate.now.version night path b cases (c.longer_paths.ensures.hold night path b cases)
    (c.bounds_rise.ensures.hold night path b cases) h) hold
    (c.parents.ensures.path night g.start nodes c.args.k c.requires.0.nodes some c.requires.1.0) choice.1 in
    subst (λ (bs : List Block). HoldIn c.args.certificate.now.version night bs c.cases_at.result.now) (sym at.path)
    (subst (λ (cs : List Case). HoldIn c.args.certificate.now.version night (path_at night g.start nodes c.args.k) cs)
    (sym (c.cases_at.ensures ∙ ap (λ (j : ℕ). duals_at nodes j) c.frame_above-frame.ensures.node)) below)

pub returns : goal.returns
returns g c =
    let night = c.args.instance.now in
    let nodes = c.args.certificate.now.nodes in
    let some : 1 ≤ c.args.k = later c.args.k (against c.is_root.result (c.args.k ≡ 0) c.is_root.ensures c.if-is_root.false) in
    let law = c.parents.ensures.parent night nodes c.args.k c.requires.0.nodes some c.requires.1.0 in
    let deep : 1 ≤ depth_at nodes c.args.k = (let depth = law.1 in omega (arith, depth)) in
    let came = came_down night g.start c.args.certificate.now c.args.k c.requires.0.nodes some c.requires.1.0
    (λ b d lt le. c.parents.ensures.front night g.start nodes b d c.requires.0.nodes lt le) (λ b lt. c.parents.ensures.size night g.start nodes b c.requires.0.nodes lt)
    deep c.args.path.now c.requires.1.1.0.path c.requires.1.1.0.pins in
    let at = child_at night g.start c.args.certificate.now c.args.k (front_of nodes c.args.k c.args.path.now) came.1 c.args.best c.requires.1.1.0.best c.in_ok-misled.misled
    c.in_ok-misled.ensures.found c.in_default.is
    c.parent_fault.new.path c.parent_fault.ensures.of (c.parent_fault.ensures.pins
    ∙ c.requires.1.1.0.pins) c.in_ok-misled.ensures.leads c.in_ok-misled.ensures.through c.in_ok-misled.ensures.each in
    let from = child_passed night g.start c.args.certificate.now c.args.k (front_of nodes c.args.k c.args.path.now) came.1 c.args.best c.requires.1.1.0.best c.in_ok-misled.misled
    c.in_ok-misled.ensures.found c.in_default.is in
    both_ok c.own_fault-2.result (Judges night c.args.certificate.now c.args.k c.parent_fault.new.path.blocks 4 8)
    (λ r. IfNone r (c.own_fault-2.new.path ≡ c.parent_fault.new.path))
    (Settles night g.start c.args.certificate.now c.args.k c.own_fault-2.new.path)
    (λ r judged kept. settled night g.start c.args.certificate.now c.args.k c.parent_fault.new.path c.own_fault-2.new.path r at from judged kept) c.own_fault-2.ensures.found
    c.own_fault-2.ensures.kept
