use Rattle.std.specs.Prelude.{IfOk, IfNone, All, take}
use Rattle.std.proofs.Common.{◌≡◌, ◌≤◌, ◌<◌, ◌+◌, ◌-◌, ℕ, List, length, ap, subst, sym, ◌∙◌, arith}
use Rattle.std.proofs.lemmas.List.{length-take-le}
use Rattle.std.proofs.lemmas.List.Elements.{All-take}
use Rattle.shunt_base.specs.declared.duals.Case.{Case}
use Rattle.shunt_instance.specs.defs.Instance.{unit_total}
use Rattle.shunt_blocks.specs.declared.records.Block.{Block}
use Rattle.shunt_blocks.specs.defs.Blocks.{IsBlockButId}
use Rattle.shunt_prices.specs.defs.Limits.{AreCases}
use Rattle.shunt_proof.specs.defs.Trees.{depth_at, duals_at, parent}
use Rattle.shunt_checker.specs.defs.NodeSteps.{JudgesChild, LeadsDown}
use Rattle.shunt_checker.specs.defs.Walks.{IsOwner}
use Rattle.shunt_checker.proofs.walk.parent_fault.Goals as goal
use Rattle.shunt_proof.proofs.Depths.{branch_goes as branch_whole}

pub overflow_add-left : goal.overflow_add-left
overflow_add-left c =
    let most : length c.args.path.now.blocks ≤ unit_total c.args.instance.now = c.few_blocks.ensures.most c.args.instance.now c.args.path.now.blocks
    (λ k d lt. (c.requires.path.each k d lt).within) c.requires.path.apart in
    omega (arith, most)

pub cases_at-cases-requires : goal.cases_at-cases-requires
cases_at-cases-requires c =
    let law = c.parents.ensures.parent c.args.instance.now c.args.certificate.now.nodes c.args.k c.requires.nodes c.requires.some c.requires.there in
    subst (λ (j : ℕ). IsOwner c.args.certificate.now.nodes j c.args.frame.owner) (sym c.requires.frame.node) (c.requires.frame.owner (branch_whole _ law.2))

pub child_fault-requires-clause-cases : goal.child_fault-requires-clause-cases
child_fault-requires-clause-cases c =
    let night = c.args.instance.now in
    let nodes = c.args.certificate.now.nodes in
    let law = c.parents.ensures.parent night nodes c.args.k c.requires.nodes c.requires.some c.requires.there in
    let lt : parent nodes c.args.k < length nodes = (let there = c.requires.there in let less = law.0 in omega (arith, there, less)) in
    subst (λ (cs : List Case). AreCases night cs) (sym (c.cases_at-cases.ensures ∙ ap (λ (j : ℕ). duals_at nodes j) c.requires.frame.node))
    (c.parents.ensures.cases night nodes (parent nodes c.args.k) c.requires.nodes lt (branch_whole _ law.2))

pub child_fault-requires-clause-each : goal.child_fault-requires-clause-each
child_fault-requires-clause-each c =
    subst (λ (bs : List Block). All (IsBlockButId c.args.instance.now) bs) (sym c.shorten.ensures.blocks)
    (All-take (IsBlockButId c.args.instance.now) (c.pins.result + (c.depth_at-above.result - 1)) c.args.path.now.blocks c.requires.each)

pub returns-clause-found : goal.returns-clause-found
returns-clause-found c =
    let exact = c.depth_at-above.ensures.exact in
    let pins = c.pins.ensures in
    let long : c.pins.result + (c.depth_at-above.result - 1) ≡ c.args.path.now.pins + (depth_at c.args.certificate.now.nodes c.args.k - 1) = omega (arith, exact, pins) in
    subst (λ (bs : List Block). IfOk c.child_fault.result (JudgesChild c.args.instance.now c.args.certificate.now c.args.k bs c.args.best))
    (c.shorten.ensures.blocks ∙ ap (λ (n : ℕ). take n c.args.path.now.blocks) long) c.child_fault.ensures.found

pub returns-clause-leads : goal.returns-clause-leads
returns-clause-leads c =
    let exact = c.depth_at-above.ensures.exact in
    let pins = c.pins.ensures in
    let long : c.pins.result + (c.depth_at-above.result - 1) ≡ c.args.path.now.pins + (depth_at c.args.certificate.now.nodes c.args.k - 1) = omega (arith, exact, pins) in
    subst (λ (bs : List Block). IfOk c.child_fault.result (λ r. IfNone r (LeadsDown c.args.instance.now c.args.certificate.now c.args.k bs c.child_fault.new.path.blocks)))
    (c.shorten.ensures.blocks ∙ ap (λ (n : ℕ). take n c.args.path.now.blocks) long) c.child_fault.ensures.leads

pub child_fault-requires-clause-pins : goal.child_fault-requires-clause-pins
child_fault-requires-clause-pins c =
    let long = c.requires.long in
    let deep = c.requires.deep in
    let exact = c.depth_at-above.ensures.exact in
    let pins = c.pins.ensures in
    let kept = c.shorten.ensures.pins in
    let left : c.pins.result + (c.depth_at-above.result - 1) ≤ length c.args.path.now.blocks = omega (arith, long, deep, exact, pins) in
    let len : length c.shorten.new.path.blocks ≡ length (take (c.pins.result + (c.depth_at-above.result - 1)) c.args.path.now.blocks) = ap length c.shorten.ensures.blocks in
    let taken = length-take-le (c.pins.result + (c.depth_at-above.result - 1)) c.args.path.now.blocks left in
    omega (arith, len, taken, kept, pins)
