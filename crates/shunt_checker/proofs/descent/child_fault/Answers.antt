use Rattle.std.specs.Prelude.{All}
use Rattle.std.proofs.Common.{◌≡◌, ◌+◌, ℕ, List, ap, sym, subst, ◌∙◌}
use Rattle.shunt_blocks.specs.declared.records.Block.{Block}
use Rattle.shunt_blocks.specs.defs.Blocks.{IsBlockButId}
use Rattle.shunt_blocks.specs.defs.Lists.{RunsThrough, placed}
use Rattle.shunt_proof.specs.defs.Nodes.{FitsChoice}
use Rattle.shunt_proof.specs.defs.Trees.{depth_at}
use Rattle.shunt_proof.specs.defs.Versions.{IsStepBoundIn}
use Rattle.shunt_checker.specs.defs.NodeSteps.{LeadsDown}
use Rattle.shunt_checker.proofs.Seen.{seen_word}
use Rattle.shunt_checker.proofs.NodeFindings.{on_none}
use Rattle.shunt_checker.proofs.Placed.{there_told, led, twice_told, child_judged}
use Rattle.shunt_checker.proofs.Steps.{had, longer_than}
use Rattle.shunt_checker.proofs.descent.child_fault.Goals as goal

pub unreachable-requires : goal.unreachable-requires
unreachable-requires c =
    let has = c.parents.ensures.choice c.args.instance.now c.args.certificate.now.nodes c.args.k c.requires.nodes c.requires.some c.requires.there in
    let is = has.1 in
    let got = c.choice_of.ensures in
    let none = c.in_default.is in
    cc (sym none ∙ (got ∙ is))

pub there_fault-requires-clause-fits : goal.there_fault-requires-clause-fits
there_fault-requires-clause-fits c =
    let has = c.parents.ensures.choice c.args.instance.now c.args.certificate.now.nodes c.args.k c.requires.nodes c.requires.some c.requires.there in
    let same : has.0 ≡ c.in-Some.choice = cc (sym has.1 ∙ (sym c.choice_of.ensures ∙ c.in-Some.is)) in
    subst (FitsChoice c.args.instance.now) same has.2

pub is_twice-requires-clause-child : goal.is_twice-requires-clause-child
is_twice-requires-clause-child c =
    let law = c.parents.ensures.parent c.args.instance.now c.args.certificate.now.nodes c.args.k c.requires.nodes c.requires.some c.requires.there in
    record {
      there = c.requires.there;
      depth = law.1 ∙ ap (λ (j : ℕ). depth_at c.args.certificate.now.nodes j + 1) (sym c.requires.above);
      parent = sym c.requires.above;
    }

pub returns-in-Some-misplaced-clause-found : goal.returns-in-Some-misplaced-clause-found
returns-in-Some-misplaced-clause-found c =
    there_told c.args.instance.now c.args.certificate.now c.args.k c.args.path.now.blocks c.args.best c.in_ok-misplaced.misplaced c.in-Some-misplaced.reason c.in-Some-misplaced.is
    c.in_ok-misplaced.ensures.found

pub returns-then-is_twice-clause-found : goal.returns-then-is_twice-clause-found
returns-then-is_twice-clause-found c =
    twice_told c.args.instance.now c.args.certificate.now c.args.k c.in-Some.choice
    (sym c.choice_of.ensures ∙ c.in-Some.is) c.args.path.now.blocks c.args.best c.in_ok-misplaced.misplaced c.in_default-misplaced.is c.in_ok-misplaced.ensures.found
    c.is_twice.result c.is_twice.ensures c.if-is_twice.true

pub step_bound-requires-clause-some : goal.step_bound-requires-clause-some
step_bound-requires-clause-some c =
    let more = had c.in_ok-misplaced.misplaced _ c.in_default-misplaced.is c.in_ok-misplaced.ensures.more in
    longer_than c.args.path.now.blocks c.there_fault.new.path.blocks more.choice c.args.path.now.pins c.there_fault.new.path.pins more.is c.there_fault.ensures.pins c.requires.pins

pub step_bound-requires-clause-more : goal.step_bound-requires-clause-more
step_bound-requires-clause-more c = (c.args.path.now.blocks, had c.in_ok-misplaced.misplaced _ c.in_default-misplaced.is c.in_ok-misplaced.ensures.more)

pub returns-clause-leads : goal.returns-clause-leads
returns-clause-leads c =
    on_none c.lean_reason.result _ (subst (LeadsDown c.args.instance.now c.args.certificate.now c.args.k c.args.path.now.blocks) (sym c.step_bound.ensures.kept)
    (led c.args.instance.now c.args.certificate.now c.args.k c.args.path.now.blocks c.there_fault.new.path.blocks c.in_ok-misplaced.misplaced c.in_default-misplaced.is
    c.in_ok-misplaced.ensures.leads))

pub returns-clause-through : goal.returns-clause-through
returns-clause-through c =
    let more = had c.in_ok-misplaced.misplaced _ c.in_default-misplaced.is c.in_ok-misplaced.ensures.more in
    on_none c.lean_reason.result _ (subst (λ (bs : List Block). RunsThrough c.args.instance.now (placed bs)) (sym c.step_bound.ensures.kept) more.through)

pub returns-clause-each : goal.returns-clause-each
returns-clause-each c =
    let more = had c.in_ok-misplaced.misplaced _ c.in_default-misplaced.is c.in_ok-misplaced.ensures.more in
    on_none c.lean_reason.result _ (subst (λ (bs : List Block). All (IsBlockButId c.args.instance.now) bs) (sym c.step_bound.ensures.kept) more.each)

pub returns-clause-found : goal.returns-clause-found
returns-clause-found c =
    let night = c.args.instance.now in
    let cert = c.args.certificate.now in
    child_judged night cert c.args.k c.in-Some.choice (sym c.choice_of.ensures ∙ c.in-Some.is) c.args.path.now.blocks c.args.best c.in_ok-misplaced.misplaced
    c.in_default-misplaced.is c.in_ok-misplaced.ensures.found
    c.is_twice.result c.is_twice.ensures c.if-is_twice.false c.there_fault.new.path.blocks
    (led night cert c.args.k c.args.path.now.blocks c.there_fault.new.path.blocks c.in_ok-misplaced.misplaced c.in_default-misplaced.is c.in_ok-misplaced.ensures.leads)
    c.args.cases.now c.args.above c.requires.duals c.requires.above
    (λ start. c.parents.ensures.path night start cert.nodes c.args.k c.requires.nodes c.requires.some c.requires.there)
    (λ path longer cs x y is so. c.bounds_by_version.ensures.one_step cert.version night path longer cs x y is so)
    _ (λ front b e. subst (IsStepBoundIn cert.version night front c.there_fault.new.path.blocks c.args.cases.now) (sym (seen_word c.in_ok-bound.bound c.in_ok-bound.ensures.word))
    (c.in_ok-bound.ensures.bound front b e))
    c.requires.some c.lean_reason.result c.lean_reason.ensures.some c.lean_reason.ensures.none
