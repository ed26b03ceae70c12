use mir.Syntax.{w64}
use Rattle.std.proofs.Common.{◌<◌, ℕ, length, subst, sym, ◌∙◌}
use Rattle.std.proofs.lemmas.Int.{to_z-of_z}
use Rattle.shunt_blocks.specs.defs.Shapes.{AreRunsWithin, IsOnTrack, IsWithinTrains}
use Rattle.shunt_choices.specs.defs.Choices.{Choice as PathChoice}
use Rattle.shunt_checker.proofs.NodeFindings.{told_is}
use Rattle.shunt_checker.proofs.nodes.break_reason.Goals as goal
use Rattle.shunt_prices.proofs.Counts.{got, got_is}

pub get-case-requires : goal.get-case-requires
get-case-requires c = subst (λ (m : ℕ). m < length c.args.cases.now) (sym c.case_in.ensures) c.requires.there

pub weight-cost-requires-clause-case : goal.weight-cost-requires-clause-case
weight-cost-requires-clause-case c = got_is c.args.instance.now c.args.cases.now c.case_in.result c.get-case.result.now c.get-case.ensures
    (subst (λ (m : ℕ). m < length c.args.cases.now) (sym c.case_in.ensures) c.requires.there) c.requires.cases

pub weight-cost-requires-clause-within : goal.weight-cost-requires-clause-within
weight-cost-requires-clause-within c = subst (IsWithinTrains c.args.instance.now) (sym c.block_in-block.ensures) (record {
  runs = subst (λ (d : PathChoice). AreRunsWithin c.args.instance.now d.shape) (sym c.offer_in-offer.ensures) c.requires.within;
  track = subst (λ (d : PathChoice). IsOnTrack c.args.instance.now.station d.option) (sym c.offer_in-offer.ensures) c.requires.track;
})

pub sum_over-sum-requires-clause-duals : goal.sum_over-sum-requires-clause-duals
sum_over-sum-requires-clause-duals c =
    let is = got_is c.args.instance.now c.args.cases.now c.case_in.result c.get-case.result.now c.get-case.ensures
    (subst (λ (m : ℕ). m < length c.args.cases.now) (sym c.case_in.ensures) c.requires.there) c.requires.cases in
    is.duals

pub sum_over-sum-requires-clause-within : goal.sum_over-sum-requires-clause-within
sum_over-sum-requires-clause-within c =
    subst (AreRunsWithin c.args.instance.now) (sym c.shape_in-shape.ensures) (subst (λ (d : PathChoice). AreRunsWithin c.args.instance.now d.shape)
    (sym c.offer_in-offer.ensures) c.requires.within)

pub returns : goal.returns
returns c =
    told_is c.args.instance.now c.args.cases.now c.args.found.now c.case_in.result c.offer_in-offer.result c.get-case.result.now c.block_in-block.result c.shape_in-shape.result _ _
    c.case_in.ensures c.offer_in-offer.ensures (got c.args.cases.now c.case_in.result c.get-case.result.now c.get-case.ensures) c.block_in-block.ensures c.shape_in-shape.ensures
    (to_z-of_z w64 c.weight-cost.result (record { sfits = c.weight-cost.type_inv }) ∙ c.weight-cost.ensures.exact)
    (to_z-of_z w64 c.sum_over-sum.result (record { sfits = c.sum_over-sum.type_inv }) ∙ c.sum_over-sum.ensures.exact)
