use Rattle.std.specs.Prelude.{cond, ◌==◌}
use Rattle.std.proofs.Common.{◌≡◌, length, ap, ◌∙◌, Bool, List, arith}
use Rattle.shunt_blocks.specs.defs.Lists.{times_position}
use Rattle.shunt_blocks.specs.defs.Pins.{position_price}
use Rattle.shunt_choices.specs.defs.Paths.{Masks, masks_of}
use Rattle.shunt_choices.proofs.Trails.{length_places}
use Rattle.shunt_checker.proofs.Singles.{positions_sum, one_more}
use Rattle.shunt_checker.proofs.opening_costs.positions_price.Goals as goal

pub bounds-covered-v : goal.bounds-covered-v
bounds-covered-v c =
    let same : c.places-covered.result.now ≡ (masks_of c.args.instance.now c.args.path.now.blocks).places = c.places-covered.ensures
    ∙ ap (λ (m : Masks). m.places) (c.covered.ensures ∙ c.requires.covered) in
    let long : length c.places-covered.result.now ≡ length (masks_of c.args.instance.now c.args.path.now.blocks).places = ap (λ (xs : List Bool). length xs) same in
    let all = length_places c.args.instance.now c.args.path.now.blocks in
    let lt = c.loop-v-test.true in
    let end = c.positions-v-end.ensures.exact in
    omega (arith, long, all, lt, end)

pub loop-v-preserved : goal.loop-v-preserved
loop-v-preserved c =
    let night = c.args.instance.now in
    let blocks = c.args.path.now.blocks in
    let same : c.places-covered.result.now ≡ (masks_of night blocks).places = c.places-covered.ensures ∙ ap (λ (m : Masks). m.places) (c.covered.ensures ∙ c.requires.covered) in
    let lt = c.loop-v-test.true in
    let end = c.positions-v-end.ensures.exact in
    let small = c.loop-v.invariant.small in
    let part = c.position_price-sum.ensures.small in
    record {
      sum = one_more (λ w. cond (times_position night blocks w == 0) (position_price night w) 0) c.loop-v.v c.loop-v.sum c.position_price-sum.result c.loop-v.invariant.sum
          (positions_sum night blocks c.places-covered.result.now c.loop-v.v (position_price night c.loop-v.v) c.position_price-sum.result _ same
          (omega (arith, lt, end)) c.position_price-sum.ensures.exact);
      small = omega (arith, small, part);
    }
