use Rattle.std.specs.Prelude.{cond, ◌==◌}
use Rattle.std.proofs.Common.{◌≡◌, length, ap, ◌∙◌, Bool, List, arith}
use Rattle.shunt_blocks.specs.defs.Lists.{times_unit}
use Rattle.shunt_blocks.specs.defs.Pins.{unit_price}
use Rattle.shunt_choices.specs.defs.Paths.{Masks, masks_of}
use Rattle.shunt_choices.proofs.Trails.{length_units}
use Rattle.shunt_checker.proofs.Singles.{units_sum, one_more}
use Rattle.shunt_checker.proofs.opening_costs.units_price.Goals as goal

pub bounds-covered-u : goal.bounds-covered-u
bounds-covered-u c =
    let same : c.units-covered.result.now ≡ (masks_of c.args.instance.now c.args.path.now.blocks).units = c.units-covered.ensures
    ∙ ap (λ (m : Masks). m.units) (c.covered.ensures ∙ c.requires.covered) in
    let long : length c.units-covered.result.now ≡ length (masks_of c.args.instance.now c.args.path.now.blocks).units = ap (λ (xs : List Bool). length xs) same in
    let all = length_units c.args.instance.now c.args.path.now.blocks in
    let lt = c.loop-u-test.true in
    let end = c.units-u-end.ensures.exact in
    omega (arith, long, all, lt, end)

pub loop-u-preserved : goal.loop-u-preserved
loop-u-preserved c =
    let night = c.args.instance.now in
    let blocks = c.args.path.now.blocks in
    let same : c.units-covered.result.now ≡ (masks_of night blocks).units = c.units-covered.ensures ∙ ap (λ (m : Masks). m.units) (c.covered.ensures ∙ c.requires.covered) in
    let lt = c.loop-u-test.true in
    let end = c.units-u-end.ensures.exact in
    let small = c.loop-u.invariant.small in
    let part = c.unit_price-sum.ensures.small in
    record {
      sum = one_more (λ w. cond (times_unit night blocks w == 0) (unit_price night w) 0) c.loop-u.u c.loop-u.sum c.unit_price-sum.result c.loop-u.invariant.sum
          (units_sum night blocks c.units-covered.result.now c.loop-u.u (unit_price night c.loop-u.u) c.unit_price-sum.result _ same
          (omega (arith, lt, end)) c.unit_price-sum.ensures.exact);
      small = omega (arith, small, part);
    }
