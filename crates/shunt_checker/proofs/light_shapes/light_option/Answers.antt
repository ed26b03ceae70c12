use mir.Syntax.{w64}
use mir.Val.{to_z, of_z}
use Rattle.std.specs.Prelude.{List}
use Rattle.std.proofs.Common.{◌*◌, ◌+ℤ◌, ◌≡◌, subst, sym, ◌∙◌, arith}
use Rattle.std.proofs.lemmas.Int.{ints}
use Rattle.shunt_base.specs.declared.duals.Price.{Price}
use Rattle.shunt_choices.specs.defs.Choices.{ParkBefore}
use Rattle.shunt_checker.specs.defs.Firsts.{Finds}
use Rattle.shunt_checker.specs.defs.Lights.{IsLightParked, IsLightShape}
use Rattle.shunt_checker.specs.defs.NodeFaults.{EarlierChoice}
use Rattle.shunt_checker.proofs.Parks.{unparked_light, light_among}
use Rattle.shunt_checker.proofs.light_shapes.light_option.Goals as goal
use Rattle.shunt_prices.proofs.Signed.{below, not_below}

pub returns-then-sum-unparked : goal.returns-then-sum-unparked
returns-then-sum-unparked c =
    let t = below (to_z w64 (of_z w64 (to_z w64 (1000 * c.cost_with-unparked.result) +ℤ to_z w64 (of_z w64 c.args.case.now.multiplier))))
    (to_z w64 (of_z w64 c.sum_over-sum.result)) c.if-sum-unparked.true in
    let w = c.cost_with-unparked.ensures in
    let s = c.sum_over-sum.ensures.small in
    let m = c.requires.case.multiplier in
    unparked_light c.args.version c.args.instance.now c.args.case.now c.args.shape c.sum_over-sum.result c.sum_over-sum.ensures.exact
    (omega (arith, ints, t, w.exact, w.small, s.low, s.high, m.low, m.high))

pub returns : goal.returns
returns c =
    let f = not_below (to_z w64 (of_z w64 (to_z w64 (1000 * c.cost_with-unparked.result) +ℤ to_z w64 (of_z w64 c.args.case.now.multiplier))))
    (to_z w64 (of_z w64 c.sum_over-sum.result)) c.if-sum-unparked.false in
    let w = c.cost_with-unparked.ensures in
    let s = c.sum_over-sum.ensures.small in
    let m = c.requires.case.multiplier in
    let x = to_z w64 (of_z w64 c.sum_over-sum.result) in
    let seen : to_z w64 (of_z w64 c.sum_over-sum.result) ≡ c.sum_over-sum.result = omega (arith, ints, s.low, s.high) in
    subst (Finds (IsLightShape c.args.version c.args.instance.now c.args.case.now c.args.shape) (EarlierChoice c.args.instance.now)) (sym c.offered.ensures)
    (light_among c.args.version c.args.instance.now c.args.case.now c.args.shape x (seen ∙ c.sum_over-sum.ensures.exact)
    (omega (arith, ints, f, w.exact, w.small, s.low, s.high, m.low, m.high)) c.light_parked-park.result
    (subst (λ (ps : List Price). Finds (IsLightParked c.args.version c.args.instance.now ps c.args.shape x) ParkBefore c.light_parked-park.result) c.as_slice-prices.ensures
    c.light_parked-park.ensures))
