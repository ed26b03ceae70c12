use mir.Syntax.{w64}
use mir.Val.{to_z, of_z}
use Rattle.std.specs.Prelude.{IsTrue, ◌↔◌, List}
use Rattle.std.proofs.Common.{◌*◌, ◌+ℤ◌, ◌≡◌, length, subst, refl, ◌∙◌, arith}
use Rattle.std.proofs.lemmas.Int.{ints}
use Rattle.shunt_base.specs.declared.duals.Price.{Price}
use Rattle.shunt_dual.specs.defs.Weighed.{case_of, TracksHold}
use Rattle.shunt_dual.proofs.Holds.{shape_is, too_light}
use Rattle.shunt_dual.proofs.feasibility.shape_holds.Goals as goal
use Rattle.shunt_prices.proofs.Signed.{below, not_below}

pub returns-then-sum-unparked : goal.returns-then-sum-unparked
returns-then-sum-unparked c =
    let t = below (to_z w64 (of_z w64 (to_z w64 (1000 * c.cost_with-unparked.result) +ℤ to_z w64 (of_z w64 c.args.multiplier))))
    (to_z w64 (of_z w64 c.duals_over-sum.result)) c.if-sum-unparked.true in
    let w = c.cost_with-unparked.ensures in
    let s = c.duals_over-sum.ensures.small in
    let m = c.requires.multiplier in
    too_light c.args.asked c.args.instance.now (case_of c.args.multiplier c.args.duals.now) c.args.shape c.duals_over-sum.result c.duals_over-sum.ensures.exact
    (omega (arith, ints, t, w.exact, w.small, s.low, s.high, m.low, m.high))

pub returns : goal.returns
returns c =
    let f = not_below (to_z w64 (of_z w64 (to_z w64 (1000 * c.cost_with-unparked.result) +ℤ to_z w64 (of_z w64 c.args.multiplier))))
    (to_z w64 (of_z w64 c.duals_over-sum.result)) c.if-sum-unparked.false in
    let w = c.cost_with-unparked.ensures in
    let s = c.duals_over-sum.ensures.small in
    let m = c.requires.multiplier in
    let x = to_z w64 (of_z w64 c.duals_over-sum.result) in
    let tracks = length c.args.instance.now.station.tracks in
    shape_is c.args.asked c.args.instance.now (case_of c.args.multiplier c.args.duals.now) c.args.shape x tracks c.tracks_hold.result refl
    (let seen : to_z w64 (of_z w64 c.duals_over-sum.result) ≡ c.duals_over-sum.result = omega (arith, ints, s.low, s.high) in seen ∙ c.duals_over-sum.ensures.exact)
    (omega (arith, ints, f, w.exact, w.small, s.low, s.high, m.low, m.high))
    (subst (λ (ps : List Price). IsTrue c.tracks_hold.result ↔ TracksHold c.args.asked c.args.instance.now ps c.args.shape x tracks) c.as_slice.ensures c.tracks_hold.ensures)
