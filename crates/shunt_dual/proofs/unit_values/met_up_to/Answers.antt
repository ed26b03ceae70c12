use mir.Syntax.{w64}
use mir.Val.{to_z, of_z}
use Rattle.std.proofs.Common.{pos, get_or, arith}
use Rattle.std.specs.Prelude.{◌-ℤ◌}
use Rattle.std.proofs.lemmas.Int.{ints}
use Rattle.shunt_prices.specs.defs.Limits.{IsValue}
use Rattle.shunt_dual.proofs.Asked.{met_before, met_after, met_within, within_met}
use Rattle.shunt_dual.proofs.unit_values.met_up_to.Goals as goal
use Rattle.shunt_prices.proofs.Signed.{below, not_below}

pub returns-then-u-ask-clause-met : goal.returns-then-u-ask-clause-met
returns-then-u-ask-clause-met c = met_before c.args.alpha.now c.args.ask c.args.u _ c.if-u-ask.true c.requires.met

pub returns-then-ask-n-clause-met : goal.returns-then-ask-n-clause-met
returns-then-ask-n-clause-met c = met_after c.args.alpha.now c.args.ask c.args.u _ (omega (arith, c.if-ask-n.true)) c.requires.met

pub returns-then-slack-z-clause-at_most : goal.returns-then-slack-z-clause-at_most
returns-then-slack-z-clause-at_most c =
    let lt = below (to_z w64 (of_z w64 (to_z w64 (of_z w64 c.args.ask.most) -ℤ to_z w64 (of_z w64 c.run_sum.result))))
    (to_z w64 (of_z w64 (to_z w64 (of_z w64 c.args.z) -ℤ to_z w64 (of_z w64 (get_or c.args.alpha.now c.args.u (pos 0)))))) c.if-slack-z.true in
    let s = c.run_sum.ensures.small in
    let m = c.requires.ask.small in
    let v : IsValue (get_or c.args.alpha.now c.args.u (pos 0)) = c.requires.alphas c.args.u (pos 0) c.requires.unit in
    omega (arith, ints, lt, s.low, s.high, m.low, m.high, v.low, v.high, c.requires.low, c.requires.high)

pub returns-then-slack-z-clause-met : goal.returns-then-slack-z-clause-met
returns-then-slack-z-clause-met c =
    let s = c.run_sum.ensures.small in
    let m = c.requires.ask.small in
    let v : IsValue (get_or c.args.alpha.now c.args.u (pos 0)) = c.requires.alphas c.args.u (pos 0) c.requires.unit in
    met_within c.args.alpha.now c.args.ask c.args.u c.requires.unit c.if-u-ask.false c.if-ask-n.false _
    (omega (arith, ints, c.run_sum.ensures.exact, s.low, s.high, m.low, m.high, v.low, v.high))

pub returns-then-slack-z-clause-most : goal.returns-then-slack-z-clause-most
returns-then-slack-z-clause-most c = λ other le h.
    let s = c.run_sum.ensures.small in
    let m = c.requires.ask.small in
    let v : IsValue (get_or c.args.alpha.now c.args.u (pos 0)) = c.requires.alphas c.args.u (pos 0) c.requires.unit in
    let w = within_met c.args.alpha.now c.args.ask c.args.u c.requires.unit c.if-u-ask.false c.if-ask-n.false other h in
    omega (arith, ints, w, c.run_sum.ensures.exact, s.low, s.high, m.low, m.high, v.low, v.high)

pub returns-else-slack-z-clause-met : goal.returns-else-slack-z-clause-met
returns-else-slack-z-clause-met c =
    let le = not_below (to_z w64 (of_z w64 (to_z w64 (of_z w64 c.args.ask.most) -ℤ to_z w64 (of_z w64 c.run_sum.result))))
    (to_z w64 (of_z w64 (to_z w64 (of_z w64 c.args.z) -ℤ to_z w64 (of_z w64 (get_or c.args.alpha.now c.args.u (pos 0)))))) c.if-slack-z.false in
    let s = c.run_sum.ensures.small in
    let m = c.requires.ask.small in
    let v : IsValue (get_or c.args.alpha.now c.args.u (pos 0)) = c.requires.alphas c.args.u (pos 0) c.requires.unit in
    met_within c.args.alpha.now c.args.ask c.args.u c.requires.unit c.if-u-ask.false c.if-ask-n.false _
    (omega (arith, ints, le, c.run_sum.ensures.exact, s.low, s.high, m.low, m.high, v.low, v.high, c.requires.low, c.requires.high))
