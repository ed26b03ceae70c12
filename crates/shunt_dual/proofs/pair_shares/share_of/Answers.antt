use Rattle.std.proofs.Common.{◌≡◌, ℕ, subst, arith}
use Rattle.shunt_dual.specs.defs.Around.{FromSome, IsLeastPart}
use Rattle.shunt_dual.proofs.Around.{one_before, one_after, share_is}
use Rattle.shunt_dual.proofs.LeastPart.{first_row, next_row}
use Rattle.shunt_dual.proofs.pair_shares.share_of.Goals as goal

pub least_from-least-requires-clause-before : goal.least_from-least-requires-clause-before
least_from-least-requires-clause-before c = one_before c.args.instance.now c.args.u c.args.v c.requires.night c.requires.unit c.requires.position c.requires.pair

pub least_from-least-requires-clause-some : goal.least_from-least-requires-clause-some
least_from-least-requires-clause-some c = c.reach_after-after.ensures.most 1 (one_after c.args.instance.now c.args.u c.args.v c.requires.night c.requires.unit c.requires.position
    c.requires.pair)

pub loop-back-init : goal.loop-back-init
loop-back-init c = first_row c.args.instance.now c.args.u c.args.v _ _ c.least_from-least.ensures

pub loop-back-preserved : goal.loop-back-preserved
loop-back-preserved c =
    next_row c.args.instance.now c.args.u c.args.v c.loop-back.back _ _ _ _ c.loop-back.invariant c.least_from.ensures
    c.lesser-least.ensures.first c.lesser-least.ensures.second c.lesser-least.ensures.one

pub returns : goal.returns
returns c =
    let some = c.reach_before-before.ensures.most 1 (one_before c.args.instance.now c.args.u c.args.v c.requires.night c.requires.unit c.requires.position c.requires.pair) in
    let end : c.loop-back.back ≡ c.reach_before-before.result = omega (arith, some, c.loop-back-test.false, c.loop-back.auto.back-end) in
    share_is c.args.instance.now c.args.u c.args.v c.reach_before-before.result c.reach_after-after.result _
    c.requires.night c.requires.unit c.requires.position c.requires.pair
    c.reach_before-before.ensures.are c.reach_after-after.ensures.are c.reach_before-before.ensures.most c.reach_after-after.ensures.most
    (subst (λ (b : ℕ). IsLeastPart c.args.instance.now c.args.u c.args.v (FromSome b c.reach_after-after.result) c.loop-back.least) end c.loop-back.invariant)
