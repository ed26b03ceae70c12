use mir.Syntax.{w64}
use mir.Val.{to_z, of_z}
use Rattle.std.proofs.Common.{ℤ, sym, subst, arith, ◌∷◌, ◌++◌, []}
use Rattle.std.proofs.lemmas.Int.{ints, to_z-of_z}
use Rattle.shunt_prices.specs.defs.Limits.{case_at, from_of}
use Rattle.shunt_prices.specs.defs.Bounds.{IsBoundOf, case_sum}
use Rattle.shunt_dual.proofs.Lengthened.{grown, sum_small, sum_there}
use Rattle.shunt_dual.proofs.longer.bound_with.Goals as goal
use Rattle.shunt_prices.proofs.Signed.{value_seen}
use Rattle.shunt_prices.proofs.Counts.{got_is}

pub bound_of-requires : goal.bound_of-requires
bound_of-requires c =
    let s = sum_small c.args.cases.now c.args.sums.now c.args.k c.index.result.now c.requires.sums c.requires.there c.index.ensures in
    let g = c.gain.ensures.small in
    record { low = omega (arith, ints, s.low, s.high, g.low, g.high); high = omega (arith, ints, s.low, s.high, g.low, g.high) }

pub returns : goal.returns
returns c = λ path at free.
    let night = c.args.instance.now in
    let cases = c.args.cases.now in
    let b = c.args.block.now in
    let k = c.args.k in
    let case = c.get-case.result.now in
    let s = sum_small cases c.args.sums.now k c.index.result.now c.requires.sums c.requires.there c.index.ensures in
    let g = c.gain.ensures.small in
    let is = got_is night cases k case c.get-case.ensures c.requires.there c.requires.cases in
    subst (IsBoundOf (case_sum night (path ++ b ∷ []) cases k)) (sym (to_z-of_z w64 c.bound_of.result (record { sfits = c.bound_of.type_inv })))
    (subst (λ (x : ℤ). IsBoundOf x c.bound_of.result)
    (grown night path b cases k case (to_z w64 (of_z w64 case.multiplier)) c.index.result.now c.gain.result _ c.get-case.ensures (value_seen case.multiplier is.multiplier)
    (sum_there night path cases c.args.sums.now k c.index.result.now at c.requires.there c.index.ensures) c.gain.ensures.exact
    (c.longer_paths.ensures.sum night path b (from_of cases k) (case_at cases k) free)
    (omega (arith, ints, s.low, s.high, g.low, g.high)))
    c.bound_of.ensures)
