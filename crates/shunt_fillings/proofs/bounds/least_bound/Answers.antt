use mir.Syntax.{w64}
use mir.Val.{to_z, of_z}
use Rattle.std.specs.Prelude.{pos}
use Rattle.std.proofs.Common.{◌≡◌, ◌-◌, ℤ, sym, subst, get_or, arith}
use Rattle.std.proofs.lemmas.Int.{ints, to_z-of_z}
use Rattle.shunt_prices.specs.defs.Sums.{IsWithin}
use Rattle.shunt_prices.specs.defs.Bounds.{IsBoundOf}
use Rattle.shunt_fillings.specs.defs.Least.{IsLeastBelow}
use Rattle.shunt_fillings.proofs.Opened.{last_first, all_of}
use Rattle.shunt_fillings.proofs.bounds.least_bound.Goals as goal

pub loop-k-init : goal.loop-k-init
loop-k-init c =
    let len = c.len-last.ensures in
    let long = c.requires.long in
    let value : IsWithin 4100000000000000000 (get_or c.args.sums.now (c.len-last.result - 1) (pos 0)) = c.requires.small (c.len-last.result - 1) (pos 0)
    (omega (arith, len.value, len.some, long)) in
    let is : to_z w64 (of_z w64 (get_or c.args.sums.now (c.len-last.result - 1) (pos 0)))
    ≡ get_or c.args.sums.now (c.len-last.result - 1) (pos 0) = omega (arith, ints, value.low, value.high) in
    let here = subst (λ (s : ℤ). IsBoundOf s c.bound_of-least.result) is c.bound_of-least.ensures in
    λ path own. subst (IsLeastBelow c.args.cases.now path c.args.sums.now 0) (sym (to_z-of_z w64 c.bound_of-least.result (record { sfits = c.bound_of-least.type_inv })))
    (last_first path c.args.cases.now c.args.sums.now (c.len-last.result - 1) c.bound_of-least.result (omega (arith, len.value, len.some)) here)

pub returns : goal.returns
returns c = λ path own. all_of path c.args.cases.now c.args.sums.now c.loop-k.k _ (omega (arith, c.loop-k-test.false, c.len-last.ensures.value)) (c.loop-k.invariant path own)
