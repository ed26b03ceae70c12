use mir.Syntax.{w64}
use mir.Val.{to_z, of_z}
use Rattle.std.specs.Prelude.{pos}
use Rattle.std.proofs.Common.{◌≡◌, ◌+◌, ℤ, ap, sym, subst, get_or, arith}
use Rattle.std.proofs.lemmas.Int.{ints, to_z-of_z}
use Rattle.shunt_base.specs.declared.duals.Case.{Case}
use Rattle.shunt_prices.specs.defs.Sums.{IsWithin}
use Rattle.shunt_prices.specs.defs.Bounds.{IsBoundOf}
use Rattle.shunt_fillings.specs.defs.Least.{IsLeastBelow}
use Rattle.shunt_fillings.proofs.Opened.{closed, taken, kept}
use Rattle.shunt_fillings.proofs.bounds.improved.Goals as goal
use Rattle.shunt_prices.proofs.Signed.{below, not_below}
use Rattle.shunt_prices.proofs.Counts.{got}

pub returns-then-unparked-get : goal.returns-then-unparked-get
returns-then-unparked-get c =
    let to = ap (λ (x : Case). x.to) (got c.args.cases.now c.args.k c.get.result.now c.get.ensures) in
    λ path own h. subst (IsLeastBelow c.args.cases.now path c.args.sums.now (c.args.k + 1)) (sym (to_z-of_z w64 c.args.least c.ranges.least))
    (closed path c.args.cases.now c.args.sums.now c.args.k c.args.least (omega (arith, c.if-unparked-get.true, to, own)) h)

pub returns-then-bound-least : goal.returns-then-bound-least
returns-then-bound-least c =
    let to = ap (λ (x : Case). x.to) (got c.args.cases.now c.args.k c.get.result.now c.get.ensures) in
    let seen = to_z-of_z w64 c.bound_of-bound.result (record { sfits = c.bound_of-bound.type_inv }) in
    let old = to_z-of_z w64 c.args.least c.ranges.least in
    let lt = below (to_z w64 (of_z w64 c.bound_of-bound.result)) (to_z w64 (of_z w64 c.args.least)) c.if-bound-least.true in
    let there = c.requires.there in
    let long = c.requires.long in
    let value : IsWithin 4100000000000000000 (get_or c.args.sums.now c.args.k (pos 0)) = c.requires.small c.args.k (pos 0) (omega (arith, there, long)) in
    let is : to_z w64 (of_z w64 (get_or c.args.sums.now c.args.k (pos 0))) ≡ get_or c.args.sums.now c.args.k (pos 0) = omega (arith, ints, value.low, value.high) in
    let here = subst (λ (s : ℤ). IsBoundOf s c.bound_of-bound.result) is c.bound_of-bound.ensures in
    λ path own h. subst (IsLeastBelow c.args.cases.now path c.args.sums.now (c.args.k + 1)) (sym seen)
    (taken path c.args.cases.now c.args.sums.now c.args.k c.args.least c.bound_of-bound.result here h there (omega (arith, c.if-unparked-get.false, to, own))
    (omega (arith, ints, lt, seen, old)))

pub returns-else-bound-least : goal.returns-else-bound-least
returns-else-bound-least c =
    let seen = to_z-of_z w64 c.bound_of-bound.result (record { sfits = c.bound_of-bound.type_inv }) in
    let old = to_z-of_z w64 c.args.least c.ranges.least in
    let le = not_below (to_z w64 (of_z w64 c.bound_of-bound.result)) (to_z w64 (of_z w64 c.args.least)) c.if-bound-least.false in
    let there = c.requires.there in
    let long = c.requires.long in
    let value : IsWithin 4100000000000000000 (get_or c.args.sums.now c.args.k (pos 0)) = c.requires.small c.args.k (pos 0) (omega (arith, there, long)) in
    let is : to_z w64 (of_z w64 (get_or c.args.sums.now c.args.k (pos 0))) ≡ get_or c.args.sums.now c.args.k (pos 0) = omega (arith, ints, value.low, value.high) in
    let here = subst (λ (s : ℤ). IsBoundOf s c.bound_of-bound.result) is c.bound_of-bound.ensures in
    λ path own h. subst (IsLeastBelow c.args.cases.now path c.args.sums.now (c.args.k + 1)) (sym old)
    (kept path c.args.cases.now c.args.sums.now c.args.k c.args.least c.bound_of-bound.result here h (omega (arith, ints, le, seen, old)))
