use mir.Syntax.{w64}
use mir.Val.{to_z, of_z}
use Rattle.std.proofs.Common.{◌+◌, ◌∷◌, ◌++◌, [], ap, sym, subst, arith}
use Rattle.std.proofs.lemmas.Int.{ints, to_z-of_z}
use Rattle.shunt_base.specs.declared.duals.Case.{Case}
use Rattle.shunt_dual.proofs.Lengthened.{unparked_now, is_few, is_many}
use Rattle.shunt_dual.proofs.longer.improved.Goals as goal
use Rattle.shunt_prices.proofs.Signed.{below, not_below}
use Rattle.shunt_prices.proofs.Counts.{got}
use Rattle.shunt_prices.specs.defs.Bounds.{IsLeastBelow}
use Rattle.shunt_prices.proofs.LeastBelow.{closed, taken, kept}

pub returns-then-not-are_at_most : goal.returns-then-not-are_at_most
returns-then-not-are_at_most c = λ path at free.
    let to = ap (λ (x : Case). x.to) (got c.args.cases.now c.args.k c.get.result.now c.get.ensures) in
    let many = is_many _ _ _ c.are_at_most.ensures c.if-not-are_at_most.true in
    subst (IsLeastBelow c.args.instance.now (path ++ c.args.block.now ∷ []) c.args.cases.now (c.args.k + 1)) (sym (to_z-of_z w64 c.args.least c.ranges.least))
    (closed c.args.instance.now (path ++ c.args.block.now ∷ []) c.args.cases.now c.args.k c.args.least
    (omega (arith, many, to, unparked_now c.args.instance.now path c.args.cases.now c.args.sums.now c.args.block.now at)) (c.requires.least path at free))

pub returns-then-bound-least : goal.returns-then-bound-least
returns-then-bound-least c = λ path at free.
    let to = ap (λ (x : Case). x.to) (got c.args.cases.now c.args.k c.get.result.now c.get.ensures) in
    let few = is_few _ _ _ c.are_at_most.ensures c.if-not-are_at_most.false in
    let seen = to_z-of_z w64 c.bound_with-bound.result (record { sfits = c.bound_with-bound.type_inv }) in
    let old = to_z-of_z w64 c.args.least c.ranges.least in
    let lt = below (to_z w64 (of_z w64 c.bound_with-bound.result)) (to_z w64 (of_z w64 c.args.least)) c.if-bound-least.true in
    subst (IsLeastBelow c.args.instance.now (path ++ c.args.block.now ∷ []) c.args.cases.now (c.args.k + 1)) (sym seen)
    (taken c.args.instance.now (path ++ c.args.block.now ∷ []) c.args.cases.now c.args.k c.args.least c.bound_with-bound.result (c.bound_with-bound.ensures path at free)
    (c.requires.least path at free) c.requires.there
    (omega (arith, few, to, unparked_now c.args.instance.now path c.args.cases.now c.args.sums.now c.args.block.now at)) (omega (arith, ints, lt, seen, old)))

pub returns-else-bound-least : goal.returns-else-bound-least
returns-else-bound-least c = λ path at free.
    let seen = to_z-of_z w64 c.bound_with-bound.result (record { sfits = c.bound_with-bound.type_inv }) in
    let old = to_z-of_z w64 c.args.least c.ranges.least in
    let le = not_below (to_z w64 (of_z w64 c.bound_with-bound.result)) (to_z w64 (of_z w64 c.args.least)) c.if-bound-least.false in
    subst (IsLeastBelow c.args.instance.now (path ++ c.args.block.now ∷ []) c.args.cases.now (c.args.k + 1)) (sym old)
    (kept c.args.instance.now (path ++ c.args.block.now ∷ []) c.args.cases.now c.args.k c.args.least c.bound_with-bound.result (c.bound_with-bound.ensures path at free)
    (c.requires.least path at free)
    (omega (arith, ints, le, seen, old)))
