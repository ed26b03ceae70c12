use mir.Syntax.{w64}
use mir.Val.{to_z, of_z}
use Rattle.std.proofs.Common.{◌+◌, ap, sym, subst, arith}
use Rattle.std.proofs.lemmas.Int.{ints, to_z-of_z}
use Rattle.shunt_base.specs.declared.duals.Case.{Case}
use Rattle.shunt_checker.proofs.bounds.improved.Goals as goal
use Rattle.shunt_prices.proofs.Signed.{below, not_below}
use Rattle.shunt_prices.proofs.Counts.{got}
use Rattle.shunt_prices.specs.defs.Bounds.{IsLeastBelow}
use Rattle.shunt_prices.proofs.LeastBelow.{closed, taken, kept}

pub returns-then-unparked-get : goal.returns-then-unparked-get
returns-then-unparked-get c =
    let to = ap (λ (x : Case). x.to) (got c.args.cases.now c.args.k c.get.result.now c.get.ensures) in
    subst (IsLeastBelow c.args.instance.now c.args.path.now.blocks c.args.cases.now (c.args.k + 1)) (sym (to_z-of_z w64 c.args.least c.ranges.least))
    (closed c.args.instance.now c.args.path.now.blocks c.args.cases.now c.args.k c.args.least (omega (arith, c.if-unparked-get.true, to, c.requires.unparked)) c.requires.least)

pub returns-then-bound-least : goal.returns-then-bound-least
returns-then-bound-least c =
    let to = ap (λ (x : Case). x.to) (got c.args.cases.now c.args.k c.get.result.now c.get.ensures) in
    let seen = to_z-of_z w64 c.case_bound-bound.result (record { sfits = c.case_bound-bound.type_inv }) in
    let old = to_z-of_z w64 c.args.least c.ranges.least in
    let lt = below (to_z w64 (of_z w64 c.case_bound-bound.result)) (to_z w64 (of_z w64 c.args.least)) c.if-bound-least.true in
    subst (IsLeastBelow c.args.instance.now c.args.path.now.blocks c.args.cases.now (c.args.k + 1)) (sym seen)
    (taken c.args.instance.now c.args.path.now.blocks c.args.cases.now c.args.k c.args.least c.case_bound-bound.result c.case_bound-bound.ensures c.requires.least c.requires.there
    (omega (arith, c.if-unparked-get.false, to, c.requires.unparked)) (omega (arith, ints, lt, seen, old)))

pub returns-else-bound-least : goal.returns-else-bound-least
returns-else-bound-least c =
    let seen = to_z-of_z w64 c.case_bound-bound.result (record { sfits = c.case_bound-bound.type_inv }) in
    let old = to_z-of_z w64 c.args.least c.ranges.least in
    let le = not_below (to_z w64 (of_z w64 c.case_bound-bound.result)) (to_z w64 (of_z w64 c.args.least)) c.if-bound-least.false in
    subst (IsLeastBelow c.args.instance.now c.args.path.now.blocks c.args.cases.now (c.args.k + 1)) (sym old)
    (kept c.args.instance.now c.args.path.now.blocks c.args.cases.now c.args.k c.args.least c.case_bound-bound.result c.case_bound-bound.ensures c.requires.least
    (omega (arith, ints, le, seen, old)))
