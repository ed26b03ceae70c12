use mir.Syntax.{w64}
use Rattle.std.proofs.Common.{◌+◌, ◌-◌, ◌∷◌, ◌++◌, [], sym, subst, arith}
use Rattle.std.proofs.lemmas.Int.{to_z-of_z}
use Rattle.shunt_dual.proofs.longer.longer_bound.Goals as goal
use Rattle.shunt_prices.specs.defs.Bounds.{IsLeastBelow}
use Rattle.shunt_prices.proofs.LeastBelow.{last_first, all_of}

pub loop-k-init : goal.loop-k-init
loop-k-init c = λ path at free.
    subst (IsLeastBelow c.args.instance.now (path ++ c.args.block.now ∷ []) c.args.cases.now 0)
    (sym (to_z-of_z w64 c.bound_with-least.result (record { sfits = c.bound_with-least.type_inv })))
    (last_first c.args.instance.now (path ++ c.args.block.now ∷ []) c.args.cases.now (c.len-last.result - 1) c.bound_with-least.result
    (omega (arith, c.len-last.ensures.value, c.len-last.ensures.some)) (c.bound_with-least.ensures path at free))

pub loop-k-preserved : goal.loop-k-preserved
loop-k-preserved c = λ path at free.
    subst (IsLeastBelow c.args.instance.now (path ++ c.args.block.now ∷ []) c.args.cases.now (c.loop-k.k + 1))
    (sym (to_z-of_z w64 c.improved-least.result (record { sfits = c.improved-least.type_inv })))
    (c.improved-least.ensures path at free)

pub returns : goal.returns
returns c = λ path at free. all_of c.args.instance.now (path ++ c.args.block.now ∷ []) c.args.cases.now c.loop-k.k _ (omega (arith, c.loop-k-test.false, c.len-last.ensures.value))
    (c.loop-k.invariant path at free)
