use mir.Syntax.{w64}
use Rattle.std.proofs.Common.{◌-◌, sym, subst, arith}
use Rattle.std.proofs.lemmas.Int.{to_z-of_z}
use Rattle.shunt_checker.proofs.bounds.cases_bound.Goals as goal
use Rattle.shunt_prices.specs.defs.Bounds.{IsLeastBelow}
use Rattle.shunt_prices.proofs.LeastBelow.{last_first, all_of}

pub loop-k-init : goal.loop-k-init
loop-k-init c =
    subst (IsLeastBelow c.args.instance.now c.args.path.now.blocks c.args.cases.now 0)
    (sym (to_z-of_z w64 c.case_bound-least.result (record { sfits = c.case_bound-least.type_inv })))
    (last_first c.args.instance.now c.args.path.now.blocks c.args.cases.now (c.len-last.result - 1) c.case_bound-least.result
    (omega (arith, c.len-last.ensures.value, c.len-last.ensures.some)) c.case_bound-least.ensures)

pub returns : goal.returns
returns c = all_of c.args.instance.now c.args.path.now.blocks c.args.cases.now c.loop-k.k _ (omega (arith, c.loop-k-test.false, c.len-last.ensures.value)) c.loop-k.invariant
