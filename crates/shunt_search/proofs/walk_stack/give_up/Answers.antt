use Rattle.std.proofs.Common.{w64, to_z, of_z, ◌+◌, sym, subst, arith}
use Rattle.std.proofs.lemmas.Int.{to_z-of_z}
use Rattle.shunt_search.proofs.Walked.{IsLeastOf, least_first, least_next, least_all}
use Rattle.shunt_search.proofs.walk_stack.give_up.Goals as goal

pub loop-t-init : goal.loop-t-init
loop-t-init c = least_first _ c.args.waiting.now

pub loop-t-preserved : goal.loop-t-preserved
loop-t-preserved c =
    subst (λ z. IsLeastOf (to_z w64 (of_z w64 c.args.low)) c.args.waiting.now (c.loop-t.t-index + 1) z)
    (sym (to_z-of_z w64 c.lesser-bound.result (record { sfits = c.lesser-bound.type_inv })))
    (least_next _ c.args.waiting.now c.loop-t.t-index _ _ c.lesser-bound.result c.loop-t-test.true c.lesser-bound.ensures c.loop-t.invariant)

pub returns-clause-left : goal.returns-clause-left
returns-clause-left c = least_all _ c.args.waiting.now c.loop-t.t-index _ (omega (arith, c.loop-t-test.false)) c.loop-t.invariant
