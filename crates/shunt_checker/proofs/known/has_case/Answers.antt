use Rattle.std.proofs.Common.{refl, arith}
use Rattle.std.specs.List.{Contains}
use Rattle.shunt_checker.proofs.Kept.{not_yet, not_here, is_here, nowhere}
use Rattle.shunt_checker.proofs.Looked.{refuted}
use Rattle.shunt_checker.proofs.known.has_case.Goals as goal

pub loop-k-init : goal.loop-k-init
loop-k-init c = not_yet c.args.cases.now c.args.case.now

pub loop-k-preserved : goal.loop-k-preserved
loop-k-preserved c = not_here c.args.cases.now c.args.case.now c.loop-k.k c.get.result.now c.is_same_case.result c.get.ensures c.is_same_case.ensures c.if-is_same_case.false
    c.loop-k.invariant

pub returns-then-is_same_case : goal.returns-then-is_same_case
returns-then-is_same_case c = (
  λ t. is_here c.args.cases.now c.args.case.now c.loop-k.k c.get.result.now c.is_same_case.result
      (omega (arith, c.loop-k-test.true, c.len-k-end.ensures.value)) c.get.ensures c.is_same_case.ensures c.if-is_same_case.true,
  λ h. refl,
)

pub returns : goal.returns
returns c = refuted (Contains c.args.cases.now c.args.case.now) (nowhere c.args.cases.now c.args.case.now c.loop-k.k
    (omega (arith, c.loop-k-test.false, c.len-k-end.ensures.value)) c.loop-k.invariant)
