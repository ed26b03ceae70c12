use Rattle.std.proofs.Common.{arith}
use Rattle.std.proofs.lemmas.Int.{ints}
use Rattle.shunt_dual.proofs.LastRows.{pushed}
use Rattle.shunt_dual.proofs.table.negated.Goals as goal

pub loop-number-preserved : goal.loop-number-preserved
loop-number-preserved c =
    let i = c.loop-number.number-index in
    pushed c.args.numbers.now i _ _ _ c.loop-number-test.true c.loop-number.invariant c.in_ok-push.ensures.items (omega (arith, ints, c.requires i c.loop-number-test.true))
