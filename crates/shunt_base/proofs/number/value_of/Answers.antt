use Rattle.std.proofs.Common.{arith}
use Rattle.shunt_base.proofs.Decimal.{digit_in, next, next_small}
use Rattle.shunt_base.proofs.number.value_of.Goals as goal

pub overflow_sub-b : goal.overflow_sub-b
overflow_sub-b c = (digit_in c.args.bytes.now c.requires c.loop-b.b-index c.loop-b-test.true).0

pub overflow_mul-value : goal.overflow_mul-value
overflow_mul-value c = omega (arith, next_small c.args.bytes.now c.loop-b.b-index c.requires c.loop-b-test.true, c.loop-b.invariant)

pub overflow_add-value : goal.overflow_add-value
overflow_add-value c = omega (arith, next_small c.args.bytes.now c.loop-b.b-index c.requires c.loop-b-test.true, c.loop-b.invariant, c.from.ensures)

pub loop-b-preserved : goal.loop-b-preserved
loop-b-preserved c = omega (arith, next c.args.bytes.now c.loop-b.b-index c.requires c.loop-b-test.true, c.loop-b.invariant, c.from.ensures)
