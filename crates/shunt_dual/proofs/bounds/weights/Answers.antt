use mir.Syntax.{w64}
use mir.Val.{to_z, of_z}
use Rattle.std.specs.Prelude.{None}
use Rattle.std.proofs.Common.{arith}
use Rattle.std.proofs.lemmas.Int.{ints}
use Rattle.shunt_blocks.specs.declared.records.Block.{Block}
use Rattle.shunt_prices.specs.defs.Cases.{weight}
use Rattle.shunt_dual.specs.defs.Weighed.{case_of}
use Rattle.shunt_dual.proofs.bounds.weights.Goals as goal
use Rattle.shunt_prices.proofs.Signed.{joined}
use Rattle.shunt_prices.proofs.Counts.{sum_more, wider_more}

no_block : Block
no_block = record { id = 0; arr = record { 0 = 0 }; p = 0; n = 0; dep = record { 0 = 0 }; q = 0; park = None }

pub loop-block-preserved : goal.loop-block-preserved
unfolding no_block
loop-block-preserved c =
    let w = c.weight-total.ensures.small in
    let t = c.loop-block.invariant.small in
    let short = c.requires.few in
    let lt = c.loop-block-test.true in
    let i = c.loop-block.block-index in
    record {
      exact = sum_more (weight c.args.instance.now (case_of (to_z w64 (of_z w64 c.args.multiplier)) c.args.duals.now)) c.args.blocks.now i no_block _ lt
          (joined _ (to_z w64 c.loop-block.total-bits) c.weight-total.result _ _ (omega (arith, ints, w.low, w.high, t.low, t.high, short, lt)) c.loop-block.invariant.exact
          c.weight-total.ensures.exact);
      small = wider_more i 23040939999999999 (to_z w64 c.loop-block.total-bits) c.weight-total.result _ (omega (arith, ints, w.low, w.high, t.low, t.high, short, lt)) w t;
    }
