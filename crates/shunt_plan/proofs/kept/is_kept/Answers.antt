use Rattle.std.proofs.Common.{refl}
use Rattle.shunt_plan.proofs.Fronts.{kept_here, not_yet}
use Rattle.shunt_plan.proofs.kept.is_kept.Goals as goal

pub returns-then-is_same : goal.returns-then-is_same
returns-then-is_same c = kept_here c.args.blocks.now c.args.pin.now c.loop-block.block-index _ c.loop-block-test.true (c.if-is_same.ensures.0 refl)

pub loop-block-preserved : goal.loop-block-preserved
loop-block-preserved c = not_yet c.args.blocks.now c.args.pin.now c.loop-block.block-index _ c.loop-block-test.true c.loop-block.invariant c.if-is_same.ensures.1
