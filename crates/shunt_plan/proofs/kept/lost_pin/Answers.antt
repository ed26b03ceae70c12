use Rattle.std.proofs.Common.{refl}
use Rattle.shunt_blocks.specs.defs.Pins.{IsKept}
use Rattle.shunt_plan.proofs.Fronts.{first_lost, keeps_more}
use Rattle.shunt_plan.proofs.kept.lost_pin.Goals as goal
use Rattle.shunt_lists.proofs.Lists.{each_whole}

pub returns-then-not-is_kept-clause-some : goal.returns-then-not-is_kept-clause-some
returns-then-not-is_kept-clause-some c = first_lost c.args.plan.now.blocks c.as_slice-blocks.result.now c.args.pins.now c.loop-pin.pin-index _ c.as_slice-blocks.ensures
    c.loop-pin-test.true c.loop-pin.invariant c.if-not-is_kept.ensures.1

pub loop-pin-preserved : goal.loop-pin-preserved
loop-pin-preserved c = keeps_more c.args.plan.now.blocks c.as_slice-blocks.result.now c.args.pins.now c.loop-pin.pin-index _ c.as_slice-blocks.ensures c.loop-pin-test.true
    c.loop-pin.invariant (c.if-not-is_kept.ensures.0 refl)

pub returns-clause-none : goal.returns-clause-none
returns-clause-none c = (λ _. each_whole (IsKept c.args.plan.now.blocks) c.args.pins.now c.loop-pin.pin-index c.loop-pin-test.false c.loop-pin.invariant, λ _. refl)
