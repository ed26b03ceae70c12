use Rattle.std.proofs.Common.{arith}
use Rattle.shunt_dual.proofs.LeastPart.{first_part, next_part}
use Rattle.shunt_dual.proofs.pair_shares.least_from.Goals as goal

pub loop-k-init : goal.loop-k-init
loop-k-init c = first_part c.args.instance.now c.args.u c.args.v c.args.back _ _ (omega arith) c.part_around-least.ensures

pub loop-k-preserved : goal.loop-k-preserved
loop-k-preserved c =
    next_part c.args.instance.now c.args.u c.args.v c.args.back c.loop-k.k _ _ _ _ (omega arith) c.loop-k.invariant c.part_around.ensures
    c.lesser-least.ensures.first c.lesser-least.ensures.second c.lesser-least.ensures.one
