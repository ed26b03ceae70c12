use Rattle.std.proofs.Common.{refl, arith}
use Rattle.shunt_dual.proofs.WalkBack.{walk_step}
use Rattle.shunt_dual.proofs.steps.walk.Goals as goal

pub back-smaller : goal.back-smaller
back-smaller c = (c.back.invariant.links c.back.c c.back-test.true (omega arith)).1

pub back-preserved : goal.back-preserved
back-preserved c = walk_step c.args.n c.args.end c.args.rows c.back.c _ c.args.way.now c.args.when.now c.args.place.now c.args.owner.now _ _ (omega arith)
    (omega arith) c.requires.rows c.back-test.true refl c.back.invariant
