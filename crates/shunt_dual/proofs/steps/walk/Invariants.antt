use Rattle.shunt_dual.specs.defs.Tables.{at}
use Rattle.shunt_dual.proofs.WalkBack.{IsWalking}
use Rattle.shunt_dual.proofs.steps.walk.Given as goal

abbrev pub invariant-back : goal.invariant-back
invariant-back l = IsWalking l.n l.end l.rows l.c l.way l.when l.fn.place l.fn.owner l.place l.owner

abbrev pub decreases-back : goal.decreases-back
decreases-back l = at l.when l.c
