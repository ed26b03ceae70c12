use Rattle.shunt_dual.specs.defs.Weighed.{TracksHold}
use Rattle.shunt_dual.proofs.feasibility.tracks_hold.Given as goal

abbrev pub invariant-loop-t : goal.invariant-loop-t
invariant-loop-t l = TracksHold l.asked l.instance l.prices l.fn.shape l.sum l.t
