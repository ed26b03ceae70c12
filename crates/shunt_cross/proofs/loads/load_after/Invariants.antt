use Rattle.std.proofs.Common.{◌≡◌, take}
use Rattle.shunt_stays.specs.defs.Crossings.{load_at}
use Rattle.shunt_cross.proofs.loads.load_after.Given as goal

abbrev pub invariant-loop-other : goal.invariant-loop-other
invariant-loop-other l = l.total ≡ load_at (take l.other-index l.stays) l.stay.track.0 l.stay.enter
