use Rattle.std.proofs.Common.{◌≡◌, take}
use Rattle.std.specs.List.{count_by}
use Rattle.shunt_stays.specs.defs.Crossings.{crosses}
use Rattle.shunt_cross.proofs.crossings.crossed_by.Given as goal

abbrev pub invariant-loop-later : goal.invariant-loop-later
invariant-loop-later l = l.count ≡ count_by (crosses l.earlier) (take l.later-index l.stays)
