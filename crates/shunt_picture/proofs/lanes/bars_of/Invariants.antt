use Rattle.std.proofs.Common.{◌≡◌, map, take}
use Rattle.shunt_picture.specs.defs.Lanes.{bar_of}
use Rattle.shunt_picture.proofs.lanes.bars_of.Given as goal

abbrev pub invariant-loop-seat : goal.invariant-loop-seat
invariant-loop-seat l = l.bars.items ≡ map (bar_of l.instance l.findings) (take l.seat-index l.seats)
