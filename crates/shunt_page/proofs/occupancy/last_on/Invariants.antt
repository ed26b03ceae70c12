use Rattle.std.proofs.Common.{◌≡◌, take}
use Rattle.shunt_page.specs.defs.Occupancy.{last_on}
use Rattle.shunt_page.proofs.occupancy.last_on.Given as goal

abbrev pub invariant-loop-block : goal.invariant-loop-block
invariant-loop-block l = l.last ≡ last_on l.track.0 (take l.block-index l.stood)
