use Rattle.std.proofs.Common.{◌≡◌, ◌≤◌, ◌*◌, take}
use Rattle.shunt_page.specs.defs.Occupancy.{load_on}
use Rattle.shunt_page.proofs.occupancy.load_on.Given as goal

abbrev pub invariant-loop-block : goal.invariant-loop-block
invariant-loop-block l = record {
  load : l.load ≡ load_on l.track.0 (take l.block-index l.stood);
  small : l.load ≤ 4294967296 * l.block-index;
}
