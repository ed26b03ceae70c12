use Rattle.std.proofs.Common.{◌≡◌, ◌≤◌, length, take}
use Rattle.shunt_picture.specs.defs.Rows.{standings_on}
use Rattle.shunt_picture.proofs.track_stays.standings_on.Given as goal

abbrev pub invariant-loop-block : goal.invariant-loop-block
invariant-loop-block l = record {
  exact : l.standings.items ≡ standings_on l.instance l.track (take l.block-index l.blocks);
  few : length l.standings.items ≤ l.block-index;
}
