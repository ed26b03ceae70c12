use Rattle.std.proofs.Common.{◌≡◌, ◌<◌, length}
use Rattle.std.specs.List.{All}
use Rattle.shunt_base.specs.defs.Keys.{AreStays}
use Rattle.shunt_tables.proofs.stays.stays.Given as goal
use Rattle.shunt_stays.proofs.NumberedStays.{AreBelow}

abbrev pub invariant-loop-number : goal.invariant-loop-number
invariant-loop-number l = record {
  formed : AreStays l.all.items;
  below : AreBelow l.number l.all.items;
  tracks : All (λ s. s.track.0 < l.tracks) l.all.items;
  size : length l.all.items ≡ l.number;
}
