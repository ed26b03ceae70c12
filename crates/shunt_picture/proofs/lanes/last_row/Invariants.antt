use Rattle.std.proofs.Common.{◌≡◌, ◌≤◌, ◌<◌, ◌+◌, All, map, length, take}
use Rattle.shunt_picture.specs.defs.Lanes.{last_of}
use Rattle.shunt_picture.proofs.lanes.last_row.Given as goal

abbrev pub invariant-loop-seat : goal.invariant-loop-seat
invariant-loop-seat l = record {
  exact : l.last ≡ last_of (map (λ s. s.row) (take l.seat-index l.seats));
  greatest : All (λ s. s.row ≤ l.last) (take l.seat-index l.seats);
  small : l.last < 400 + length l.seats;
}
