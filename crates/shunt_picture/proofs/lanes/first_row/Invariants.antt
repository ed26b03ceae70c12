use Rattle.std.proofs.Common.{◌≡◌, ◌≤◌, All, map, take}
use Rattle.shunt_picture.specs.defs.Lanes.{first_of}
use Rattle.shunt_picture.proofs.lanes.first_row.Given as goal

abbrev pub invariant-loop-seat : goal.invariant-loop-seat
invariant-loop-seat l = record {
  exact : l.first ≡ first_of (map (λ s. s.row) (take l.seat-index l.seats));
  least : All (λ s. l.first ≤ s.row) (take l.seat-index l.seats);
}
