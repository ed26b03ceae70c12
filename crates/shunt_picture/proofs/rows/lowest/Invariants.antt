use Rattle.std.proofs.Common.{◌≤◌, ◌<◌, ◌+◌, All, length, take}
use Rattle.shunt_picture.proofs.rows.lowest.Given as goal

abbrev pub invariant-loop-seat : goal.invariant-loop-seat
invariant-loop-seat l = record {
  least : All (λ s. l.minute < s.until → l.lowest ≤ s.row) (take l.seat-index l.seats);
  from : 401 ≤ l.lowest + length l.seats;
  to : l.lowest ≤ 900;
  some : l.lowest < 900 → l.lowest < 400 + length l.seats;
}
