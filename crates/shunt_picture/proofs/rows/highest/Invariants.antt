use Rattle.std.proofs.Common.{◌≤◌, ◌<◌, ◌+◌, All, length, take}
use Rattle.shunt_picture.proofs.rows.highest.Given as goal

abbrev pub invariant-loop-seat : goal.invariant-loop-seat
invariant-loop-seat l = record {
  greatest : All (λ s. l.minute < s.until → s.row ≤ l.highest) (take l.seat-index l.seats);
  from : 0 < l.highest → 401 ≤ l.highest + length l.seats;
  to : l.highest < 400 + length l.seats;
}
