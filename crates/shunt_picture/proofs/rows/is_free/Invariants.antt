use Rattle.std.proofs.Common.{◌≢◌, ◌<◌, All, take}
use Rattle.shunt_picture.proofs.rows.is_free.Given as goal

abbrev pub invariant-loop-seat : goal.invariant-loop-seat
invariant-loop-seat l = All (λ s. l.minute < s.until → s.row ≢ l.row) (take l.seat-index l.seats)
