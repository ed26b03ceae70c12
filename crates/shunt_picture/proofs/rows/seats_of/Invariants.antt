use Rattle.std.proofs.Common.{◌≡◌, IsTrue, All, AllPairs, length, map, take}
use Rattle.shunt_picture.specs.defs.Rows.{AreRowsApart, HaveRoom, ShowsOrder, IsRowAmong}
use Rattle.shunt_picture.proofs.Seated.{AreLate}
use Rattle.shunt_picture.proofs.rows.seats_of.Given as goal

abbrev pub invariant-loop-standing : goal.invariant-loop-standing
invariant-loop-standing l = record {
  count : length l.seats.items ≡ l.standing-index;
  same : map (λ s. s.standing) l.seats.items ≡ take l.standing-index l.standings;
  apart : AllPairs AreRowsApart l.seats.items;
  room : AllPairs (HaveRoom l.from l.is_ordered) l.seats.items;
  order : IsTrue l.is_ordered → AllPairs ShowsOrder l.seats.items;
  late : AreLate l.from l.is_ordered l.seats.items;
  among : All (λ s. IsRowAmong (length l.seats.items) s.row) l.seats.items;
}
