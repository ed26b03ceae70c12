use Rattle.std.proofs.Common.{◌≡◌, ◌≤◌, ◌-◌, ◌+◌, filter}
use Rattle.std.specs.List.{range_with_len}
use Rattle.shunt_picture.specs.defs.Marks.{is_told}
use Rattle.shunt_picture.proofs.marks.places_of.Given as goal

abbrev pub invariant-loop-place : goal.invariant-loop-place
invariant-loop-place l = record {
  from : 1 ≤ l.place;
  to : l.place ≤ l.count + 1;
  places : l.places.items ≡ filter (λ place. is_told l.findings l.kind (l.first + place)) (range_with_len 1 (l.place - 1));
}
