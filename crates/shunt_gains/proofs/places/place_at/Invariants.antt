use Rattle.std.proofs.Common.{◌≡◌, ◌-◌}
use Rattle.shunt_gains.specs.defs.Tables.{fixed_in, free_in, events_in}
use Rattle.shunt_gains.specs.defs.Places.{IsPlaceAt, Surround}
use Rattle.shunt_gains.proofs.places.place_at.Given as goal

abbrev pub decreases-places : goal.decreases-places
decreases-places l = l.at - l.place.x

abbrev pub invariant-places : goal.invariant-places
invariant-places l = record {
  there : IsPlaceAt (events_in l.pieces) l.at l.place;
  surround : Surround (fixed_in l.pieces) (free_in l.pieces) (events_in l.pieces) l.room l.at l.place;
}
