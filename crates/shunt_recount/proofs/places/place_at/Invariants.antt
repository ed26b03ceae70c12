use Rattle.std.proofs.Common.{◌-◌}
use Rattle.shunt_recount.specs.defs.Places.{IsPlaceAt, Surround}
use Rattle.shunt_recount.proofs.places.place_at.Given as goal

abbrev pub decreases-places : goal.decreases-places
decreases-places l = l.last - l.place.passed

abbrev pub invariant-places : goal.invariant-places
invariant-places l = record {
  there : IsPlaceAt l.moments l.at l.place;
  surround : Surround l.moments l.room l.at l.place;
}
