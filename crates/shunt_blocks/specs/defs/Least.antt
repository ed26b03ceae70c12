-- The least cost of parking a shape, side by side and track by track.
use Rattle.std.specs.Prelude.{ℕ, zero, suc, ◌+◌, min, if◌then◌else◌, Option, Some, None}
use Rattle.shunt_base.specs.declared.ids.DepId.{DepId}
use Rattle.shunt_base.specs.declared.ids.TrackId.{TrackId}
use Rattle.shunt_base.specs.declared.ids.Side.{Side}
use Rattle.shunt_base.specs.declared.ids.Side.TheVariants.{A, B}
use Rattle.shunt_instance.specs.defs.Words.{train_at}
use Rattle.shunt_instance.specs.defs.Instance.{Night}
use Rattle.shunt_blocks.specs.declared.records.Shape.{Shape}
use Rattle.shunt_blocks.specs.defs.Ways.{shape_way_in, way_to, permits_units}

-- the lesser of two costs, where there is one
abbrev pub lesser : Option ℕ → Option ℕ → Option ℕ
lesser None other = other
lesser (Some x) None = Some x
lesser (Some x) (Some y) = Some (min x y)

-- the lesser cost of the two sides
abbrev pub least_side : (Side → Option ℕ) → Option ℕ
least_side cost = lesser (cost A) (cost B)

-- the least cost of a way in to a track, and of a way out from it
abbrev pub least_way_in : Night → Shape → TrackId → Option ℕ
least_way_in night s track = least_side (shape_way_in night s track)

abbrev pub least_way_out : Night → DepId → TrackId → Option ℕ
least_way_out night dep track = least_side (way_to night.station (train_at night.depart dep.0).origin track)

-- both costs, where there are both
abbrev pub both : Option ℕ → Option ℕ → Option ℕ
both None other = None
both (Some x) None = None
both (Some x) (Some y) = Some (x + y)

-- the least cost of parking a shape on a track
abbrev pub least_on : Night → Shape → TrackId → Option ℕ
least_on night s track = if permits_units night s track then both (least_way_in night s track) (least_way_out night s.dep track) else None

-- the lesser of a cost and of one that may be absent
abbrev pub improved : ℕ → Option ℕ → ℕ
improved best None = best
improved best (Some cost) = min best cost

-- the least cost of an option that is unparked or on one of the tracks below n
abbrev pub least_below : Night → Shape → ℕ → ℕ
least_below night s zero = night.station.unparked
least_below night s (suc n) = improved (least_below night s n) (least_on night s (record { 0 = n }))
