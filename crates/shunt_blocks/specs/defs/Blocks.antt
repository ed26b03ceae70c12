-- Options, blocks, and wrong types.
use Rattle.std.specs.Prelude.{◌+◌, ◌<◌, ◌==◌, Bool, true, false, not, ◌||◌, ◌&&◌, IsTrue, IsSome, is_some, length, Option, Some, None}
use Rattle.shunt_lists.specs.defs.Below.{all_below}
use Rattle.shunt_instance.specs.defs.Instance.{Night, unit_at, position_at}
use Rattle.shunt_blocks.specs.declared.records.Shape.{Shape}
use Rattle.shunt_blocks.specs.declared.records.Block.{Block}
use Rattle.shunt_blocks.specs.declared.records.Park.{Park}
use Rattle.shunt_blocks.specs.defs.Shapes.{shape_of, unit_from, position_from, IsShape, IsInRange}
use Rattle.shunt_blocks.specs.defs.Ways.{park_way_in, park_way_out, permits_units}

-- a shape can be parked here: the track permits the types of its units, and both ways exist
pub record IsParkable (night : Night) (s : Shape) (k : Park) : Type 0 where
  pub track : k.track.0 < length night.station.tracks
  pub permitted : IsTrue (permits_units night s k.track)
  pub way_in : IsSome (park_way_in night s k)
  pub way_out : IsSome (park_way_out night s.dep k)

-- an option of a shape: unparked, or a track with two sides where it can be parked
abbrev pub IsOption : Night → Shape → Option Park → Type 0
IsOption night s None = Unit {0}
IsOption night s (Some k) = IsParkable night s k

-- whether a shape can be parked on a track of the station: both ways exist, and the track permits the types of its units
abbrev pub can_park : Night → Shape → Park → Bool
can_park night s k = is_some (park_way_in night s k) && is_some (park_way_out night s.dep k) && permits_units night s k.track

-- whether this is an option of a shape, where its track is the station's
unfoldable pub is_option : Night → Shape → Option Park → Bool
is_option night s None = true
is_option night s (Some k) = can_park night s k

-- a shape with one of its options, whatever the id
pub record IsBlockButId (night : Night) (b : Block) : Type 0 where
  pub shape : IsShape night (shape_of b)
  pub option : IsOption night (shape_of b) b.park

-- a shape with one of its options and an id
pub record IsBlock (night : Night) (b : Block) : Type 0 where
  pub in_range : IsInRange night b
  pub shape : IsShape night (shape_of b)
  pub option : IsOption night (shape_of b) b.park

-- whether each unit has the type of its position
abbrev pub have_one_type : Night → Shape → Bool
have_one_type night s = all_below s.n (λ k. (unit_at night (unit_from night s + k)).kind.0 == (position_at night (position_from night s + k)).kind.0)

-- whether it is parked on a track that doesn't permit the type of one of the units
abbrev pub is_forbidden : Night → Shape → Option Park → Bool
is_forbidden night s None = false
is_forbidden night s (Some k) = not (permits_units night s k.track)

-- whether a pair of the block has two types, or it is parked on a track that doesn't permit the type of one of its units
abbrev pub type_fault : Night → Block → Bool
type_fault night b = not (have_one_type night (shape_of b)) || is_forbidden night (shape_of b) b.park
