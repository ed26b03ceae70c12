-- Shapes: which units and positions they have, and when these go together.
use Rattle.std.specs.Prelude.{ℕ, ◌+◌, ◌-◌, ◌<◌, ◌≤◌, ◌==◌, ◌&&◌, nat_le, Bool, IfSome, length, Option}
use Rattle.shunt_instance.specs.defs.Words.{train_at}
use Rattle.shunt_instance.specs.defs.Instance.{Night, unit_at, position_at, ready, leaves, first_unit, first_position}
use Rattle.shunt_instance.specs.defs.Matching.{Entry, IsMatchable}
use Rattle.shunt_instance.specs.declared.records.Station.{Station}
use Rattle.shunt_blocks.specs.declared.records.Shape.{Shape}
use Rattle.shunt_blocks.specs.declared.records.Block.{Block}
use Rattle.shunt_blocks.specs.declared.records.Park.{Park}

-- the block without its id and its option
abbrev pub shape_of : Block → Shape
shape_of b = record { arr = b.arr; p = b.p; n = b.n; dep = b.dep; q = b.q }

-- both trains are there, and both runs begin at place 1 or later and end inside their trains
pub record AreRunsWithin (night : Night) (s : Shape) : Type 0 where
  pub arr : s.arr.0 < length night.arrive
  pub dep : s.dep.0 < length night.depart
  pub p : 1 ≤ s.p
  pub n : 1 ≤ s.n
  pub q : 1 ≤ s.q
  pub units : s.p + s.n ≤ length (train_at night.arrive s.arr.0).units + 1
  pub positions : s.q + s.n ≤ length (train_at night.depart s.dep.0).units + 1

-- the track of a parked block is the station's
abbrev pub IsOnTrack : Station → Option Park → Type 0
IsOnTrack s park = IfSome park (λ k. k.track.0 < length s.tracks)

-- trains, runs and track are the night's, whatever the id
pub record IsWithinTrains (night : Night) (b : Block) : Type 0 where
  pub runs : AreRunsWithin night (shape_of b)
  pub track : IsOnTrack night.station b.park

-- the same, with an id from 1 to 1,000,000
pub record IsInRange (night : Night) (b : Block) : Type 0 where
  pub from : 1 ≤ b.id
  pub to : b.id ≤ 1000000
  pub within : IsWithinTrains night b

-- the number of the first unit
abbrev pub unit_from : Night → Shape → ℕ
unit_from night s = first_unit night s.arr.0 + (s.p - 1)

-- the first unit of a block
abbrev pub begins_at : Night → Block → ℕ
begins_at night b = unit_from night (shape_of b)

-- the number of the first position
abbrev pub position_from : Night → Shape → ℕ
position_from night s = first_position night s.dep.0 + (s.q - 1)

-- whether a unit with a number is one of the shape's
pub record HasUnit (night : Night) (s : Shape) (u : ℕ) : Type 0 where
  pub from : unit_from night s ≤ u
  pub to : u < unit_from night s + s.n

-- whether a position with a number is one of the shape's
pub record HasPosition (night : Night) (s : Shape) (v : ℕ) : Type 0 where
  pub from : position_from night s ≤ v
  pub to : v < position_from night s + s.n

-- the type of a unit and the minute from which it is ready
abbrev pub unit_entry : Night → ℕ → Entry
unit_entry night u = record { kind = (unit_at night u).kind.0; minute = ready night u }

-- the type of a position and the minute at which it leaves
abbrev pub position_entry : Night → ℕ → Entry
position_entry night v = record { kind = (position_at night v).kind.0; minute = leaves night v }

-- the unit and the position with these numbers are matchable
abbrev pub IsPair : Night → ℕ → ℕ → Type 0
IsPair night u v = IsMatchable (unit_entry night u) (position_entry night v)

-- whether `IsPair` holds
abbrev pub is_pair : Night → ℕ → ℕ → Bool
is_pair night u v = (unit_at night u).kind.0 == (position_at night v).kind.0 && nat_le (ready night u) (leaves night v)

-- the runs are within their trains, and their units and positions are matchable pair by pair
pub record IsShape (night : Night) (s : Shape) : Type 0 where
  pub within : AreRunsWithin night s
  pub pairs : (k : ℕ) → k < s.n → IsPair night (unit_from night s + k) (position_from night s + k)
