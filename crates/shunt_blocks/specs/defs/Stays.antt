-- How long blocks are, and when they stand on a track.
use Rattle.std.specs.Prelude.{◌≡◌, ℕ, IsSome, IfSome, ◌+◌, ◌-◌, Bool, true, false, not, map, nat_le, if◌then◌else◌, Option, Some, None, slice_index}
use Rattle.shunt_lists.specs.defs.Below.{all_below, sum_below}
use Rattle.shunt_base.specs.declared.ids.TypeId.{TypeId}
use Rattle.shunt_base.specs.declared.keys.EventKey.{EventKey}
use Rattle.shunt_base.specs.declared.keys.Stay.{Stay}
use Rattle.shunt_instance.specs.declared.records.Station.{Station}
use Rattle.shunt_instance.specs.defs.Words.{train_at}
use Rattle.shunt_instance.specs.defs.Instance.{Night, unit_at, ready}
use Rattle.shunt_blocks.specs.declared.records.Shape.{Shape}
use Rattle.shunt_blocks.specs.declared.records.Block.{Block}
use Rattle.shunt_blocks.specs.declared.records.Park.{Park}
use Rattle.shunt_blocks.specs.defs.Shapes.{shape_of, unit_from, IsInRange}
use Rattle.shunt_blocks.specs.defs.Ways.{park_way_in, park_way_out}
use Rattle.shunt_blocks.specs.defs.Blocks.{type_fault}

-- the length of a type in dm
abbrev pub length_of : Station → TypeId → ℕ
length_of s kind = slice_index (map (λ t. t.length) s.types) kind.0

-- the lengths of the units, added up
abbrev pub shape_length : Night → Shape → ℕ
shape_length night s = sum_below s.n (λ k. length_of night.station (unit_at night (unit_from night s + k)).kind)

abbrev pub block_length : Night → Block → ℕ
block_length night b = shape_length night (shape_of b)

-- when the departing train leaves
abbrev pub leave_minute : Night → Shape → ℕ
leave_minute night s = (train_at night.depart s.dep.0).minute

-- whether the departing train leaves before one of the units is ready
abbrev pub is_too_soon : Night → Shape → Bool
is_too_soon night s = not (all_below s.n (λ k. nat_le (ready night (unit_from night s + k)) (leave_minute night s)))

-- it enters at its arriving train's minute, the earlier places of that train first
abbrev pub enter_key : Night → Block → EventKey
enter_key night b = record { minute = (train_at night.arrive b.arr.0).minute; enters = true; train = b.arr.0; place = b.p; id = b.id }

-- it leaves at its departing train's minute, the later places of that train first
abbrev pub leave_key : Night → Block → EventKey
leave_key night b = record { minute = leave_minute night (shape_of b); enters = false; train = b.dep.0; place = 9 - b.q; id = b.id }

-- the stay of a block on the track where it is parked
abbrev pub parked_stay : Night → Block → Park → Stay
parked_stay night b k = record {
  id = b.id;
  track = k.track;
  side_in = k.side_in;
  side_out = k.side_out;
  enter = enter_key night b;
  leave = leave_key night b;
  length = block_length
      night b;
}

-- the same with the option apart, where the block isn't too soon
abbrev pub stay_with : Night → Block → Option Park → Option Stay
stay_with night b None = None
stay_with night b (Some k) = if is_too_soon night (shape_of b) then None else Some (parked_stay night b k)

-- the stay of a block: none where it is unparked or too soon
abbrev pub stay_of : Night → Block → Option Stay
stay_of night b = stay_with night b b.park

-- in range, without a wrong type, not too soon, and with both ways where it is parked
pub record IsSoundBlock (night : Night) (b : Block) : Type 0 where
  pub in_range : IsInRange night b
  pub types : type_fault night b ≡ false
  pub in_time : is_too_soon night (shape_of b) ≡ false
  pub way_in : IfSome b.park (λ k. IsSome (park_way_in night (shape_of b) k))
  pub way_out : IfSome b.park (λ k. IsSome (park_way_out night b.dep k))
