-- What a price counts of a block, and which blocks stand at its moment.
use Rattle.std.specs.Prelude.{ℕ, ◌+◌, ◌-◌, ◌*◌, ◌/◌, ◌==◌, nat_le, nat_lt, Bool, false, ◌&&◌, if◌then◌else◌, sum_by, slice_index, List, Option, Some, None}
use Rattle.shunt_base.specs.declared.duals.PriceKind.{PriceKind}
use Rattle.shunt_base.specs.declared.duals.PriceKind.TheVariants as kind
use Rattle.shunt_base.specs.declared.duals.Price.{Price}
use Rattle.shunt_instance.specs.defs.Words.{train_at}
use Rattle.shunt_instance.specs.defs.Instance.{Night}
use Rattle.shunt_blocks.specs.declared.records.Shape.{Shape}
use Rattle.shunt_blocks.specs.declared.records.Block.{Block}
use Rattle.shunt_blocks.specs.declared.records.Park.{Park}
use Rattle.shunt_blocks.specs.defs.Shapes.{shape_of}
use Rattle.shunt_blocks.specs.defs.Stays.{shape_length, leave_minute}
use Rattle.shunt_blocks.specs.defs.Lists.{track_lengths}

-- the length of the track with a number
abbrev pub track_length : Night → ℕ → ℕ
track_length night track = slice_index (track_lengths night.station) track

-- what a kind of price counts of a block of this length on a track with this room: the length; or, for R parts, how often the room goes
-- into R + 1 times the length, less 1
abbrev pub count_of : PriceKind → ℕ → ℕ → ℕ
count_of kind.Length room length = length
count_of (kind.Parts r) room length = ((r + 1) * length - 1) / room

-- what it counts at most of blocks that stand together on a track with this room
abbrev pub most_of : PriceKind → ℕ → ℕ
most_of kind.Length room = room
most_of (kind.Parts r) room = r

-- what a price counts of a block of this shape
abbrev pub count : Night → Price → Shape → ℕ
count night price s = count_of price.kind (track_length night price.track.0) (shape_length night s)

-- what it counts at most of blocks that stand together
abbrev pub most : Night → Price → ℕ
most night price = most_of price.kind (track_length night price.track.0)

-- whether a block of this shape is there at a price's moment, just after its train's last entry: it comes with that train or an earlier one, and leaves at a later minute
abbrev pub is_there : Night → Price → Shape → Bool
is_there night price s = nat_le s.arr.0 price.train.0 && nat_lt (train_at night.arrive price.train.0).minute (leave_minute night s)

-- whether an option is parked on a track
abbrev pub is_on : ℕ → Option Park → Bool
is_on track None = false
is_on track (Some k) = k.track.0 == track

-- whether a shape with an option stands on a price's track at its moment
abbrev pub stands_with : Night → Price → Shape → Option Park → Bool
stands_with night price s park = is_on price.track.0 park && is_there night price s

-- what a price counts of a shape with an option: nothing where it doesn't stand there
abbrev pub counted_with : Night → Price → Shape → Option Park → ℕ
counted_with night price s park = if stands_with night price s park then count night price s else 0

-- the values of these prices times what they count of a shape with an option, added up
abbrev pub price_part_with : Night → List Price → Shape → Option Park → ℕ
price_part_with night prices s park = sum_by (λ price. price.value * counted_with night price s park) prices

-- whether a block stands on a price's track at its moment
abbrev pub stands_at : Night → Price → Block → Bool
stands_at night price b = stands_with night price (shape_of b) b.park

-- what a price counts of a block
abbrev pub counted : Night → Price → Block → ℕ
counted night price b = counted_with night price (shape_of b) b.park

-- the price part of a block
abbrev pub price_part : Night → List Price → Block → ℕ
price_part night prices b = price_part_with night prices (shape_of b) b.park

-- what these prices take at most: their values times their most, added up
abbrev pub paid_at_most : Night → List Price → ℕ
paid_at_most night prices = sum_by (λ price. price.value * most night price) prices
