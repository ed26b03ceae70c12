-- The findings of a list of blocks, one after the other.
use Rattle.std.specs.Prelude.{ℕ, zero, suc, ◌==◌, nat_le, nat_lt, Bool, not, is_some, ◌&&◌, slice_index, List, [], ◌∷◌, ◌++◌, if◌then◌else◌}
use Rattle.std.specs.List.{flat_map}
use Rattle.shunt_base.specs.declared.keys.Stay.{Stay}
use Rattle.shunt_stays.specs.defs.Crossings.{crosses, load_after}
use Rattle.shunt_instance.specs.defs.Instance.{Night, unit_total, position_total}
use Rattle.shunt_blocks.specs.declared.records.Block.{Block}
use Rattle.shunt_blocks.specs.defs.Shapes.{shape_of}
use Rattle.shunt_blocks.specs.defs.Ways.{way_in, way_out}
use Rattle.shunt_blocks.specs.defs.Blocks.{type_fault}
use Rattle.shunt_blocks.specs.defs.Stays.{is_too_soon}
use Rattle.shunt_blocks.specs.defs.Lists.{times_unit, times_position, track_lengths, stays_of}
use Rattle.shunt_audit.specs.declared.types.Finding.{Finding}
use Rattle.shunt_audit.specs.declared.types.Finding.TheVariants.{UnitBare, UnitTwice, PlaceBare, PlaceTwice, WrongType, TooSoon, NoRouteIn, NoRouteOut, Crossing, TooLong}

-- a finding where a test says so
abbrev pub noted : Bool → Finding → List Finding
noted holds finding = if holds then finding ∷ [] else []

-- what is noted of each number below n
abbrev pub noted_below : ℕ → (ℕ → List Finding) → List Finding
noted_below zero note = []
noted_below (suc n) note = noted_below n note ++ note n

-- a block among those that ascend by their ids already
abbrev pub insert_by_id : Block → List Block → List Block
insert_by_id b [] = b ∷ []
insert_by_id b (c ∷ blocks) = if nat_le b.id c.id then b ∷ c ∷ blocks else c ∷ insert_by_id b blocks

-- the blocks by ascending id
abbrev pub by_id : List Block → List Block
by_id [] = []
by_id (b ∷ blocks) = insert_by_id b (by_id blocks)

-- the units that no block has, and those that two have
abbrev pub bare_units : Night → List Block → List Finding
bare_units night blocks = noted_below (unit_total night) (λ u. noted (times_unit night blocks u == 0) (UnitBare u))

abbrev pub twice_units : Night → List Block → List Finding
twice_units night blocks = noted_below (unit_total night) (λ u. noted (nat_le 2 (times_unit night blocks u)) (UnitTwice u))

-- the same of positions
abbrev pub bare_places : Night → List Block → List Finding
bare_places night blocks = noted_below (position_total night) (λ v. noted (times_position night blocks v == 0) (PlaceBare v))

abbrev pub twice_places : Night → List Block → List Finding
twice_places night blocks = noted_below (position_total night) (λ v. noted (nat_le 2 (times_position night blocks v)) (PlaceTwice v))

-- whether a block is parked, and there is no way in; and no way out
abbrev pub lacks_way_in : Night → Block → Bool
lacks_way_in night b = is_some b.park && not (is_some (way_in night b))

abbrev pub lacks_way_out : Night → Block → Bool
lacks_way_out night b = is_some b.park && not (is_some (way_out night b))

-- what is wrong with each of these blocks by itself
abbrev pub wrong_types : Night → List Block → List Finding
wrong_types night blocks = flat_map (λ b. noted (type_fault night b) (WrongType b.id)) blocks

abbrev pub too_soons : Night → List Block → List Finding
too_soons night blocks = flat_map (λ b. noted (is_too_soon night (shape_of b)) (TooSoon b.id)) blocks

abbrev pub no_ways_in : Night → List Block → List Finding
no_ways_in night blocks = flat_map (λ b. noted (lacks_way_in night b) (NoRouteIn b.id)) blocks

abbrev pub no_ways_out : Night → List Block → List Finding
no_ways_out night blocks = flat_map (λ b. noted (lacks_way_out night b) (NoRouteOut b.id)) blocks

-- the stays that cross a stay by entering after it
abbrev pub crossings_of : List Stay → Stay → List Finding
crossings_of stays b = flat_map (λ c. noted (crosses b c) (Crossing b.id c.id)) stays

-- the pairs that cross
abbrev pub crossings : List Stay → List Finding
crossings stays = flat_map (crossings_of stays) stays

-- the load just after a stay's entry, where it is above its track's length
abbrev pub too_long_at : List ℕ → Stay → ℕ → List Finding
too_long_at lengths s load = noted (nat_lt (slice_index lengths s.track.0) load) (TooLong s.id load)

-- the entries that leave more than their track's length
abbrev pub too_longs : List ℕ → List Stay → List Finding
too_longs lengths stays = flat_map (λ s. too_long_at lengths s (load_after stays s)) stays

-- units and positions
abbrev pub cover_findings : Night → List Block → List Finding
cover_findings night blocks = bare_units night blocks ++ (twice_units night blocks ++ (bare_places night blocks ++ twice_places night blocks))

-- blocks one by one
abbrev pub block_findings : Night → List Block → List Finding
block_findings night blocks = wrong_types night blocks ++ (too_soons night blocks ++ (no_ways_in night blocks ++ no_ways_out night blocks))

-- stays together
abbrev pub clash_findings : List ℕ → List Stay → List Finding
clash_findings lengths stays = crossings stays ++ too_longs lengths stays

-- the findings in their order
unfoldable pub findings_in : Night → List Block → List Finding
findings_in night blocks = cover_findings night blocks ++ (block_findings night (by_id blocks) ++ clash_findings (track_lengths night.station) (stays_of night (by_id blocks)))
