-- Findings by version 1 of the files, over instances without standing trains and permits.
use Rattle.std.specs.Prelude.{◌≡◌, ◌<◌, ◌≤◌, IsTrue, List}
use Rattle.shunt_instance.specs.defs.Instance.{Night, unit_total, position_total}
use Rattle.shunt_blocks.specs.declared.records.Block.{Block}
use Rattle.shunt_blocks.specs.defs.Shapes.{shape_of}
use Rattle.shunt_blocks.specs.defs.Stays.{is_too_soon}
use Rattle.shunt_blocks.specs.defs.Lists.{times_unit, times_position, track_lengths, stays_of}
use Rattle.shunt_blocks.specs.defs.v1.{HasTwoTypes, LacksRouteIn, LacksRouteOut}
use Rattle.shunt_stays.specs.defs.Crossings.{Crosses}
use Rattle.shunt_audit.specs.declared.types.Finding.{Finding}
use Rattle.shunt_audit.specs.declared.types.Finding.TheVariants.{UnitBare, UnitTwice, PlaceBare, PlaceTwice, WrongType, TooSoon, NoRouteIn, NoRouteOut, Crossing, TooLong, StatedCost}
use Rattle.shunt_audit.specs.defs.Findings.{HasBlock, HasStay, IsOver}

-- a pair of a block has two types, and a parked block's route in or route out is absent; the other kinds are the present ones
abbrev pub IsFinding : Night → List Block → Finding → Type 0
IsFinding night blocks (UnitBare u) = (u < unit_total night) × (times_unit night blocks u ≡ 0)
IsFinding night blocks (UnitTwice u) = (u < unit_total night) × (2 ≤ times_unit night blocks u)
IsFinding night blocks (PlaceBare v) = (v < position_total night) × (times_position night blocks v ≡ 0)
IsFinding night blocks (PlaceTwice v) = (v < position_total night) × (2 ≤ times_position night blocks v)
IsFinding night blocks (WrongType id) = HasBlock blocks id (HasTwoTypes night)
IsFinding night blocks (TooSoon id) = HasBlock blocks id (λ b. IsTrue (is_too_soon night (shape_of b)))
IsFinding night blocks (NoRouteIn id) = HasBlock blocks id (LacksRouteIn night)
IsFinding night blocks (NoRouteOut id) = HasBlock blocks id (LacksRouteOut night)
IsFinding night blocks (Crossing i j) = HasStay (stays_of night blocks) i (λ b. HasStay (stays_of night blocks) j (Crosses b))
IsFinding night blocks (TooLong id load) = HasStay (stays_of night blocks) id (IsOver (track_lengths night.station) (stays_of night blocks) load)
IsFinding night blocks (StatedCost stated real) = ⊥
