-- The parts of a plan's cost.
use Rattle.std.specs.Prelude.{ℕ, ◌+◌, ◌==◌, cond, unwrap_or, List, Option, Some, None, fold}
use Rattle.shunt_instance.specs.defs.Instance.{Night}
use Rattle.shunt_blocks.specs.declared.records.Block.{Block}
use Rattle.shunt_blocks.specs.declared.records.Park.{Park}
use Rattle.shunt_blocks.specs.defs.Ways.{way_in, way_out}
use Rattle.shunt_page.specs.declared.records.Parts.{Parts}

-- what it costs that a block isn't parked
abbrev pub unparked_cost : Night → Option Park → ℕ
unparked_cost night None = night.station.unparked
unparked_cost night (Some k) = 0

-- what a block costs, in parts
abbrev pub block_parts : Night → Block → Parts
block_parts night b = record {
  splits = cond (b.p == 1) 0 night.station.split;
  couplings = cond (b.q == 1) 0 night.station.couple;
  ways_in = unwrap_or
      (way_in night b) 0;
  ways_out = unwrap_or (way_out night b) 0;
  unparked = unparked_cost night b.park;
}

abbrev pub added : Parts → Parts → Parts
added a b = record {
  splits = a.splits + b.splits;
  couplings = a.couplings + b.couplings;
  ways_in = a.ways_in + b.ways_in;
  ways_out = a.ways_out + b.ways_out;
  unparked = a.unparked
      + b.unparked;
}

abbrev pub nothing : Parts
nothing = record { splits = 0; couplings = 0; ways_in = 0; ways_out = 0; unparked = 0 }

-- the parts of these blocks, added up
abbrev pub with_block : Night → Parts → Block → Parts
with_block night parts b = added parts (block_parts night b)

abbrev pub parts_of : Night → List Block → Parts
parts_of night blocks = fold (with_block night) nothing blocks

-- all of them together
abbrev pub parts_sum : Parts → ℕ
parts_sum p = p.splits + p.couplings + p.ways_in + p.ways_out + p.unparked
