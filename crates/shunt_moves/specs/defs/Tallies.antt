-- How many findings of each kind a list of blocks has.
use Rattle.std.specs.Prelude.{ℕ, ◌+◌, ◌==◌, count_by, List}
use Rattle.shunt_instance.specs.defs.Instance.{Night}
use Rattle.shunt_blocks.specs.declared.records.Block.{Block}
use Rattle.shunt_blocks.specs.defs.Lists.{total_cost}
use Rattle.shunt_audit.specs.defs.Findings.{kind_of}
use Rattle.shunt_audit.specs.defs.Listed.{findings_in}
use Rattle.shunt_moves.specs.declared.types.Tally.{Tally}

-- how many of their findings have this kind's number
abbrev pub count_of : Night → List Block → ℕ → ℕ
count_of night blocks kind = count_by (λ f. kind_of f == kind) (findings_in night blocks)

-- the number of findings of each kind from 1 to 10, and the cost
unfoldable pub tally_of : Night → List Block → Tally
tally_of night blocks = record {
  bare_units = count_of night blocks 1;
  twice_units = count_of night blocks 2;
  bare_places = count_of night blocks 3;
  twice_places = count_of night blocks 4;
  wrong_type = count_of night blocks 5;
  too_soon = count_of night blocks 6;
  no_route_in = count_of night blocks 7;
  no_route_out = count_of night blocks 8;
  crossing = count_of night blocks 9;
  too_long = count_of night blocks 10;
  cost = total_cost night blocks;
}

-- the ten counts, added up
abbrev pub sum_of : Tally → ℕ
sum_of t = t.bare_units + t.twice_units + t.bare_places + t.twice_places + t.wrong_type + t.too_soon + t.no_route_in + t.no_route_out + t.crossing + t.too_long
