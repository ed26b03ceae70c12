-- Blocks in range, and the units and positions that they have.
use Rattle.std.specs.Prelude.{Option, Some, None, All}
use Rattle.shunt_instance.specs.defs.Instance.{Night}
use Rattle.shunt_blocks.specs.declared.records.Shape.{Shape}
use Rattle.shunt_blocks.specs.declared.records.Park.{Park}
use Rattle.shunt_blocks.specs.defs.Shapes.{IsOnTrack, shape_of, IsWithinTrains, HasUnit, HasPosition, begins_at}
use Rattle.shunt_blocks.specs.defs.Blocks.{IsOption, IsBlockButId, IsBlock}
use Rattle.std.proofs.Common.{List, get_or, ℕ, true, arith, ◌≡◌, ◌≤◌}
use Rattle.shunt_blocks.specs.declared.records.Block.{Block}
use Rattle.std.proofs.lemmas.Bool.Decides.{nat_tests}
use Rattle.shunt_blocks.specs.defs.Lists.{has_unit, has_position}

pub on_track : (night : Night) (s : Shape) (o : Option Park) → IsOption night s o → IsOnTrack night.station o
on_track night s None h = tt
on_track night s (Some k) h = h.track

pub all_within : (night : Night) (path : List Block) → All (IsBlockButId night) path → All (IsWithinTrains night) path
all_within night path each k d lt = let is = each k d lt in record {
  runs = is.shape.within;
  track = on_track night (shape_of (get_or path k d))
      (get_or path k d).park is.option;
}

pub has_from : (night : Night) (b : Block) (u : ℕ) → has_unit night (shape_of b) u ≡ true → HasUnit night (shape_of b) u
has_from night b u e = record { from = grind (arith, nat_tests); to = grind (arith, nat_tests) }

pub has_position_from : (night : Night) (b : Block) (v : ℕ) → has_position night (shape_of b) v ≡ true → HasPosition night (shape_of b) v
has_position_from night b v e = record { from = grind (arith, nat_tests); to = grind (arith, nat_tests) }

pub begins_itself : (night : Night) (b : Block) → 1 ≤ b.n → has_unit night (shape_of b) (begins_at night b) ≡ true
begins_itself night b some = grind (arith, nat_tests)

pub position_to : (night : Night) (b : Block) (v : ℕ) → HasPosition night (shape_of b) v → has_position night (shape_of b) v ≡ true
position_to night b v has = grind (arith, nat_tests, has.from, has.to)

pub unit_to : (night : Night) (b : Block) (u : ℕ) → HasUnit night (shape_of b) u → has_unit night (shape_of b) u ≡ true
unit_to night b u has = grind (arith, nat_tests, has.from, has.to)

pub is_within : (night : Night) (b : Block) → IsBlockButId night b → IsWithinTrains night b
is_within night b h = record { runs = h.shape.within; track = on_track night (shape_of b) b.park h.option }

pub but_ids : (night : Night) (blocks : List Block) → All (IsBlock night) blocks → All (IsBlockButId night) blocks
but_ids night blocks all k d lt = let h = all k d lt in record { shape = h.shape; option = h.option }
