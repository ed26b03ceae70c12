-- What one plan does otherwise than another is of the night.
use Rattle.std.proofs.Common.{◌≡◌, ℕ, ◌+◌, ◌-◌, ◌<◌, ◌≤◌, true, List, get_or, sym, subst, arith}
use Rattle.std.proofs.lemmas.Bool.Decides.{nat_tests}
use Rattle.shunt_lists.proofs.Members.{in_place}
use Rattle.shunt_instance.specs.defs.Instance.{Night, position_total}
use Rattle.shunt_blocks.specs.declared.records.Shape.{Shape}
use Rattle.shunt_blocks.specs.declared.records.Block.{Block}
use Rattle.shunt_blocks.specs.defs.Shapes.{shape_of, unit_from, position_from, AreRunsWithin, HasPosition}
use Rattle.shunt_blocks.specs.defs.Blocks.{IsBlock}
use Rattle.shunt_blocks.specs.defs.Lists.{IsFeasible, has_unit}
use Rattle.shunt_compare.specs.declared.records.Placement.{Placement}
use Rattle.shunt_compare.specs.declared.records.Comparison.{Comparison}
use Rattle.shunt_compare.specs.defs.Changes.{IsPlacement, IsComparison}
use Rattle.shunt_compare.proofs.Placed.{is_block}
use Rattle.shunt_report.specs.defs.ComparisonTexts.{IsPlacementOfNight, IsComparisonOfNight}

-- that the positions of a shape are the night's
abbrev pub PositionsIn : Type 0
PositionsIn = (night : Night) (s : Shape) (v : ℕ) → AreRunsWithin night s → HasPosition night s v → v < position_total night

behind : (from start n u : ℕ) → from ≤ u → u < from + n → start + (u - from) < start + n
behind from start n u le lt = omega (arith, le, lt)

unit_of : (night : Night) (s : Shape) (u : ℕ) → has_unit night s u ≡ true → (unit_from night s ≤ u) × (u < unit_from night s + s.n)
unit_of night s u h = grind (arith, nat_tests)

placed_there : (law : PositionsIn) (night : Night) (blocks : List Block) (u : ℕ) (x : Placement) → IsFeasible night blocks → IsPlacement night blocks u x
    → IsPlacementOfNight night x
placed_there law night blocks u x h p = subst (IsPlacementOfNight night) (sym p.is) (record {
  position = law night (shape_of p.block) (position_from night (shape_of p.block) + (u - unit_from night (shape_of p.block))) is.shape.within
      (record { from = omega arith; to = behind (unit_from night (shape_of p.block)) (position_from night (shape_of p.block)) p.block.n u has.0 has.1 });
  track = is.in_range.within.track;
})
  where
    is : IsBlock night p.block
    is = is_block night blocks h p.block p.there

    has : (unit_from night (shape_of p.block) ≤ u) × (u < unit_from night (shape_of p.block) + p.block.n)
    has = unit_of night (shape_of p.block) u p.has

pub of_comparison : (law : PositionsIn) (night : Night) (was now : List Block) (c : Comparison) → IsFeasible night was → IsFeasible night now → IsComparison night was now c
    → IsComparisonOfNight night c
of_comparison law night was now c before after h = record {
  changes = λ k d lt. let of = (h.changes.exactly (get_or c.changes k d)).0 (in_place c.changes k d lt) in record {
    unit = of.0;
    was = placed_there law night was _ _ before of.1.before;
    now = placed_there law night now _ _ after of.1.after;
  };
  regrouped = λ k d lt. let of = (h.regrouped.exactly (get_or c.regrouped k d)).0 (in_place c.regrouped k d lt) in
      (is_block night now after (get_or c.regrouped k d) of.1.there).in_range.within;
}
