use Rattle.std.specs.List.{AllByRecursion}
use Rattle.std.proofs.Common.{◌≡◌, ℕ, ◌≤◌}
use Rattle.shunt_blocks.specs.defs.Shapes.{shape_of}
use Rattle.shunt_blocks.specs.defs.Blocks.{IsOption}
use Rattle.shunt_blocks.specs.defs.Costs.{cost_with}
use Rattle.shunt_choices.specs.defs.Choices.{options_of}
use Rattle.shunt_search.specs.defs.Polish.{RunsWith, NoLess}
use Rattle.shunt_search.proofs.polisher.cheapest_through.Given as goal

abbrev pub invariant-options : goal.invariant-options
invariant-options l = record {
  can_next : (goal.iterator-options).can_next l.options;
  is_finite : (goal.iterator-options).is_finite l.options;
  are : AllByRecursion (IsOption l.instance (shape_of l.block)) l.options;
  option : IsOption l.instance (shape_of l.block) l.best;
  cost : l.least ≡ cost_with l.instance (shape_of l.block) l.best;
  through : RunsWith l.instance l.block l.best l.others;
  all : (n : ℕ) → n ≤ l.least → AllByRecursion (NoLess l.instance l.block l.others n) l.options
      → AllByRecursion (NoLess l.instance l.block l.others n) (options_of l.instance (shape_of l.block));
}
