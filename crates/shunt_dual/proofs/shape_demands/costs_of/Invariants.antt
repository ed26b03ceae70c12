use Rattle.std.specs.Prelude.{None, slice_index_or}
use Rattle.std.specs.List.{AllByRecursion}
use Rattle.std.proofs.Common.{◌≡◌, ℕ, ◌<◌, ◌≤◌, length}
use Rattle.shunt_blocks.specs.defs.Blocks.{IsOption}
use Rattle.shunt_blocks.specs.defs.Costs.{cost_with}
use Rattle.shunt_choices.specs.defs.Choices.{options_of}
use Rattle.shunt_dual.specs.defs.Asks.{IsCostOn}
use Rattle.shunt_dual.proofs.Lightest.{CostsAtLeast}
use Rattle.shunt_dual.proofs.shape_demands.costs_of.Given as goal

abbrev pub invariant-options : goal.invariant-options
invariant-options l = record {
  can_next : (goal.iterator-options).can_next l.options;
  is_finite : (goal.iterator-options).is_finite l.options;
  are : AllByRecursion (IsOption l.instance l.shape) l.options;
  long : length l.costs ≡ 60;
  small : (t : ℕ) → slice_index_or l.costs t 0 ≤ cost_with l.instance l.shape None;
  one : (t : ℕ) → t < 60 → IsCostOn l.instance l.shape t (slice_index_or l.costs t 0);
  all : (least : ℕ → ℕ) → ((t : ℕ) → least t ≤ slice_index_or l.costs t 0) → AllByRecursion (CostsAtLeast l.instance l.shape least) l.options
      → AllByRecursion (CostsAtLeast l.instance l.shape least) (options_of l.instance l.shape);
}
