use Rattle.std.specs.Prelude.{All}
use Rattle.std.proofs.Common.{◌≡◌, ◌++◌, map}
use Rattle.shunt_choices.specs.defs.Choices.{choices_with}
use Rattle.shunt_search.specs.defs.Yards.{choice_of}
use Rattle.shunt_search.proofs.Offered.{with_shape}
use Rattle.shunt_search.proofs.children.add_options.Given as goal

abbrev pub invariant-options : goal.invariant-options
invariant-options l = record {
  can_next : (goal.iterator-options).can_next l.options;
  is_finite : (goal.iterator-options).is_finite l.options;
  so_far : map choice_of l.blocks.items ++ map (with_shape l.shape) l.options ≡ map choice_of l.fn.blocks.items ++ choices_with l.instance l.shape;
  ids : All (λ b. b.id ≡ l.id) l.blocks.items;
}
