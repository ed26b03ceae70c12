use Rattle.std.proofs.Common.{◌≡◌, ◌++◌}
use Rattle.shunt_choices.specs.defs.Choices.{shapes_of}
use Rattle.shunt_dual.proofs.shape_demands.add_shapes.Given as goal

abbrev pub invariant-found : goal.invariant-found
invariant-found l = record {
  can_next : (goal.iterator-found).can_next l.found;
  is_finite : (goal.iterator-found).is_finite l.found;
  so_far : l.shapes.items ++ l.found ≡ l.fn.shapes.items ++ shapes_of l.instance l.covered l.u;
}
