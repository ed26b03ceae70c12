use Rattle.std.proofs.Common.{rules}
use Rattle.shunt_choices.proofs.Trails.{length_units}
use Rattle.shunt_choices.proofs.paths.Path.start_with.Goals as goal

pub invariant_of-result : goal.invariant_of-result
invariant_of-result c = search (rules, length_units)
