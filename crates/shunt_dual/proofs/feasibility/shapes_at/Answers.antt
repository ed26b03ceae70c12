use Rattle.std.specs.List.{AllByRecursion}
use Rattle.std.proofs.Common.{subst, sym}
use Rattle.shunt_lists.proofs.Members.{all_from}
use Rattle.shunt_blocks.specs.defs.Shapes.{AreRunsWithin}
use Rattle.shunt_choices.specs.defs.Choices.{shapes_of}
use Rattle.shunt_dual.proofs.feasibility.shapes_at.Goals as goal

pub returns-clause-within : goal.returns-clause-within
returns-clause-within c =
    let within = all_from (AreRunsWithin c.args.instance.now) (shapes_of c.args.instance.now c.args.covered.now c.args.u)
    (λ s i. ((c.free_shapes.ensures.members c.args.instance.now c.args.covered.now c.args.u s c.units.ensures.formed c.requires.unit).0 i).shape.within) in
    subst (AllByRecursion (AreRunsWithin c.args.instance.now)) (sym c.shapes_from.ensures) within
