use Rattle.std.proofs.Common.{subst}
use Rattle.shunt_blocks.specs.defs.Shapes.{unit_from}
use Rattle.shunt_choices.specs.defs.Paths.{Masks}
use Rattle.shunt_choices.specs.defs.Choices.{IsFreeShape}
use Rattle.shunt_checker.proofs.missed_choices.BranchSought.first_option.Goals as goal

pub missed_option-requires-clause-branch : goal.missed_option-requires-clause-branch
missed_option-requires-clause-branch c = c.requires.fits.0

pub missed_option-requires-clause-free : goal.missed_option-requires-clause-free
missed_option-requires-clause-free c = subst (λ (m : Masks). IsFreeShape c.args.instance.now m (unit_from c.args.instance.now c.args.shape) c.args.shape) c.requires.fits.1
    c.requires.free
