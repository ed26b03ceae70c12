use Rattle.std.proofs.Common.{sym, subst}
use Rattle.shunt_plan.specs.defs.Edits.{AreTurns}
use Rattle.shunt_plan.proofs.Formed.{turns_formed}
use Rattle.shunt_plan.proofs.edits.read_edits.Goals as goal

pub returns-clause-formed : goal.returns-clause-formed
returns-clause-formed c = subst (AreTurns c.args.instance.now) (sym c.into_vec.ensures) (turns_formed c.args.instance.now _ _ c.in_ok-read.ensures)
