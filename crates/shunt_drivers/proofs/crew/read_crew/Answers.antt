use Rattle.std.proofs.Common.{subst}
use Rattle.std.specs.Prelude.{IfOk}
use Rattle.shunt_rows.proofs.KeptStates.{given}
use Rattle.shunt_drivers.specs.defs.CrewFormat.{IsCrew}
use Rattle.shunt_drivers.proofs.Formed.{crew_formed}
use Rattle.shunt_drivers.proofs.crew.read_crew.Goals as goal

pub returns-clause-formed : goal.returns-clause-formed
returns-clause-formed c = subst (λ s. IfOk c.read.result (IsCrew s)) c.in_ok-known.ensures
    (given (λ x. x) (IsCrew c.in_ok-known.known) _ (crew_formed c.in_ok-known.known _) c.read.result c.read.ensures)
