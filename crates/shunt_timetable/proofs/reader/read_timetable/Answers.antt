use Rattle.std.proofs.Common.{subst}
use Rattle.std.specs.Prelude.{IfOk}
use Rattle.shunt_rows.proofs.KeptStates.{given}
use Rattle.shunt_instance.specs.defs.Wellformed.{IsTimetable}
use Rattle.shunt_timetable.proofs.Formed.{timetable_formed}
use Rattle.shunt_timetable.proofs.reader.read_timetable.Goals as goal

pub returns-clause-formed : goal.returns-clause-formed
returns-clause-formed c = subst (λ s. IfOk c.read.result (IsTimetable s)) c.in_ok-known.ensures
    (given (λ t. t) (IsTimetable c.in_ok-known.known) _ (timetable_formed c.in_ok-known.known _) c.read.result c.read.ensures)
