use Rattle.shunt.proofs.Always.{ends_well}
use Rattle.shunt.specs.defs.Calls.{Drivers}
use Rattle.shunt.proofs.Shared.{told_outcome}
use Rattle.shunt.proofs.laws.drivers_completes.Goals as goal

pub returns : goal.returns
returns c = λ s t p k d. ends_well (Drivers s t p k d) (told_outcome d)
