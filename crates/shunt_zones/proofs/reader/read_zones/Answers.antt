use Rattle.std.proofs.Common.{subst}
use Rattle.std.specs.Prelude.{IfOk}
use Rattle.shunt_rows.proofs.KeptStates.{given}
use Rattle.shunt_zones.specs.defs.ZonesFormat.{IsZones}
use Rattle.shunt_zones.proofs.Formed.{zones_formed}
use Rattle.shunt_zones.proofs.reader.read_zones.Goals as goal

pub returns-clause-formed : goal.returns-clause-formed
returns-clause-formed c = subst (λ s. IfOk c.read.result (IsZones s)) c.in_ok-known.ensures
    (given (λ z. z) (IsZones c.in_ok-known.known) _ (zones_formed c.in_ok-known.known _) c.read.result c.read.ensures)
