use Rattle.std.proofs.Common.{sym, subst}
use Rattle.std.specs.Prelude.{All}
use Rattle.shunt_zones.specs.defs.Moves.{IsMoveOf}
use Rattle.shunt_drivers.proofs.faults.roster_fault.Goals as goal

pub fault_of-requires-clause-moves : goal.fault_of-requires-clause-moves
fault_of-requires-clause-moves c = subst (All (IsMoveOf c.args.instance.now)) (sym c.deref.ensures.value) c.in_ok-moves.ensures.of_night
