use Rattle.std.proofs.Common.{sym, subst}
use Rattle.shunt_drivers.specs.defs.RosterFormat.{IsRoster}
use Rattle.shunt_drivers.proofs.Formed.{roster_formed}
use Rattle.shunt_drivers.proofs.roster.read_over.Goals as goal

pub returns-clause-formed : goal.returns-clause-formed
returns-clause-formed c = subst (IsRoster c.args.moves.now) (sym c.into_vec.ensures) (roster_formed c.args.moves.now _ _ c.in_ok-read.ensures)
