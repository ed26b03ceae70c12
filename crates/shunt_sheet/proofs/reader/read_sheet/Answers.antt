use Rattle.std.proofs.Common.{sym, subst}
use Rattle.shunt_sheet.specs.defs.SheetFormat.{AreOrders}
use Rattle.shunt_sheet.proofs.Formed.{sheet_formed}
use Rattle.shunt_sheet.proofs.reader.read_sheet.Goals as goal

pub returns-clause-formed : goal.returns-clause-formed
returns-clause-formed c = subst (AreOrders c.args.station.now) (sym c.into_vec.ensures) (sheet_formed c.args.station.now _ _ c.in_ok-read.ensures)
