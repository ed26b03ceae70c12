use Rattle.shunt_sheet.proofs.Formed.{sheet_formed}
use Rattle.shunt_sheet.proofs.laws.stated_orders_are_formed.Goals as goal

pub returns : goal.returns
returns c = sheet_formed
