use Rattle.shunt_sheet.proofs.Tables.{sheets_tell}
use Rattle.shunt_sheet.proofs.laws.sheet_or_first_fault.Goals as goal

pub returns : goal.returns
returns c = sheets_tell
