use Rattle.shunt_sheet.proofs.RoundTrip.{orders_back, text_back}
use Rattle.shunt_sheet.proofs.Lengths.{sheet_short}
use Rattle.shunt_sheet.proofs.laws.texts_of_sheets.Goals as goal

pub returns-clause-rows : goal.returns-clause-rows
returns-clause-rows c = orders_back

pub returns-clause-again : goal.returns-clause-again
returns-clause-again c = text_back

pub returns-clause-short : goal.returns-clause-short
returns-clause-short c = sheet_short
