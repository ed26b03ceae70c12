use Rattle.shunt_rows.proofs.Plain.{plain_name, plain_number, plain_signed, plain_minute, plain_side, side_read}
use Rattle.shunt_rows.proofs.laws.spelled_fields_are_plain.Goals as goal

pub returns-clause-name : goal.returns-clause-name
returns-clause-name c = plain_name

pub returns-clause-number : goal.returns-clause-number
returns-clause-number c = plain_number

pub returns-clause-signed : goal.returns-clause-signed
returns-clause-signed c = plain_signed

pub returns-clause-minute : goal.returns-clause-minute
returns-clause-minute c = plain_minute

pub returns-clause-side : goal.returns-clause-side
returns-clause-side c = plain_side

pub returns-clause-side_again : goal.returns-clause-side_again
returns-clause-side_again c = side_read
