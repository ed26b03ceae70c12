use Rattle.shunt_base.proofs.Names.{name_read}
use Rattle.shunt_base.proofs.Minutes.{read_again}
use Rattle.shunt_rows.proofs.Spelled.{number_again, signed_again}
use Rattle.shunt_rows.proofs.laws.spelled_fields_are_read_back.Goals as goal

pub returns-clause-name : goal.returns-clause-name
returns-clause-name c = name_read

pub returns-clause-number : goal.returns-clause-number
returns-clause-number c = number_again

pub returns-clause-signed : goal.returns-clause-signed
returns-clause-signed c = signed_again

pub returns-clause-minute : goal.returns-clause-minute
returns-clause-minute c = read_again
