use Rattle.shunt_base.proofs.Decimal.{spelled, value_again}
use Rattle.shunt_base.proofs.Minutes.{read_again}
use Rattle.shunt_base.proofs.laws.spellings_are_read_back.Goals as goal

pub returns-clause-decimal : goal.returns-clause-decimal
returns-clause-decimal c = spelled

pub returns-clause-value : goal.returns-clause-value
returns-clause-value c = value_again

pub returns-clause-minute : goal.returns-clause-minute
returns-clause-minute c = read_again
