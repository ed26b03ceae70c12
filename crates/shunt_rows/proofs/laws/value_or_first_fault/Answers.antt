use Rattle.shunt_rows.proofs.Readings.{tells}
use Rattle.shunt_rows.proofs.laws.value_or_first_fault.Goals as goal

pub returns : goal.returns
returns g c = λ f up rows. tells f up rows
