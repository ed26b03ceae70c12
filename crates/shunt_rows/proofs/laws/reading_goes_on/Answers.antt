use Rattle.shunt_rows.proofs.Joins.{reads_on}
use Rattle.shunt_rows.proofs.laws.reading_goes_on.Goals as goal

pub returns : goal.returns
returns g c = λ f s n rows more. reads_on f s n rows more
