use Rattle.shunt_stays.proofs.Steps.{load_kept}
use Rattle.shunt_stays.proofs.laws.loads_fit.Goals as goal

pub returns : goal.returns
returns c = λ room m blocks after le e. load_kept room m blocks after e le
