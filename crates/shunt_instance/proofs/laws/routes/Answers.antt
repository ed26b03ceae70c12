use Rattle.shunt_instance.proofs.Found.{each_found, cost_small, side_open}
use Rattle.shunt_instance.proofs.laws.routes.Goals as goal

pub returns-clause-found : goal.returns-clause-found
returns-clause-found c = λ s k d h lt. each_found s.routes k d h.ways lt

pub returns-clause-cost : goal.returns-clause-cost
returns-clause-cost c = cost_small

pub returns-clause-open_at : goal.returns-clause-open_at
returns-clause-open_at c = side_open
