use Rattle.shunt_blocks.proofs.StaysOf.{without_ids, alike_runs, placed_runs, placed_part}
use Rattle.shunt_blocks.proofs.laws.ids_do_not_matter.Goals as goal

pub returns-clause-part : goal.returns-clause-part
returns-clause-part c = without_ids

pub returns-clause-same : goal.returns-clause-same
returns-clause-same c = alike_runs

pub returns-clause-placed : goal.returns-clause-placed
returns-clause-placed c = placed_runs

pub returns-clause-placed_part : goal.returns-clause-placed_part
returns-clause-placed_part c = placed_part
