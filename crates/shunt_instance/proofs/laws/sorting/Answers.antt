use Rattle.shunt_instance.specs.defs.Instance.{sort_by_minute}
use Rattle.shunt_instance.proofs.Orders.{sort_moves, sort_rises, to_non_decreasing, stable_sort}
use Rattle.shunt_instance.proofs.laws.sorting.Goals as goal

pub returns-clause-moves : goal.returns-clause-moves
returns-clause-moves c = sort_moves

pub returns-clause-rises : goal.returns-clause-rises
returns-clause-rises c = λ trains. to_non_decreasing (sort_by_minute trains) (sort_rises trains)

pub returns-clause-one : goal.returns-clause-one
returns-clause-one c = stable_sort
