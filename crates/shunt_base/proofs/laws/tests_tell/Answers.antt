use Rattle.shunt_base.proofs.Names.{name_from, name_read}
use Rattle.shunt_base.proofs.Sides.{same_side_tells, same_side_is}
use Rattle.shunt_base.proofs.laws.tests_tell.Goals as goal

pub returns-clause-name : goal.returns-clause-name
returns-clause-name c = λ bytes. (name_from bytes, name_read bytes)

pub returns-clause-side : goal.returns-clause-side
returns-clause-side c = λ x y. (same_side_tells x y, same_side_is x y)
