use Rattle.shunt_instance.specs.defs.Instance.{night_of}
use Rattle.shunt_instance.proofs.Orders.{night_is, night_again, opened, closed}
use Rattle.shunt_instance.proofs.laws.instances.Goals as goal

pub returns-clause-opened : goal.returns-clause-opened
returns-clause-opened c = opened

pub returns-clause-closed : goal.returns-clause-closed
returns-clause-closed c = closed

pub returns-clause-made : goal.returns-clause-made
returns-clause-made c = λ s t p q. closed (night_of s t) (night_is s t p q)

pub returns-clause-again : goal.returns-clause-again
returns-clause-again c = λ night h. night_again night (opened night h)
