use Rattle.std.proofs.Common.{refl, ap}
use Rattle.shunt_instance.proofs.Looked.{train_has, train_there, as_dep}
use Rattle.shunt_instance.proofs.joined.Instance.dep_named.Goals as goal

pub returns-in-Some-clause-some : goal.returns-in-Some-clause-some
returns-in-Some-clause-some c = train_has _ _ _ _ refl c.in-Some.ensures.exact

pub returns-in-Some-clause-only : goal.returns-in-Some-clause-only
returns-in-Some-clause-only c = λ k there. ap as_dep (train_there _ _ _ _ k refl c.in-Some.ensures.exact c.dep_place.ensures.distinct there)

pub returns-in-None-clause-only : goal.returns-in-None-clause-only
returns-in-None-clause-only c = λ k there. ap as_dep (train_there _ _ _ _ k refl c.in-None.ensures.exact c.dep_place.ensures.distinct there)
