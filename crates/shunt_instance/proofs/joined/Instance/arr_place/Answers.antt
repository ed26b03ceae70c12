use Rattle.std.proofs.Common.{subst}
use Rattle.shunt_instance.specs.defs.Instance.{IsOrderedNight}
use Rattle.shunt_instance.proofs.joined.Instance.arr_place.Goals as goal

pub returns-clause-distinct : goal.returns-clause-distinct
returns-clause-distinct c = (subst IsOrderedNight c.self.view_is c.self.invariant.formed).timetable.arrive.names
