use Rattle.std.proofs.Common.{refl}
use Rattle.shunt_search.proofs.search.take_next.Goals as goal

pub returns-in_default-clause-none : goal.returns-in_default-clause-none
returns-in_default-clause-none c =
    record { yard = refl; known = refl; passes = c.in_default.ensures.none; low = c.next_open.ensures.same; floor = refl; plain = refl; counted = refl; cases_counted = refl }

pub returns-clause-some : goal.returns-clause-some
returns-clause-some c =
    record { yard = refl; known = refl; passes = c.in-Some.ensures.some; low = c.next_open.ensures.same; floor = refl; plain = refl; counted = refl; cases_counted = refl }
