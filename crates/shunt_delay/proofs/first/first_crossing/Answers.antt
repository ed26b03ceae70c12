use Rattle.std.proofs.Common.{sym, ◌∙◌}
use Rattle.shunt_lists.proofs.Members.{in_place}
use Rattle.shunt_delay.proofs.Found.{at_pair}
use Rattle.shunt_delay.proofs.first.first_crossing.Goals as goal

pub returns-then-is_some : goal.returns-then-is_some
returns-then-is_some c = at_pair c.args.stays.now c.loop-earlier.earlier-index _ c.first_crossing_at-found.result c.loop-earlier-test.true c.loop-earlier.invariant
    c.first_crossing_at-found.ensures (sym c.is_some.ensures ∙ c.if-is_some.true)

pub first_crossing_at-found-requires-clause-there : goal.first_crossing_at-found-requires-clause-there
first_crossing_at-found-requires-clause-there c = in_place c.args.stays.now c.loop-earlier.earlier-index _ c.loop-earlier-test.true
