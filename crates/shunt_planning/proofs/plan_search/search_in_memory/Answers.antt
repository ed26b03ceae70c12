use Rattle.std.proofs.Common.{Err, ap}
use Rattle.shunt_planning.proofs.plan_search.search_in_memory.Goals as goal

pub unreachable-requires : goal.unreachable-requires
unreachable-requires c = c.requires.matching c.in-Err-NoMatching.field-0-0 (c.in-Err-NoMatching.ensures.exact c.in-Err-NoMatching.field-0-0
    (ap Err c.in-Err-NoMatching.field-0-is))
