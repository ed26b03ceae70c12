use Rattle.std.proofs.Common.{rules}
use Rattle.std.proofs.lemmas.List.Elements.{All-cons, All-nil}
use Rattle.shunt_tables.proofs.duals.path_of.Goals as goal
use Rattle.shunt_blocks.proofs.StaysOf.{alone_apart}

pub start_with-requires-clause-in_range : goal.start_with-requires-clause-in_range
start_with-requires-clause-in_range c = search (rules, All-cons, All-nil)

pub start_with-requires-clause-apart : goal.start_with-requires-clause-apart
start_with-requires-clause-apart c = search (rules, alone_apart)
