use Rattle.shunt.proofs.Exactly.{others, after_store, after_failure, after_memory, after_sink}
use Rattle.shunt.proofs.laws.what_stands_after.Goals as goal

pub returns-clause-others : goal.returns-clause-others
returns-clause-others c = others

pub returns-clause-store : goal.returns-clause-store
returns-clause-store c = after_store

pub returns-clause-some : goal.returns-clause-some
returns-clause-some c = after_failure

pub returns-clause-memory : goal.returns-clause-memory
returns-clause-memory c = after_memory

pub returns-clause-sink : goal.returns-clause-sink
returns-clause-sink c = after_sink
