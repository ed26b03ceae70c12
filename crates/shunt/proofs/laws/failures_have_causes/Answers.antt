use Rattle.shunt.proofs.Exactly.{store_rose, sink_rose, never_words, store_never, sink_never}
use Rattle.shunt.proofs.laws.failures_have_causes.Goals as goal

pub returns-clause-store : goal.returns-clause-store
returns-clause-store c = store_rose

pub returns-clause-sink : goal.returns-clause-sink
returns-clause-sink c = sink_rose

pub returns-clause-words : goal.returns-clause-words
returns-clause-words c = never_words

pub returns-clause-sure_store : goal.returns-clause-sure_store
returns-clause-sure_store c = store_never

pub returns-clause-sure_sink : goal.returns-clause-sure_sink
returns-clause-sure_sink c = sink_never
