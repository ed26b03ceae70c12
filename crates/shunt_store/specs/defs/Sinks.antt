-- What a sink in memory holds.
use Rattle.shunt_store.specs.declared.memory_sink.MemSink.TheInside.{Inside}
use Rattle.shunt_store.specs.defs.Shown.{Shown}

-- its fields as what they stand for
abbrev pub shown : Inside → Shown
shown s = record { bytes = s.bytes.items; failing = s.failing.items; calls = s.calls; faults = s.faults }
