use Rattle.std.proofs.Common.{◌∙◌}
use Rattle.shunt_rows.proofs.Numbers.{has_named}
use Rattle.shunt_instance.specs.declared.records.Train.{Train}
use Rattle.shunt_timetable.proofs.reader.Trains.has.Goals as goal

pub returns : goal.returns
returns c = c.has.ensures ∙ has_named (λ (t : Train). t.name) c.args.name.now _ c.self.inside.trains.items _ c.self.invariant.0 c.self.view_is
