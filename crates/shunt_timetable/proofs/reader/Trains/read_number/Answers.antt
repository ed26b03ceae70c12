use Rattle.std.proofs.Common.{◌∙◌}
use Rattle.shunt_rows.proofs.Numbers.{known_named}
use Rattle.shunt_instance.specs.declared.records.Train.{Train}
use Rattle.shunt_timetable.proofs.reader.Trains.read_number.Goals as goal

pub returns-clause-answer : goal.returns-clause-answer
returns-clause-answer c =
    c.known_in.ensures.answer
    ∙ known_named (λ (t : Train). t.name) c.args.n c.args.row.now 2 _ c.self.inside.trains.items _ c.self.invariant.0 c.self.view_is
