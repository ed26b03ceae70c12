use Rattle.std.proofs.Common.{◌∙◌}
use Rattle.shunt_rows.proofs.Numbers.{known_named}
use Rattle.shunt_rows.proofs.numbered.Known.known_in.Goals as goal

pub returns-clause-answer : goal.returns-clause-answer
returns-clause-answer g c = c.known_in.ensures.answer ∙ known_named g.N.Naming.name c.args.n c.args.row.now c.args.k _ c.self.inside.things.now _ c.self.invariant c.self.view_is
