use Rattle.std.proofs.Common.{◌∙◌}
use Rattle.shunt_rows.proofs.Numbers.{number_named}
use Rattle.shunt_rows.proofs.numbered.Numbered.number_of.Goals as goal

pub returns-clause-value : goal.returns-clause-value
returns-clause-value g c = c.number_of.ensures.value ∙ number_named g.N.Naming.name c.args.name.now _ c.self.inside.things.items _ c.self.invariant c.self.view_is
