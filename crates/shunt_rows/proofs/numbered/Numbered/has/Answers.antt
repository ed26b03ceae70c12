use Rattle.std.proofs.Common.{◌∙◌}
use Rattle.shunt_rows.proofs.Numbers.{has_named}
use Rattle.shunt_rows.proofs.numbered.Numbered.has.Goals as goal

pub returns : goal.returns
returns g c = c.has.ensures ∙ has_named g.N.Naming.name c.args.name.now _ c.self.inside.things.items _ c.self.invariant c.self.view_is
