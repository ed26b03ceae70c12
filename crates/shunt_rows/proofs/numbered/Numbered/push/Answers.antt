use Rattle.std.proofs.Common.{◌∙◌}
use Rattle.shunt_rows.proofs.Numbers.{has_named}
use Rattle.shunt_rows.proofs.numbered.Numbered.push.Goals as goal

pub add-requires : goal.add-requires
add-requires g c = has_named g.N.Naming.name c.args.name.now _ c.self.inside.things.items _ c.self.invariant c.self.view_is ∙ c.requires.fresh
