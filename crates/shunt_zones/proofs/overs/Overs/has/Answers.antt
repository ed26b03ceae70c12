use Rattle.std.proofs.Common.{◌∙◌, ap}
use Rattle.shunt_zones.specs.defs.ZonesFormat.{stands}
use Rattle.shunt_zones.proofs.Same.{found}
use Rattle.shunt_zones.proofs.overs.Overs.has.Goals as goal

pub returns : goal.returns
returns c = c.contains.ensures ∙ found c.args.over c.self.inside.known.keys ∙ ap (λ l. stands l c.args.over) (c.self.invariant ∙ c.self.view_is)
