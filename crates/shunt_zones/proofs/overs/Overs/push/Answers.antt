use Rattle.std.proofs.Common.{◌∙◌, ap}
use Rattle.shunt_zones.specs.defs.ZonesFormat.{stands}
use Rattle.shunt_zones.proofs.Same.{comes_last}
use Rattle.shunt_zones.proofs.overs.Overs.push.Goals as goal

pub invariant_of-self-else-is_err : goal.invariant_of-self-else-is_err
invariant_of-self-else-is_err c =
    comes_last c.args.over c.self.inside.list.items c.self.inside.known.keys c.insert.new.self.keys c.push.new.self.items c.insert.result c.self.invariant
    (ap (λ l. stands l c.args.over) c.self.view_is ∙ c.requires) c.if-is_err.ensures.value c.insert.ensures.keys c.in_ok-push.ensures.items
