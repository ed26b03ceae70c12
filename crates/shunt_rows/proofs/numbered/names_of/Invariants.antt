use Rattle.std.proofs.Common.{◌≡◌, map, take}
use Rattle.shunt_rows.proofs.numbered.names_of.Given as goal

abbrev pub invariant-things : goal.invariant-things
invariant-things g l = l.names ≡ map g.N.Naming.name (take l.thing-index l.things)
