use Rattle.std.proofs.Common.{◌≡◌, take}
use Rattle.shunt_make.specs.defs.Draws.{after, drawn_for}
use Rattle.shunt_make.specs.defs.Made.{route_of}
use Rattle.shunt_make.proofs.stations.made_routes.Given as goal

abbrev pub invariant-loop-way : goal.invariant-loop-way
invariant-loop-way l = record {
  made : l.routes.items ≡ drawn_for route_of l.initial.draws.state (take l.way-index l.ways);
  state : l.draws.state ≡ after l.initial.draws.state l.way-index;
}
