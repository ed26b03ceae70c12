use Rattle.shunt_make.specs.defs.Made.{route_of}
use Rattle.shunt_make.proofs.Chain.{drawn_turn, state_turn}
use Rattle.shunt_make.proofs.stations.made_routes.Goals as goal

pub loop-way-preserved : goal.loop-way-preserved
loop-way-preserved c = record {
  made = drawn_turn route_of c.args.draws.now.state c.loop-way.way-index c.loop-way.draws.state c.args.ways.now _ c.loop-way.routes.items c.push.new.self.items c.made_route.result
      c.loop-way-test.true c.loop-way.invariant.made c.loop-way.invariant.state c.made_route.ensures.made c.in_ok-push.ensures.items;
  state = state_turn c.args.draws.now.state c.loop-way.way-index c.loop-way.draws.state c.made_route.new.draws.state c.loop-way.invariant.state c.made_route.ensures.state;
}
