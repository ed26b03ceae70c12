use Rattle.std.proofs.Common.{arith}
use Rattle.shunt_make.specs.defs.Made.{departing_of}
use Rattle.shunt_make.proofs.Chain.{numbered_turn, state_turn}
use Rattle.shunt_make.proofs.trains.shifted_trains.Goals as goal

pub loop-i-preserved : goal.loop-i-preserved
loop-i-preserved c = record {
  made = numbered_turn (departing_of c.args.arrive.now c.args.shift) c.args.draws.now.state 0 c.loop-i.i c.loop-i.i c.loop-i.draws.state c.loop-i.trains.items c.push.new.self.items
      c.in_ok-departing_train.field-0
      c.loop-i.invariant.made c.loop-i.invariant.state (omega arith) c.in_ok-departing_train.ensures.made c.in_ok-push.ensures.items;
  state = state_turn c.args.draws.now.state c.loop-i.i c.loop-i.draws.state c.departing_train.new.draws.state c.loop-i.invariant.state c.departing_train.ensures.state;
}
