use Rattle.std.proofs.Common.{arith}
use Rattle.shunt_make.specs.defs.Made.{kind_of}
use Rattle.shunt_make.proofs.Chain.{numbered_turn, state_turn}
use Rattle.shunt_make.proofs.trains.made_kinds.Goals as goal

pub loop-place-preserved : goal.loop-place-preserved
loop-place-preserved c = record {
  made = numbered_turn kind_of c.args.draws.now.state 0 c.loop-place._place c.loop-place._place c.loop-place.draws.state c.loop-place.kinds.items c.push.new.self.items
      c.made_kind.result
      c.loop-place.invariant.made c.loop-place.invariant.state (omega arith) c.made_kind.ensures.made c.in_ok-push.ensures.items;
  state = state_turn c.args.draws.now.state c.loop-place._place c.loop-place.draws.state c.made_kind.new.draws.state c.loop-place.invariant.state c.made_kind.ensures.state;
}
