use Rattle.std.proofs.Common.{◌≡◌, ◌<◌, arith}
use Rattle.shunt_make.specs.defs.Made.{train_count}
use Rattle.shunt_make.proofs.Built.{arriving_turn, arriving_state, arriving_end}
use Rattle.shunt_make.proofs.trains.arriving_trains.Goals as goal

pub loop-i-preserved : goal.loop-i-preserved
loop-i-preserved c =
    let there : c.loop-i.i < train_count c.args.units = omega arith in record {
      made = arriving_turn c.args.draws.now.state c.args.units c.loop-i.i c.loop-i.draws.state c.loop-i.trains.items c.push.new.self.items c.in_ok-arriving_train.field-0
          there c.loop-i.invariant.made c.loop-i.invariant.state c.in_ok-arriving_train.ensures.made c.in_ok-push.ensures.items;
      state = arriving_state c.args.draws.now.state c.args.units c.loop-i.i c.loop-i.draws.state c.arriving_train.new.draws.state there c.loop-i.invariant.state
          c.in_ok-arriving_train.ensures.state;
    }

pub returns-clause-made : goal.returns-clause-made
returns-clause-made c =
    let last : c.loop-i.i ≡ train_count c.args.units = omega arith in
    arriving_end c.args.draws.now.state c.args.units c.loop-i.i c.loop-i.trains.items last c.loop-i.invariant.made
