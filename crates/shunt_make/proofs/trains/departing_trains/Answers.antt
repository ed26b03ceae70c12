use Rattle.std.proofs.Common.{refl, arith}
use Rattle.shunt_make.proofs.Built.{none_departing, departing_end}
use Rattle.shunt_make.proofs.trains.departing_trains.Goals as goal

pub returns-then-count-eq0 : goal.returns-then-count-eq0
returns-then-count-eq0 c = none_departing c.args.draws.now.state c.args.arrive.now c.new.result.items (omega arith) c.new.ensures.items

pub returns : goal.returns
returns c =
    departing_end c.args.draws.now.state _ c.below-shift.result c.below-shift.new.self.state c.args.arrive.now c.in_ok-trains.trains.items refl
    c.below-shift.ensures.state c.below-shift.ensures.value c.in_ok-trains.ensures
