use Rattle.std.proofs.Common.{arith}
use Rattle.shunt_drivers.proofs.SpanCounts.{minutes_within}
use Rattle.shunt_drivers.proofs.spans.span_of.Goals as goal

pub overflow_add-result : goal.overflow_add-result
overflow_add-result c =
    let few = (minutes_within c.args.instance.now c.args.instance.now.station c.args.crew.now c.args.event c.requires.crew).1 in
    let time = c.requires.of_night.minute in
    omega (arith, few, time, c.minutes_of-minutes.ensures)
