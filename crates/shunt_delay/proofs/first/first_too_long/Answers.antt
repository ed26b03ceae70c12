use Rattle.std.proofs.Common.{arith}
use Rattle.shunt_blocks.specs.defs.Lists.{track_lengths}
use Rattle.shunt_delay.proofs.Found.{at_over, none_over}
use Rattle.shunt_delay.proofs.first.first_too_long.Goals as goal

pub returns-then-load-track_length : goal.returns-then-load-track_length
returns-then-load-track_length c = at_over (track_lengths c.args.instance.now.station) c.args.stays.now c.args.own.now c.loop-stay.stay-index _ c.load_after-load.result
    c.track_length.result c.loop-stay-test.true c.loop-stay.invariant c.requires.alone c.load_after-load.ensures c.track_length.ensures c.if-load-track_length.true

pub returns : goal.returns
returns c = none_over (track_lengths c.args.instance.now.station) c.args.stays.now c.args.own.now c.loop-stay.stay-index
    (omega (arith, c.loop-stay-test.false)) c.loop-stay.invariant c.requires.alone
