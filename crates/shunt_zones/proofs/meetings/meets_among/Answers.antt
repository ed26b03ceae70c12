use Rattle.std.proofs.Common.{◌+◌, ◌∙◌}
use Rattle.shunt_zones.proofs.Least.{later_is, one_move}
use Rattle.shunt_zones.proofs.meetings.meets_among.Goals as goal

pub loop-i-preserved : goal.loop-i-preserved
loop-i-preserved c = one_move c.args.moves.now _ c.loop-i.i c.index-moves-i.result _ c.loop-i.meets.items c.add_meets_of.new.meets.items c.loop-i-test.true c.index-moves-i.is
    (later_is c.args.moves.now (c.loop-i.i + 1)) c.in_ok-add_meets_of.ensures ∙ c.loop-i.invariant
