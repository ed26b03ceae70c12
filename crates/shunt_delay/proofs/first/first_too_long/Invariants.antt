use Rattle.std.proofs.Common.{◌≡◌, [], take}
use Rattle.shunt_blocks.specs.defs.Lists.{track_lengths}
use Rattle.shunt_delay.specs.defs.Kept.{too_longs_of}
use Rattle.shunt_delay.proofs.first.first_too_long.Given as goal

abbrev pub invariant-loop-stay : goal.invariant-loop-stay
invariant-loop-stay l = too_longs_of (track_lengths l.instance.station) l.stays (take l.stay-index l.own) ≡ []
