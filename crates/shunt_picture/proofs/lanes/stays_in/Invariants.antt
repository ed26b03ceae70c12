use Rattle.std.proofs.Common.{◌≡◌, map, take}
use Rattle.shunt_picture.proofs.lanes.stays_in.Given as goal

abbrev pub invariant-loop-standing : goal.invariant-loop-standing
invariant-loop-standing l = l.stays.items ≡ map (λ s. s.stay) (take l.standing-index l.standings)
