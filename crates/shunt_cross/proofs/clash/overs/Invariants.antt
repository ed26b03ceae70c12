use Rattle.std.proofs.Common.{◌≡◌, take}
use Rattle.std.specs.Prelude.{nat_lt, slice_index, count_by}
use Rattle.shunt_stays.specs.defs.Crossings.{load_after}
use Rattle.shunt_cross.proofs.clash.overs.Given as goal

abbrev pub invariant-loop-stay : goal.invariant-loop-stay
invariant-loop-stay l = l.over ≡ count_by (λ b. nat_lt (slice_index l.lengths b.track.0) (load_after l.stays b)) (take l.stay-index l.stays)
