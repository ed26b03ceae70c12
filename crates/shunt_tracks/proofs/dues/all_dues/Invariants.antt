use Rattle.std.proofs.Common.{◌≡◌, take}
use Rattle.std.specs.List.{flat_map}
use Rattle.shunt_tracks.specs.defs.Dues.{dues_of}
use Rattle.shunt_tracks.proofs.dues.all_dues.Given as goal

abbrev pub invariant-loop-stay : goal.invariant-loop-stay
invariant-loop-stay l = l.all.items ≡ flat_map dues_of (take l.stay-index l.stays)
