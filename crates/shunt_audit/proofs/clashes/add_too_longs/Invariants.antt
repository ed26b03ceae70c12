use Rattle.std.specs.List.{flat_map}
use Rattle.std.proofs.Common.{◌≡◌, ◌++◌, take}
use Rattle.shunt_stays.specs.defs.Crossings.{load_after}
use Rattle.shunt_blocks.specs.defs.Lists.{track_lengths}
use Rattle.shunt_audit.specs.defs.Listed.{too_long_at}
use Rattle.shunt_audit.proofs.clashes.add_too_longs.Given as goal

abbrev pub invariant-loop-stay : goal.invariant-loop-stay
invariant-loop-stay l = l.findings.items ≡ l.initial.findings.items ++ flat_map (λ s. too_long_at (track_lengths l.instance.station) s (load_after l.stays s))
    (take l.stay-index l.stays)
