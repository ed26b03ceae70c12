use Rattle.std.proofs.Common.{◌≡◌, drop}
use Rattle.std.specs.Prelude.{find, option_map, unwrap_or}
use Rattle.shunt_drivers.specs.defs.Spans.{is_between, minutes_of}
use Rattle.shunt_drivers.proofs.spans.minutes_of.Given as goal

abbrev pub invariant-loop-takes : goal.invariant-loop-takes
invariant-loop-takes l = unwrap_or (option_map (λ t. t.minutes) (find (is_between l.origin l.event.track l.event.side) (drop l.takes-index l.takes-items))) l.crew.other
    ≡ minutes_of l.instance l.crew l.event
