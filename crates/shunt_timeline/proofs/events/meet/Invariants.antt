use Rattle.std.proofs.Common.{◌≡◌, take}
use Rattle.std.specs.List.{count_by}
use Rattle.shunt_timeline.specs.defs.Levels.{is_crossed, gets_over, has_left, has_blocked}
use Rattle.shunt_timeline.proofs.events.meet.Given as goal

abbrev pub invariant-loop-event : goal.invariant-loop-event
invariant-loop-event l = record {
  crossed : l.met.crossed ≡ count_by (is_crossed l.stay) (take l.event-index l.events);
  over : l.met.over ≡ count_by (gets_over l.stay l.room) (take l.event-index l.events);
  left : l.met.left ≡ count_by (has_left l.stay) (take l.event-index l.events);
  blocked : l.met.blocked ≡ count_by (has_blocked l.stay) (take l.event-index l.events);
}
