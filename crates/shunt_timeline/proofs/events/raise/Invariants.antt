use Rattle.std.proofs.Common.{◌≡◌, ◌++◌, map, take, drop}
use Rattle.std.specs.List.{count_by}
use Rattle.shunt_timeline.specs.defs.Levels.{is_crossed, gets_over, has_left, has_blocked, raised}
use Rattle.shunt_timeline.proofs.events.raise.Given as goal

abbrev pub invariant-loop-event : goal.invariant-loop-event
invariant-loop-event l = record {
  events : l.events ≡ map (raised l.stay) (take l.event-index l.initial.events) ++ drop l.event-index l.initial.events;
  crossed : l.met.crossed ≡ count_by (is_crossed l.stay) (take l.event-index l.initial.events);
  over : l.met.over ≡ count_by (gets_over l.stay l.room) (take l.event-index l.initial.events);
  left : l.met.left ≡ count_by (has_left l.stay) (take l.event-index l.initial.events);
  blocked : l.met.blocked ≡ count_by (has_blocked l.stay) (take l.event-index l.initial.events);
}
