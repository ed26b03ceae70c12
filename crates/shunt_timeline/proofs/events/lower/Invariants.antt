use Rattle.std.proofs.Common.{◌≡◌, ◌≤◌, ◌++◌, map, take, drop}
use Rattle.std.specs.List.{count_by}
use Rattle.shunt_timeline.specs.defs.Levels.{is_crossed, gets_over, lowered}
use Rattle.shunt_timeline.proofs.events.lower.Given as goal

abbrev pub invariant-loop-event : goal.invariant-loop-event
invariant-loop-event l = record {
  events : l.events ≡ map (lowered l.stay) (take l.event-index l.initial.events) ++ drop l.event-index l.initial.events;
  crossed : l.met.crossed ≡ count_by (λ e. is_crossed l.stay (lowered l.stay e)) (take l.event-index l.initial.events);
  over : l.met.over ≡ count_by (λ e. gets_over l.stay l.room (lowered l.stay e)) (take l.event-index l.initial.events);
  left : l.met.left ≤ l.event-index;
  blocked : l.met.blocked ≤ l.event-index;
}
