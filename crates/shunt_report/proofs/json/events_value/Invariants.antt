use Rattle.std.specs.Prelude.{map}
use Rattle.std.proofs.Common.{◌≡◌, take}
use Rattle.serde_json.specs.View.{view}
use Rattle.shunt_report.specs.defs.JsonTexts.{event_value}
use Rattle.shunt_report.proofs.json.events_value.Given as goal

abbrev pub invariant-loop-step : goal.invariant-loop-step
invariant-loop-step l = map view l.events.items ≡ map (event_value l.instance) (take l.step-index l.steps)
