use Rattle.std.proofs.Common.{map, ap, ◌∙◌, arith}
use Rattle.std.proofs.lemmas.List.{take_all}
use Rattle.serde_json.specs.Data.{array}
use Rattle.serde_json.specs.View.{items_of}
use Rattle.shunt_report.specs.defs.JsonTexts.{event_value}
use Rattle.shunt_report.proofs.Events.{one_value}
use Rattle.shunt_report.proofs.json.events_value.Goals as goal

pub loop-step-preserved : goal.loop-step-preserved
loop-step-preserved c = one_value c.args.instance.now c.args.steps.now c.loop-step.step-index _ c.loop-step.events.items c.push.new.self.items c.in_ok-event_value.field-0
    c.loop-step-test.true c.in_ok-event_value.ensures c.in_ok-push.ensures.items c.loop-step.invariant

pub returns : goal.returns
returns c = c.from.ensures ∙ ap (λ l. array (items_of l)) (c.loop-step.invariant ∙ ap (map (event_value c.args.instance.now))
    (take_all c.loop-step.step-index c.args.steps.now (let f = c.loop-step-test.false in omega (arith, f))))
