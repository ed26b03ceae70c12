use Rattle.std.proofs.Common.{ap, ◌∙◌}
use Rattle.serde_json.specs.Written.{has_float}
use Rattle.shunt_zones.proofs.Ordered.{StayLaws}
use Rattle.shunt_report.specs.defs.JsonTexts.{steps_of}
use Rattle.shunt_report.proofs.Events.{ran_steps, value_plain}
use Rattle.shunt_report.proofs.json.json_text.Goals as goal

pub value_with-requires-clause-steps : goal.value_with-requires-clause-steps
value_with-requires-clause-steps c =
    let laws : StayLaws = record {
      stays = λ n blocks i r. c.stays_of_blocks.ensures.stays n blocks i (c.stays_of_blocks.ensures.in_range n blocks r);
      from = c.stays_of_blocks.ensures.from;
    } in
    ran_steps laws c.args.instance.now c.args.plan.now.blocks c.as_slice.result.now c.in_ok-ran.ran c.station.ensures.formed c.requires.blocks c.as_slice.ensures
    c.in_ok-ran.ensures

pub line_of-requires : goal.line_of-requires
line_of-requires c = ap has_float c.in_ok-value.ensures ∙ value_plain c.args.instance.now c.args.plan.now.blocks (steps_of c.in_ok-ran.ran)
