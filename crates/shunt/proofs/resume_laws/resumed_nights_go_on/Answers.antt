use Rattle.shunt.proofs.Resumed.{RestLaws, nights_go_on}
use Rattle.shunt.proofs.resume_laws.resumed_nights_go_on.Goals as goal

pub returns : goal.returns
returns c =
    let laws : RestLaws = record {
      formed = c.resumed_timetables.ensures.formed;
      feasible = c.plans_go_on.ensures.feasible;
      cost = c.plans_go_on.ensures.cost;
      keeps = c.plans_go_on.ensures.keeps;
      usable = c.plans_go_on.ensures.usable;
      was_feasible = c.next_plans_are_plans.ensures.feasible;
      cost_before = c.next_plans_are_plans.ensures.cost;
      gone_from = c.gone_blocks.ensures.there;
      gone_to = c.gone_blocks.ensures.all;
      leave = c.next_plans_leave_what_has_come.ensures.leave;
      all = c.next_plans_leave_what_has_come.ensures.all;
      stays = c.what_has_come_stays.ensures;
      table_again = c.rows_of_a_timetable_state_it.ensures;
      table_short = c.text_of_a_timetable_is_short.ensures;
      pins_again = c.texts_of_pins.ensures.again;
      pins_short = c.texts_of_pins.ensures.short;
    } in
    nights_go_on c.plan_findings.ensures.none laws
