use Rattle.shunt_sheet.specs.defs.Orders.{orders_in}
use Rattle.shunt_instance.proofs.Orders.{opened}
use Rattle.shunt.proofs.Gone.{SheetLaws, goes_through}
use Rattle.shunt.proofs.laws.written_sheets_go_through.Goals as goal

pub returns : goal.returns
returns c =
    let laws : SheetLaws = record {
      again = c.sheets_of_plans.ensures.again;
      short = λ night blocks of_night in_range. c.texts_of_sheets.ensures.short night.station (orders_in night blocks) (opened night of_night).station
          (c.sheets_of_plans.ensures.formed night blocks of_night in_range);
      followed = c.sheets_of_plans.ensures.followed;
    } in
    goes_through c.plan_findings.ensures.none laws
