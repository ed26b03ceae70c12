-- What the page of a plan shows.
use Rattle.std.specs.Prelude.{◌≡◌, map, length}
use Rattle.shunt_instance.specs.defs.Instance.{Night, unit_total}
use Rattle.shunt_blocks.specs.defs.Lists.{total_cost}
use Rattle.shunt_plan.specs.declared.records.Plan.{Plan}
use Rattle.shunt_sheet.specs.defs.Orders.{orders_in}
use Rattle.shunt_audit.specs.defs.Plans.{plan_findings}
use Rattle.shunt_picture.specs.defs.Pictures.{IsPictureOf}
use Rattle.shunt_picture.specs.defs.Layouts.{IsLaidOut, IsInside}
use Rattle.shunt_page.specs.declared.records.Page.{Page}
use Rattle.shunt_page.specs.defs.Told.{looses_of}
use Rattle.shunt_page.specs.defs.Orders.{rows_of}
use Rattle.shunt_page.specs.defs.Parts.{parts_of, parts_sum}
use Rattle.shunt_page.specs.defs.Findings.{finding_line}
use Rattle.shunt_page.specs.defs.Departs.{departs_of}

-- the station with its numbers of units and blocks, the cost with its parts, which add up to it, exactly the findings, the picture, one
-- row for each order of a sheet, that is for each entry and leave in key order, exactly the blocks without a stay, and each departing train
-- with what fills its positions
pub record IsPageOf (night : Night) (plan : Plan) (p : Page) : Type 0 where
  pub station : p.station ≡ night.station.name
  pub units : p.units ≡ unit_total night
  pub blocks : p.blocks ≡ length plan.blocks
  pub parts : p.parts ≡ parts_of night plan.blocks
  pub cost : p.cost ≡ total_cost night plan.blocks
  pub together : parts_sum p.parts ≡ p.cost
  pub stated : p.stated ≡ plan.cost
  pub findings : p.findings ≡ map (finding_line night) (plan_findings night plan)
  pub picture : IsPictureOf night plan p.picture
  pub layout : IsLaidOut p.picture
  pub inside : IsInside p.picture
  pub rows : p.rows ≡ rows_of night plan.blocks
  pub orders : map (λ r. r.order) p.rows ≡ orders_in night plan.blocks
  pub loose : p.loose ≡ looses_of night plan.blocks
  pub departs : p.departs ≡ departs_of night plan.blocks
