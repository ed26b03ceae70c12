-- The answer of `sheet`.
use Rattle.std.specs.Prelude.{◌≡◌, ◌⊎◌, ℕ, List, [], ◌∷◌}
use Rattle.shunt_rows.specs.defs.Records.{text_of_rows}
use Rattle.shunt_instance.specs.defs.Instance.{Night}
use Rattle.shunt_plan.specs.declared.records.Plan.{Plan}
use Rattle.shunt_audit.specs.defs.Plans.{ArePlanFindings}
use Rattle.shunt_sheet.specs.defs.Orders.{orders_in}
use Rattle.shunt_sheet.specs.defs.SheetRows.{rows_of as sheet_rows}
use Rattle.shunt_report.specs.defs.SheetTexts.{sheet_of}
use Rattle.shunt_inputs.specs.declared.answers.Outcome.TheVariants as outcome
use Rattle.shunt_inputs.specs.defs.Replies.{Reply}
use Rattle.shunt_judging.specs.defs.Audited.{IsFaulty}

-- the answer of `sheet` on a plan without findings: its orders are written, and their number is printed
pub record HasSheet (file : List ℕ) (x : Night × Plan) (r : Reply) : Type 0 where
  pub none : ArePlanFindings x.0 x.1 []
  pub outcome : r.outcome ≡ outcome.Done
  pub writes : r.writes ≡ (file, text_of_rows (sheet_rows x.0.station (orders_in x.0 x.1.blocks))) ∷ []
  pub text : r.text ≡ sheet_of (orders_in x.0 x.1.blocks)

-- the answer of `sheet` on a plan
abbrev pub IsOrdered : List ℕ → Night × Plan → Reply → Type 0
IsOrdered file x r = IsFaulty x r ⊎ HasSheet file x r
