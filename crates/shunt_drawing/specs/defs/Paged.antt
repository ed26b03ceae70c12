-- The answer of `page`.
use Rattle.std.specs.Prelude.{◌≡◌, ℕ, List, [], ◌∷◌}
use Rattle.shunt_instance.specs.defs.Instance.{Night}
use Rattle.shunt_blocks.specs.defs.Lists.{total_cost}
use Rattle.shunt_plan.specs.declared.records.Plan.{Plan}
use Rattle.shunt_audit.specs.declared.types.Finding.{Finding}
use Rattle.shunt_audit.specs.defs.Plans.{ArePlanFindings}
use Rattle.shunt_page.specs.declared.records.Page.{Page}
use Rattle.shunt_page.specs.defs.Pages.{IsPageOf}
use Rattle.shunt_page.specs.defs.PageTexts.{html_of}
use Rattle.shunt_report.specs.defs.FindingTexts.{findings_of}
use Rattle.shunt_inputs.specs.defs.Replies.{Reply}
use Rattle.shunt_judging.specs.defs.Audited.{audit_outcome}

-- the answer of `page` on a plan: its page is written, whatever its findings are, and they and what its blocks cost are printed
pub record IsPaged (file : List ℕ) (x : Night × Plan) (r : Reply) : Type 0 where
  pub findings : List Finding
  pub told : ArePlanFindings x.0 x.1 findings
  pub page : Page
  pub of_plan : IsPageOf x.0 x.1 page
  pub outcome : r.outcome ≡ audit_outcome findings
  pub writes : r.writes ≡ (file, html_of page) ∷ []
  pub text : r.text ≡ findings_of x.0 findings (total_cost x.0 x.1.blocks)
