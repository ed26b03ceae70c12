-- The answers of `plan` and of `pinned`.
use Rattle.std.specs.Prelude.{◌≡◌, ◌⊎◌, ◌==◌, ℕ, ◌≤◌, Bool, List, [], ◌∷◌, length, Option, Some, None, if◌then◌else◌}
use Rattle.shunt_rows.specs.defs.Records.{text_of_rows}
use Rattle.shunt_instance.specs.defs.Instance.{Night}
use Rattle.shunt_matching.specs.declared.types.Shortage.{Shortage}
use Rattle.shunt_matching.specs.defs.Nights.{HasItsType, HasMatching, HasNoMatching, IsShortageOf}
use Rattle.shunt_blocks.specs.declared.records.Block.{Block}
use Rattle.shunt_blocks.specs.defs.Lists.{units_taken, positions_taken}
use Rattle.shunt_blocks.specs.defs.Pins.{AreUsable}
use Rattle.shunt_plan.specs.declared.records.Plan.{Plan}
use Rattle.shunt_plan.specs.defs.Plans.{IsPlanInRange}
use Rattle.shunt_plan.specs.defs.PlanRows.{rows_of}
use Rattle.shunt_proof.specs.declared.records.Version.TheVariants.{Prices}
use Rattle.shunt_proof.specs.declared.records.Certificate.{Certificate}
use Rattle.shunt_proof.specs.defs.Certificates.{IsCertificate}
use Rattle.shunt_proof.specs.defs.CertificateRows as certificate_rows
use Rattle.shunt_search.specs.defs.Conditions.{MeetConditions}
use Rattle.shunt_report.specs.defs.PlanTexts.{plan_of}
use Rattle.shunt_inputs.specs.declared.answers.Outcome.{Outcome}
use Rattle.shunt_inputs.specs.declared.answers.Outcome.TheVariants as outcome
use Rattle.shunt_inputs.specs.declared.pins.Pinned.{Pinned}
use Rattle.shunt_inputs.specs.defs.Replies.{Reply}
use Rattle.shunt_planning.specs.defs.Matched.{IsShortBeside}
use Rattle.shunt_judging.specs.defs.Pins.{IsUnusable}

-- the texts of a plan and of a certificate
abbrev pub plan_file : Night → Plan → List ℕ
plan_file night plan = text_of_rows (rows_of night plan)

abbrev pub certificate_file : Night → Certificate → List ℕ
certificate_file night certificate = text_of_rows (certificate_rows.rows_of night certificate)

-- a search ends well where the bound is the cost
abbrev pub search_outcome : ℕ → ℕ → Outcome
search_outcome cost bound = if bound == cost then outcome.Done else outcome.Unfinished

-- a certificate is written, and then a plan, with the text of both
abbrev pub planned : Outcome → List ℕ → List ℕ → Night → Plan → Certificate → Reply
planned outcome p k night plan certificate = record {
  outcome = outcome;
  writes = (k, certificate_file night certificate) ∷ (p, plan_file night plan) ∷ [];
  text = plan_of plan certificate.bound (length certificate.nodes);
}

-- a plan and a certificate that files can state are written, which meet the eight conditions over these pins with at most that many nodes;
-- with at most 16 nodes the certificate is of version 1
pub record IsPlanned (pins : List Block) (most : ℕ) (p k : List ℕ) (night : Night) (r : Reply) : Type 0 where
  pub plan : Plan
  pub certificate : Certificate
  pub in_range : IsPlanInRange night plan
  pub statable : IsCertificate night certificate
  pub meet : MeetConditions night pins most plan certificate
  pub few : most ≤ 16 → certificate.version ≡ Prices
  pub reply : r ≡ planned (search_outcome certificate.cost certificate.bound) p k night plan certificate

-- the same, and what the plan costs is as wanted
pub record IsPlannedAt (fits : ℕ → Type 0) (pins : List Block) (most : ℕ) (p k : List ℕ) (night : Night) (r : Reply) : Type 0 where
  pub planned : IsPlanned pins most p k night r
  pub cost : fits planned.plan.cost

-- the answer of a search on a night over these pins, with at most that many nodes: a plan where the units and positions that these masks
-- don't leave out have a matching
abbrev pub IsSoughtOver : List Block → List Bool → List Bool → ℕ → List ℕ → List ℕ → Night → Reply → Type 0
IsSoughtOver pins units places most p k night r = (HasMatching night units places × IsPlanned pins most p k night r) ⊎ IsShortBeside units places night r

-- the answer of `plan` on a night: a search without pins
abbrev pub IsSought : ℕ → List ℕ → List ℕ → Night → Reply → Type 0
IsSought most p k night r = IsSoughtOver [] [] [] most p k night r

-- the search over pins, which leaves out the units and positions that they have
abbrev pub IsSoughtBeside : List Block → ℕ → List ℕ → List ℕ → Night → Reply → Type 0
IsSoughtBeside pins most p k night r = IsSoughtOver pins (units_taken night pins) (positions_taken night pins) most p k night r

-- the answer of `pinned` on a night and pins in it: what is wrong with pins that aren't usable, or a search over usable ones
abbrev pub IsPinned : ℕ → List ℕ → List ℕ → Pinned → Reply → Type 0
IsPinned most p k x r = IsUnusable x.instance x.pins r ⊎ (AreUsable x.instance x.pins × IsSoughtBeside x.pins most p k x.instance r)

-- the first shortage of the units and positions that these masks don't leave out, or none where those have a matching
abbrev pub Lacks : Night → List Bool → List Bool → Option Shortage → Type 0
Lacks night units places (Some s) = HasNoMatching night units places × IsShortageOf night units places s × HasItsType night s
Lacks night units places None = HasMatching night units places
