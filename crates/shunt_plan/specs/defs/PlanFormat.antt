-- The format of a plan in a night.
use Rattle.std.specs.Prelude.{ℕ, List, [], Option, Some, None, if◌then◌else◌, codes}
use Rattle.std.specs.Option.{is_some, unwrap_or}
use Rattle.shunt_rows.specs.defs.Checks.{Judged, says, ◌>>=◌}
use Rattle.shunt_rows.specs.defs.Fields.{is_word, no_word, fields_in, number_in}
use Rattle.shunt_rows.specs.defs.Formats.{Format}
use Rattle.shunt_instance.specs.defs.Instance.{Night}
use Rattle.shunt_blocks.specs.declared.records.Block.{Block}
use Rattle.shunt_plan.specs.declared.records.Plan.{Plan}
use Rattle.shunt_plan.specs.defs.BlockRecords.{first_in, blocks_of}

-- what the records so far state: blocks, and the cost where its record was read
pub record PlanDraft : Type 0 where
  pub blocks : List Block
  pub cost : Option ℕ

-- `plan,1`
unfoldable pub first_of : List (List ℕ) → Judged PlanDraft
first_of row = first_in (codes "plan") (record { blocks = []; cost = None }) row

-- one more block
unfoldable pub more_of : Night → PlanDraft → List (List ℕ) → Judged PlanDraft
more_of night d row = do
  blocks ← blocks_of night d.blocks row
  says record d { blocks = blocks }

-- `cost,STATED`
unfoldable pub cost_of : PlanDraft → List (List ℕ) → Judged PlanDraft
cost_of d row = do
  _ ← fields_in row 2 2
  stated ← number_in row 2 0 1000000000000
  says record d { cost = Some stated }

-- a later record, by its word
unfoldable pub later_of : Night → PlanDraft → List (List ℕ) → Judged PlanDraft
later_of night d row =
    if is_word row (codes "block") then more_of night d row
    else if is_word row (codes "cost") then cost_of d row
    else no_word d

-- the plan that the records state
abbrev pub plan_of : PlanDraft → Plan
plan_of d = record { blocks = d.blocks; cost = unwrap_or d.cost 0 }

-- the plan file: the cost record is there, and the last
abbrev pub plan_format : Night → Format PlanDraft Plan
plan_format night = record { first = first_of; later = later_of night; has_ended = λ d. is_some d.cost; is_whole = λ d. is_some d.cost; value = plan_of }
