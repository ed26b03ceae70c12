-- The printed texts of a plan that was found, and of a pin that a plan doesn't keep.
use Rattle.std.specs.Prelude.{ℕ, ◌==◌, not, List, ◌++◌, length, count_by, codes, decimal}
use Rattle.std.specs.Option.{is_some, is_none}
use Rattle.shunt_blocks.specs.declared.records.Block.{Block}
use Rattle.shunt_plan.specs.declared.records.Plan.{Plan}
use Rattle.shunt_report.specs.defs.VerdictTexts.{end_word}

-- how many blocks are parked, and how many aren't
abbrev pub parked_in : List Block → ℕ
parked_in blocks = count_by (λ b. is_some b.park) blocks

abbrev pub unparked_in : List Block → ℕ
unparked_in blocks = count_by (λ b. is_none b.park) blocks

-- how many don't begin their arriving train, and how many not their departing train
abbrev pub splits_in : List Block → ℕ
splits_in blocks = count_by (λ b. not (b.p == 1)) blocks

abbrev pub couples_in : List Block → ℕ
couples_in blocks = count_by (λ b. not (b.q == 1)) blocks

-- `optimal cost C bound B nodes N` where the bound is the cost, else `unfinished cost C bound B nodes N`
abbrev pub cost_line : ℕ → ℕ → ℕ → List ℕ
cost_line cost bound nodes = end_word cost bound ++ codes " cost " ++ decimal cost ++ codes " bound " ++ decimal bound ++ codes " nodes " ++ decimal nodes ++ codes "\n"

-- `blocks N parked P unparked U splits S couples C`
abbrev pub blocks_line : List Block → List ℕ
blocks_line blocks = codes "blocks " ++ decimal (length blocks) ++ codes " parked " ++ decimal (parked_in blocks) ++ codes " unparked " ++ decimal (unparked_in blocks)
    ++ codes " splits " ++ decimal (splits_in blocks) ++ codes " couples " ++ decimal (couples_in blocks) ++ codes "\n"

-- both lines, with the cost that the plan states
unfoldable pub plan_of : Plan → ℕ → ℕ → List ℕ
plan_of plan bound nodes = cost_line plan.cost bound nodes ++ blocks_line plan.blocks

-- `pin ID lost`
unfoldable pub lost_of : ℕ → List ℕ
lost_of id = codes "pin " ++ decimal id ++ codes " lost\n"
