-- What the files of `replay` state, turns on a workbench and what is told of each, and its answer.
use Rattle.std.specs.Prelude.{◌≡◌, ℕ, List, [], ◌∷◌, ◌++◌, Result, Ok, Err, length, ◌≢◌, ◌+◌}
use Rattle.shunt_store.specs.defs.Files.{Files, content}
use Rattle.shunt_instance.specs.defs.Instance.{Night}
use Rattle.shunt_blocks.specs.declared.records.Block.{Block}
use Rattle.shunt_blocks.specs.defs.Lists.{IsFeasible, total_cost}
use Rattle.shunt_plan.specs.declared.records.Plan.{Plan}
use Rattle.shunt_plan.specs.defs.PlanRows.{rows_of}
use Rattle.shunt_rows.specs.defs.Records.{text_of_rows}
use Rattle.shunt_audit.specs.declared.types.Finding.{Finding}
use Rattle.shunt_audit.specs.defs.Findings.{AreFindings}
use Rattle.shunt_report.specs.defs.FindingTexts.{findings_of}
use Rattle.shunt_plan.specs.declared.edits.Turn.{Turn}
use Rattle.shunt_plan.specs.declared.edits.Turn.TheVariants as turns
use Rattle.shunt_audit.specs.defs.Listed.{findings_in}
use Rattle.shunt_moves.specs.declared.types.MoveError.{MoveError}
use Rattle.shunt_moves.specs.declared.types.MoveError.TheVariants as errors
use Rattle.shunt_moves.specs.defs.States.{State}
use Rattle.shunt_moves.specs.defs.Edits.{edit}
use Rattle.shunt_moves.specs.defs.Benches.{Bench, started, after_edit, after_undo, after_redo}
use Rattle.shunt_report.specs.declared.turns.TurnOutcome.{TurnOutcome}
use Rattle.shunt_report.specs.declared.turns.TurnOutcome.TheVariants as outcome
use Rattle.shunt_report.specs.defs.TurnTexts.{turn_line}
use Rattle.shunt_inputs.specs.defs.Inputs.{then_stated, stated_plans, stated_edits}
use Rattle.shunt_inputs.specs.defs.Replies.{Reply}
use Rattle.shunt_judging.specs.defs.Audited.{audit_outcome}

-- a night, a plan in it, and the turns that are to be done on its blocks
pub record Replayable : Type 0 where
  pub night : Night
  pub plan : Plan
  pub turns : List Turn

-- those that a station file, a timetable file, a plan file and an edits file state, or the line for the first of them that isn't
-- accepted
unfoldable pub stated_turns : List ℕ → List ℕ → List ℕ → List ℕ → Result Replayable (List ℕ)
stated_turns s t p e = then_stated (stated_plans s t p) (λ x. then_stated (stated_edits x.0 e) (λ turns. Ok (record { night = x.0; plan = x.1; turns = turns })))

-- the same of what the files of these names hold
abbrev pub turns_in : List ℕ → List ℕ → List ℕ → List ℕ → Files → Result Replayable (List ℕ)
turns_in s t p e files = stated_turns (content files s) (content files t) (content files p) (content files e)

-- the bench after a turn: a refused one leaves it as it is
abbrev pub after_turn : Bench → Turn → Bench
after_turn bench (turns.Edit e) = after_edit bench e
after_turn bench turns.Undo = after_undo bench
after_turn bench turns.Redo = after_redo bench

-- the bench after turns, one after the other
abbrev pub after_turns : Bench → List Turn → Bench
after_turns bench [] = bench
after_turns bench (t ∷ ts) = after_turns (after_turn bench t) ts

-- how an edit ends; it is never refused for want of memory
abbrev pub edit_outcome : Result State MoveError → TurnOutcome
edit_outcome (Ok next) = outcome.Ok
edit_outcome (Err errors.NoBlock) = outcome.NoBlock
edit_outcome (Err errors.BadCount) = outcome.BadCount
edit_outcome (Err errors.NotAdjacent) = outcome.NotAdjacent
edit_outcome (Err errors.BadRange) = outcome.BadRange
edit_outcome (Err errors.Full) = outcome.Full
edit_outcome (Err errors.IdsSpent) = outcome.IdsSpent
edit_outcome (Err errors.Memory) = outcome.Nothing

-- how a step to the first of these states ends
abbrev pub step_outcome : List State → TurnOutcome
step_outcome [] = outcome.Nothing
step_outcome (s ∷ states) = outcome.Ok

-- how a turn ends
abbrev pub turn_outcome : Bench → Turn → TurnOutcome
turn_outcome bench (turns.Edit e) = edit_outcome (edit bench.night bench.present e)
turn_outcome bench turns.Undo = step_outcome bench.past
turn_outcome bench turns.Redo = step_outcome bench.undone

-- the line of a turn that ended so and left these blocks: how many findings they have, and what they cost
abbrev pub line_with : ℕ → TurnOutcome → Night → List Block → List ℕ
line_with number ended night blocks = turn_line number ended (length (findings_in night blocks)) (total_cost night blocks)

-- the line of a turn
abbrev pub line_of : ℕ → Bench → Turn → List ℕ
line_of number bench t = line_with number (turn_outcome bench t) bench.night (after_turn bench t).present.blocks

-- the lines of turns, numbered from this number on
abbrev pub lines_from : ℕ → Bench → List Turn → List ℕ
lines_from number bench [] = []
lines_from number bench (t ∷ ts) = line_of number bench t ++ lines_from (number + 1) (after_turn bench t) ts

-- the line of a turn in words: how it ended, how many findings the blocks that it leaves have, of which the list is exact, and what they cost
pub record IsTurnLine (number : ℕ) (bench : Bench) (t : Turn) (line : List ℕ) : Type 0 where
  pub findings : List Finding
  pub told : AreFindings bench.night (after_turn bench t).present.blocks findings
  pub is : line ≡ turn_line number (turn_outcome bench t) (length findings) (total_cost bench.night (after_turn bench t).present.blocks)

-- the bench of the plan's blocks
abbrev pub bench_of : Replayable → Bench
bench_of x = started x.night x.plan.blocks

-- the state that all turns leave
abbrev pub last_of : Replayable → State
last_of x = (after_turns (bench_of x) x.turns).present

-- its blocks as a plan that states their cost
abbrev pub last_plan : Replayable → Plan
last_plan x = record { blocks = (last_of x).blocks; cost = total_cost x.night (last_of x).blocks }

-- the lines of all turns
abbrev pub replay_lines : Replayable → List ℕ
replay_lines x = lines_from 1 (bench_of x) x.turns

-- ---- what a workbench answers

-- its answer tells that an edit ended so, and isn't want of memory
abbrev pub TellsEdit : Result (Unit {0}) MoveError → TurnOutcome → Type 0
TellsEdit (Ok done) ended = ended ≡ outcome.Ok
TellsEdit (Err error) ended = (error ≢ errors.Memory) × (ended ≡ edit_outcome (Err error))

-- how an undo or a redo ended that was answered so
abbrev pub step_told : {E : Type 0} → Result (Unit {0}) E → TurnOutcome
step_told (Ok done) = outcome.Ok
step_told (Err nothing) = outcome.Nothing

-- the blocks that the turns leave are a feasible plan
abbrev pub EndsFeasible : Replayable → Type 0
EndsFeasible x = IsFeasible x.night (last_of x).blocks

-- the answer of `replay`: the blocks that the turns leave are written as a plan with what they cost; a line for each turn, and then
-- their findings and their cost, are printed
pub record IsReplayed (file : List ℕ) (x : Replayable) (r : Reply) : Type 0 where
  pub findings : List Finding
  pub told : AreFindings x.night (last_of x).blocks findings
  pub outcome : r.outcome ≡ audit_outcome findings
  pub writes : r.writes ≡ (file, text_of_rows (rows_of x.night (last_plan x))) ∷ []
  pub text : r.text ≡ replay_lines x ++ findings_of x.night findings (total_cost x.night (last_of x).blocks)
