-- Workbenches: a state with those before it and those that were undone.
use Rattle.std.specs.Prelude.{◌+◌, List, [], ◌∷◌, Result, Ok, Err}
use Rattle.shunt_instance.specs.defs.Instance.{Night}
use Rattle.shunt_blocks.specs.declared.records.Block.{Block}
use Rattle.shunt_plan.specs.declared.edits.Edit.{Edit}
use Rattle.shunt_moves.specs.declared.types.MoveError.{MoveError}
use Rattle.shunt_audit.specs.defs.Listed.{by_id}
use Rattle.shunt_moves.specs.defs.States.{State, greatest_id}
use Rattle.shunt_moves.specs.defs.Edits.{edit}

-- the present state in its night, the past states and the undone ones, each the latest first
pub record Bench : Type 0 where
  pub night : Night
  pub present : State
  pub past : List State
  pub undone : List State

-- the bench of a plan's blocks
abbrev pub started : Night → List Block → Bench
started night blocks = record { night = night; present = record { blocks = by_id blocks; next = greatest_id blocks + 1 }; past = []; undone = [] }

-- an accepted edit puts the old state on the past list and empties the undone list; a refused one changes nothing
abbrev pub applied : Bench → Result State MoveError → Bench
applied bench (Ok next) = record bench { present = next; past = bench.present ∷ bench.past; undone = [] }
applied bench (Err error) = bench

abbrev pub after_edit : Bench → Edit → Bench
after_edit bench e = applied bench (edit bench.night bench.present e)

-- back to the last past state; without one nothing changes
abbrev pub gone_back : Bench → List State → Bench
gone_back bench [] = bench
gone_back bench (s ∷ past) = record bench { present = s; past = past; undone = bench.present ∷ bench.undone }

abbrev pub after_undo : Bench → Bench
after_undo bench = gone_back bench bench.past

-- on to the last undone state; without one nothing changes
abbrev pub gone_on : Bench → List State → Bench
gone_on bench [] = bench
gone_on bench (s ∷ undone) = record bench { present = s; past = bench.present ∷ bench.past; undone = undone }

abbrev pub after_redo : Bench → Bench
after_redo bench = gone_on bench bench.undone
