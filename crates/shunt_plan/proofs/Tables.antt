-- The tables of plans, pins and edits stand in order.
use Rattle.std.proofs.Common.{ℕ, Bool, true, false, List, [], ◌++◌, length, refl, sym, subst}
use Rattle.std.specs.Prelude.{codes, ◌==◌, if◌then◌else◌}
use Rattle.std.proofs.lemmas.List.{append-nil}
use Rattle.shunt_rows.specs.defs.Fields.{is_word}
use Rattle.shunt_rows.specs.defs.FirstFault.{HasChecksInOrder, Tells}
use Rattle.shunt_rows.proofs.InOrder.{in_if, no_word_up, Ascends, whole_up}
use Rattle.shunt_rows.proofs.Readings.{tells}
use Rattle.shunt_instance.specs.declared.records.Station.{Station}
use Rattle.shunt_instance.specs.defs.Instance.{Night}
use Rattle.shunt_blocks.specs.declared.records.Block.{Block}
use Rattle.shunt_plan.specs.defs.BlockRecords.{unparked_in, parked_in, option_in, runs_of, block_of, blocks_of}
use Rattle.shunt_plan.specs.defs.PlanFormat.{PlanDraft, plan_format}
use Rattle.shunt_plan.specs.defs.PinsFormat.{pins_first, pins_later, pins_format}
use Rattle.shunt_plan.specs.declared.edits.Turn.{Turn}
use Rattle.shunt_plan.specs.defs.Edits.{runs_in, add_of, drop_of, park_of, unpark_of, cut_of, join_of, undo_of, redo_of, turn_of, edits_first, edits_later, edits_format}
use Rattle.shunt_plan.specs.defs.PlanFormat as plan
use Rattle.shunt_plan.specs.declared.edits.Turn.TheVariants as turns

option_up : (s : Station) (row : List (List ℕ)) → Ascends 92 ((option_in s row 8).checks ++ [])
unfolding option_in unparked_in parked_in
option_up s row = by (length row == 8)
  where
    by : (b : Bool) → Ascends 92 ((if b then unparked_in row 8 else parked_in s row 8).checks ++ [])
    by true = record { up = refl }
    by false = record { up = refl }

block_up : (night : Night) (blocks : List Block) (row : List (List ℕ)) → Ascends 13 (block_of night blocks row).checks
unfolding block_of runs_of
block_up night blocks row = record { up = (option_up night.station row).up }

blocks_up : (night : Night) (blocks : List Block) (row : List (List ℕ)) → HasChecksInOrder (blocks_of night blocks row)
unfolding blocks_of
blocks_up night blocks row = record { up = (whole_up 13 (block_of night blocks row).checks (block_up night blocks row)).up }

more_up : (night : Night) (d : PlanDraft) (row : List (List ℕ)) → HasChecksInOrder (plan.more_of night d row)
unfolding plan.more_of
more_up night d row = record { up = (whole_up 13 (blocks_of night d.blocks row).checks (record { up = (blocks_up night d.blocks row).up })).up }

later_up : (night : Night) (d : PlanDraft) (row : List (List ℕ)) → HasChecksInOrder (plan.later_of night d row)
unfolding plan.later_of plan.cost_of
later_up night d row = in_if (is_word row (codes "block")) (more_up night d row) (in_if (is_word row (codes "cost")) (record { up = refl }) (no_word_up d))

pins_later_up : (night : Night) (blocks : List Block) (row : List (List ℕ)) → HasChecksInOrder (pins_later night blocks row)
unfolding pins_later
pins_later_up night blocks row = in_if (is_word row (codes "block")) (blocks_up night blocks row) (no_word_up blocks)

pub plans_tell : (night : Night) (rows : List (List (List ℕ))) → Tells (plan_format night) rows
unfolding plan.first_of
plans_tell night rows = tells (plan_format night) (record { first = λ row. record { up = refl }; later = later_up night }) rows

pub pins_tell : (night : Night) (rows : List (List (List ℕ))) → Tells (pins_format night) rows
unfolding pins_first
pins_tell night rows = tells (pins_format night) (record { first = λ row. record { up = refl }; later = pins_later_up night }) rows

edit_option_up : (s : Station) (row : List (List ℕ)) → Ascends 80 ((option_in s row 7).checks ++ [])
unfolding option_in unparked_in parked_in
edit_option_up s row = by (length row == 7)
  where
    by : (b : Bool) → Ascends 80 ((if b then unparked_in row 7 else parked_in s row 7).checks ++ [])
    by true = record { up = refl }
    by false = record { up = refl }

turn_up : (night : Night) (before : ℕ) (row : List (List ℕ)) → HasChecksInOrder (turn_of night before row)
unfolding turn_of add_of runs_in drop_of park_of unpark_of cut_of join_of undo_of redo_of
turn_up night before row =
    in_if (is_word row (codes "add")) (record { up = (edit_option_up night.station row).up })
    (in_if (is_word row (codes "drop")) (record { up = refl })
    (in_if (is_word row (codes "park")) (record { up = refl })
    (in_if (is_word row (codes "unpark")) (record { up = refl })
    (in_if (is_word row (codes "cut")) (record { up = refl })
    (in_if (is_word row (codes "join")) (record { up = refl })
    (in_if (is_word row (codes "undo")) (record { up = refl })
    (in_if (is_word row (codes "redo")) (record { up = refl }) (no_word_up turns.Undo))))))))

-- behind the checks of a turn there are no more
edits_later_up : (night : Night) (before : List Turn) (row : List (List ℕ)) → HasChecksInOrder (edits_later night before row)
unfolding edits_later
edits_later_up night before row = record {
  up = (subst (Ascends 13) (sym (append-nil (turn_of night (length before) row).checks))
      (record { up = (turn_up night (length before) row).up })).up;
}

pub edits_tell : (night : Night) (rows : List (List (List ℕ))) → Tells (edits_format night) rows
unfolding edits_first
edits_tell night rows = tells (edits_format night) (record { first = λ row. record { up = refl }; later = edits_later_up night }) rows
