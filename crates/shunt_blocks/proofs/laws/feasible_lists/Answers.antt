use Rattle.shunt_blocks.proofs.Feasible.{feasible_few, feasible_in_range, feasible_apart, feasible_placed, placed_cost, renumbered, placed_feasible}
use Rattle.shunt_blocks.proofs.laws.feasible_lists.Goals as goal

pub returns : goal.returns
returns c = record {
  few = λ night blocks is h. feasible_few night blocks is h;
  in_range = λ night blocks is h. feasible_in_range night blocks is h;
  apart = λ night blocks h. feasible_apart night blocks h;
  placed = λ night blocks is h. feasible_placed night blocks is h;
  cost = λ night blocks. placed_cost night 1 blocks;
  any_ids = λ night blocks is stand each covers through. renumbered night blocks is stand each covers through;
  no_ids = λ night blocks is each covers through. placed_feasible night blocks is each covers through;
}
