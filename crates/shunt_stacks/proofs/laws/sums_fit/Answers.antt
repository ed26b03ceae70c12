use Rattle.std.specs.Prelude.{All}
use Rattle.std.proofs.Common.{List, [], ◌∷◌, ◌++◌, ℕ, ℤ, ◌<◌, length, arith}
use Rattle.shunt_base.specs.declared.duals.Case.{Case}
use Rattle.shunt_instance.specs.defs.Instance.{Night, IsInstance}
use Rattle.shunt_blocks.specs.declared.records.Block.{Block}
use Rattle.shunt_blocks.specs.defs.Shapes.{shape_of, AreRunsWithin, IsWithinTrains}
use Rattle.shunt_blocks.specs.defs.Lists.{ShareNothing, RunsThrough, placed}
use Rattle.shunt_choices.proofs.Given.{PlaceLaws}
use Rattle.shunt_prices.specs.defs.Sums.{IsWithin}
use Rattle.shunt_prices.specs.defs.Limits.{IsCase, AreCases, case_at, from_of}
use Rattle.shunt_stacks.specs.defs.Stacks.{stacks, stack_of}
use Rattle.shunt_stacks.specs.defs.Fillings.{gain}
use Rattle.shunt_stacks.specs.defs.Bounds.{IsStackSum}
use Rattle.shunt_stacks.proofs.Parts.{part_left, part_runs}
use Rattle.shunt_stacks.proofs.Owned.{few_stacks}
use Rattle.shunt_stacks.proofs.Rises.{longer_apart, longer_within}
use Rattle.shunt_stacks.proofs.Sizes.{filling_small, gain_small, all_small, less_gains, block_within, fall_small, choice_within}
use Rattle.shunt_stacks.proofs.laws.sums_fit.Goals as goal

pub returns : goal.returns
returns c =
    let places : PlaceLaws = record { unit_in = c.places.ensures.unit_in; position_in = c.places.ensures.position_in } in
    let law = c.ids_do_not_matter.ensures.placed_part in
    let units = c.unit_numbers.ensures.units_few in
    let opened = c.instances.ensures.opened in
    let sum : (night : Night) (path : List Block) (cases : List Case) (k : ℕ) (x : ℤ) → IsInstance night → All (IsWithinTrains night) path → ShareNothing night path
    → RunsThrough night (placed path)
    → AreCases night cases → k < length cases → IsStackSum night path cases k x → IsWithin 4038399999999961600 x =
    λ night path cases k x i within apart go are lt s.
    let is = are.each k _ lt in
    less_gains x _ _ s.is
    (c.sums_fit.ensures.sum night path (from_of cases k) (case_at cases k) i is within (omega (arith, c.few_blocks.ensures.most night path within apart, units night i))
    (c.sums_fit.ensures.from night cases k are lt))
    (all_small places law night i (units night i) path within apart go (case_at cases k) is (stacks night.station) s.gains
    (few_stacks night.station (opened night i).station) s.are) in
    let block : (night : Night) (k : Case) (b : Block) → IsInstance night → IsCase night k → AreRunsWithin night (shape_of b) → IsWithin 23056939999999983 (gain night k b) =
    λ night k b i is runs. block_within night k b (c.sums_fit.ensures.over night k.duals (shape_of b) i is.duals runs)
    (c.sums_fit.ensures.weight night k (shape_of b) b.park i is runs) in
    record {
      filling = λ night path filling k stack i is fill. filling_small night k is stack places (units night i) path filling fill;
      gain = λ night path k stack x i within apart go is g. gain_small places law night i (units night i) path within apart go k is stack x g;
      gains = λ night path k gains i within apart go is are. all_small places law night i (units night i) path within apart go k is (stacks night.station) gains
          (few_stacks night.station (opened night i).station) are;
      sum = sum;
      block = block;
      choice = λ night path b cases k x i within apart free go are lt s.
          let is = are.each k _ lt in
          let more_within = longer_within places law night i path b within apart free in
          let more_apart = longer_apart places law night i path b within apart free in
          let runs = part_runs law night path (path ++ b ∷ []) i more_within more_apart (part_left night path (b ∷ [])) go in
          choice_within x s.whole s.fall (gain night (case_at cases k) b) s.is
          (sum night path cases k s.whole i within apart runs are lt s.is_whole)
          (fall_small places law night i (units night i) path b within apart runs more_within more_apart go (case_at cases k) is (stack_of b.park) s.fall s.is_fall)
          (block night (case_at cases k) b i is free.shape.shape.within);
    }
