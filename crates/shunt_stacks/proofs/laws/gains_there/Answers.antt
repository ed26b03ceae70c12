use Rattle.std.specs.Prelude.{All, List}
use Rattle.std.proofs.Common.{◌++◌, ◌∷◌, []}
use Rattle.shunt_instance.specs.defs.Instance.{Night, IsInstance}
use Rattle.shunt_blocks.specs.declared.records.Block.{Block}
use Rattle.shunt_blocks.specs.defs.Shapes.{IsWithinTrains}
use Rattle.shunt_blocks.specs.defs.Lists.{ShareNothing, RunsThrough, placed}
use Rattle.shunt_choices.proofs.Given.{PlaceLaws}
use Rattle.shunt_stacks.proofs.Parts.{part_left, part_runs}
use Rattle.shunt_stacks.proofs.Filled.{empty}
use Rattle.shunt_stacks.proofs.Rises.{longer_apart, longer_within}
use Rattle.shunt_stacks.proofs.Existence.{gain_there}
use Rattle.shunt_stacks.proofs.Bounded.{HasGains, sum_there, bound_there, choice_there}
use Rattle.shunt_stacks.proofs.laws.gains_there.Goals as goal

pub returns : goal.returns
returns c =
    let places : PlaceLaws = record { unit_in = c.places.ensures.unit_in; position_in = c.places.ensures.position_in } in
    let law = c.ids_do_not_matter.ensures.placed_part in
    let has : (night : Night) (path : List Block) → IsInstance night → All (IsWithinTrains night) path → ShareNothing night path → RunsThrough night (placed path)
    → HasGains night path =
    λ night path i within apart go k stack. gain_there places c.choices.ensures.members c.few_blocks.ensures.most night i path stack k
    (empty law night i path within apart stack go) in
    record {
      gain = λ night path k stack i within apart go. has night path i within apart go k stack;
      sum = λ night path cases k i within apart go. sum_there night path (has night path i within apart go) cases k;
      bound = λ night path cases i within apart go some. bound_there night path (has night path i within apart go) cases some;
      choice = λ night path b cases i within apart free go some.
          let more_within = longer_within places law night i path b within apart free in
          let more_apart = longer_apart places law night i path b within apart free in
          choice_there night path b
          (has night path i within apart (part_runs law night path (path ++ b ∷ []) i more_within more_apart (part_left night path (b ∷ [])) go))
          (has night (path ++ b ∷ []) i more_within more_apart go) cases some;
    }
