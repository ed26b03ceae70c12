use Rattle.std.specs.Prelude.{All}
use Rattle.std.proofs.Common.{List, [], ◌∷◌, ◌++◌, arith}
use Rattle.std.proofs.lemmas.Int.{ints}
use Rattle.shunt_instance.specs.defs.Instance.{Night, IsInstance}
use Rattle.shunt_blocks.specs.declared.records.Block.{Block}
use Rattle.shunt_blocks.specs.defs.Shapes.{IsWithinTrains}
use Rattle.shunt_blocks.specs.defs.Lists.{ShareNothing, RunsThrough, placed}
use Rattle.shunt_stacks.proofs.Parts.{part_left, part_runs}
use Rattle.shunt_stacks.proofs.Filled.{empty}
use Rattle.shunt_stacks.proofs.Existence.{gain_there}
use Rattle.shunt_stacks.proofs.Bounded.{HasGains, choice_there}
use Rattle.shunt_stacks.proofs.Plans.{StepLaws}
use Rattle.shunt_stacks.proofs.Rises.{longer_apart, longer_within, still_hold, gain_falls, own_falls, path_to_choice, choice_to_longer}
use Rattle.shunt_stacks.proofs.laws.bounds_rise.Goals as goal

pub returns : goal.returns
returns c =
    let laws : StepLaws = record {
      places = record { unit_in = c.places.ensures.unit_in; position_in = c.places.ensures.position_in };
      part = c.ids_do_not_matter.ensures.placed_part;
      station = λ night i. (c.instances.ensures.opened night i).station;
      room = c.room.ensures.placed;
      opens = c.longer_paths.ensures.opens;
      sum = c.longer_paths.ensures.sum;
      there = c.bounds.ensures.there;
      rise = c.bounds.ensures.rise;
    } in
    let has : (night : Night) (path : List Block) → IsInstance night → All (IsWithinTrains night) path → ShareNothing night path → RunsThrough night (placed path)
    → HasGains night path =
    λ night path i within apart go k stack. gain_there laws.places c.choices.ensures.members c.few_blocks.ensures.most night i path stack k
    (empty laws.part night i path within apart stack go) in
    record {
      hold = λ night path b cases hold. still_hold laws.places night path b cases hold;
      falls = λ night path b k stack before after i within apart free now then. gain_falls laws.places laws.part night i path b within apart free k stack before after now then;
      own = λ night path b k stack before after i within apart free of now then. own_falls laws.places laws.part night i path b within apart free k stack before after of now then;
      choice = λ night path b cases before after i within apart free go hold now then. path_to_choice laws night i path b within apart free cases before after go hold now then;
      longer = λ night path b cases before after i within apart free now then. choice_to_longer laws night i path b within apart free cases before after now then;
      path = λ night path b cases before after i within apart free go hold now then.
          let more_within = longer_within laws.places laws.part night i path b within apart free in
          let more_apart = longer_apart laws.places laws.part night i path b within apart free in
          let runs = part_runs laws.part night path (path ++ b ∷ []) i more_within more_apart (part_left night path (b ∷ [])) go in
          let middle = choice_there night path b (has night path i within apart runs) (has night (path ++ b ∷ []) i more_within more_apart go) cases
          (omega (arith, then.least.opens.there)) in
          omega (
            arith,
            ints,
            path_to_choice laws night i path b within apart free cases before middle.0 go hold now middle.1,
            choice_to_longer laws night i path b within apart free cases middle.0 after middle.1 then,
          );
    }
