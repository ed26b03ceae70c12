-- Bounds of either version rise along a path, and are bounds on plans.
use Rattle.std.specs.Prelude.{All, ◌≤ℤ◌}
use Rattle.std.proofs.Common.{◌≡◌, ◌↔◌, List, [], ◌∷◌, ◌++◌, ℤ, pos, arith}
use Rattle.std.proofs.lemmas.Int.{ints}
use Rattle.shunt_base.specs.declared.duals.Case.{Case}
use Rattle.shunt_instance.specs.defs.Instance.{Night, IsInstance}
use Rattle.shunt_blocks.specs.declared.records.Block.{Block}
use Rattle.shunt_blocks.specs.defs.Shapes.{shape_of, IsWithinTrains}
use Rattle.shunt_blocks.specs.defs.Lists.{ShareNothing, RunsThrough, IsFeasible, placed, total_cost}
use Rattle.shunt_blocks.specs.defs.Pins.{Keeps}
use Rattle.shunt_choices.specs.defs.Paths.{masks_of}
use Rattle.shunt_prices.specs.defs.Limits.{AreCases}
use Rattle.shunt_prices.specs.defs.Cases.{IsFreeBlock, CasesHold}
use Rattle.shunt_prices.specs.defs.Bounds.{IsCasesBound}
use Rattle.shunt_stacks.specs.defs.Cases.{StackCasesHold}
use Rattle.shunt_stacks.specs.defs.Bounds.{IsStackBound, IsChoiceBound}
use Rattle.shunt_proof.specs.declared.records.Version.{Version}
use Rattle.shunt_proof.specs.declared.records.Version.TheVariants.{Prices, Stacks}
use Rattle.shunt_proof.specs.defs.Versions.{HoldIn, IsBoundIn, IsStepBoundIn}

-- what the laws of the crates below say
pub record RisingLaws : Type 0 where
  pub hold : (night : Night) (path : List Block) (b : Block) (cases : List Case) → CasesHold night path cases → CasesHold night (path ++ b ∷ []) cases
  pub one : (night : Night) (path : List Block) (cases : List Case) (bound other : ℤ) → IsCasesBound night path cases bound → IsCasesBound night path cases other → bound ≡ other
  pub rise : (night : Night) (path : List Block) (b : Block) (cases : List Case) (before after : ℤ) → IsInstance night → All (IsWithinTrains night) path → ShareNothing night path
      → IsFreeBlock night (masks_of night path) (shape_of b) b.park
      → RunsThrough night (placed (path ++ b ∷ [])) → CasesHold night path cases → IsCasesBound night path cases before → IsCasesBound night (path ++ b ∷ []) cases after
      → before ≤ℤ after
  pub dual : (night : Night) (plan path : List Block) (cases : List Case) (bound : ℤ) → IsInstance night → IsFeasible night plan → ShareNothing night path → Keeps plan path
      → AreCases night cases → CasesHold night path cases
      → IsCasesBound night path cases bound → bound ≤ℤ pos (total_cost night plan)
  pub stack_hold : (night : Night) (path : List Block) (b : Block) (cases : List Case) → StackCasesHold night path cases → StackCasesHold night (path ++ b ∷ []) cases
  pub stack_rise : (night : Night) (path : List Block) (b : Block) (cases : List Case) (before after : ℤ) → IsInstance night → All (IsWithinTrains night) path
      → ShareNothing night path → IsFreeBlock night (masks_of night path) (shape_of b) b.park
      → RunsThrough night (placed (path ++ b ∷ [])) → StackCasesHold night path cases → IsStackBound night path cases before → IsChoiceBound night path b cases after
      → before ≤ℤ after
  pub stack_longer : (night : Night) (path : List Block) (b : Block) (cases : List Case) (before after : ℤ) → IsInstance night → All (IsWithinTrains night) path
      → ShareNothing night path → IsFreeBlock night (masks_of night path) (shape_of b) b.park
      → IsChoiceBound night path b cases before → IsStackBound night (path ++ b ∷ []) cases after → before ≤ℤ after
  pub stack_dual : (night : Night) (plan path : List Block) (cases : List Case) (bound : ℤ) → IsInstance night → IsFeasible night plan → ShareNothing night path → Keeps plan path
      → AreCases night cases → StackCasesHold night path cases
      → IsStackBound night path cases bound → bound ≤ℤ pos (total_cost night plan)
  pub choice : (night : Night) (path : List Block) (b : Block) (cases : List Case) (bound : ℤ)
      → IsStepBoundIn Stacks night path (path ++ b ∷ []) cases bound ↔ IsChoiceBound night path b cases bound

pub holds_on : RisingLaws → (version : Version) (night : Night) (path : List Block) (b : Block) (cases : List Case) → HoldIn version night path cases
    → HoldIn version night (path ++ b ∷ []) cases
holds_on laws Prices night path b cases h = laws.hold night path b cases h
holds_on laws Stacks night path b cases h = laws.stack_hold night path b cases h

pub step_rises : RisingLaws → (version : Version) (night : Night) (path : List Block) (b : Block) (cases : List Case) (before after : ℤ) → IsInstance night
    → All (IsWithinTrains night) path → ShareNothing night path → IsFreeBlock night (masks_of night path) (shape_of b) b.park
    → RunsThrough night (placed (path ++ b ∷ [])) → HoldIn version night path cases → IsBoundIn version night path cases before
    → IsStepBoundIn version night path (path ++ b ∷ []) cases after → before ≤ℤ after
step_rises laws Prices night path b cases before after i within apart free through hold was is = laws.rise night path b cases before after i within apart free through hold was is
step_rises laws Stacks night path b cases before after i within apart free through hold was is = laws.stack_rise night path b cases before after i within apart free through hold
    was ((laws.choice night path b cases after).0 is)

equal : (x y : ℤ) → x ≡ y → x ≤ℤ y
equal x y e = omega (arith, ints, e)

pub longer_rises : RisingLaws → (version : Version) (night : Night) (path : List Block) (b : Block) (cases : List Case) (before after : ℤ) → IsInstance night
    → All (IsWithinTrains night) path → ShareNothing night path → IsFreeBlock night (masks_of night path) (shape_of b) b.park
    → IsStepBoundIn version night path (path ++ b ∷ []) cases before → IsBoundIn version night (path ++ b ∷ []) cases after → before ≤ℤ after
longer_rises laws Prices night path b cases before after i within apart free was is = equal before after (laws.one night (path ++ b ∷ []) cases before after was is)
longer_rises laws Stacks night path b cases before after i within apart free was is = laws.stack_longer night path b cases before after i within apart free
    ((laws.choice night path b cases before).0 was) is

pub bounds_plans : RisingLaws → (version : Version) (night : Night) (plan path : List Block) (cases : List Case) (bound : ℤ) → IsInstance night → IsFeasible night plan
    → ShareNothing night path → Keeps plan path → AreCases night cases → HoldIn version night path cases
    → IsBoundIn version night path cases bound → bound ≤ℤ pos (total_cost night plan)
bounds_plans laws Prices night plan path cases bound i feasible apart keeps are hold is = laws.dual night plan path cases bound i feasible apart keeps are hold is
bounds_plans laws Stacks night plan path cases bound i feasible apart keeps are hold is = laws.stack_dual night plan path cases bound i feasible apart keeps are hold is
