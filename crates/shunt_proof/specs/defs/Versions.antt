-- What cases of a version are asked for, and what they bound.
use Rattle.std.specs.Prelude.{◌≡◌, ℤ, ◌≤ℤ◌, List, [], ◌∷◌, ◌++◌}
use Rattle.shunt_base.specs.declared.duals.Case.{Case}
use Rattle.shunt_instance.specs.defs.Instance.{Night}
use Rattle.shunt_blocks.specs.declared.records.Block.{Block}
use Rattle.shunt_prices.specs.defs.Cases.{CasesHold}
use Rattle.shunt_prices.specs.defs.Bounds.{IsCasesBound}
use Rattle.shunt_stacks.specs.defs.Cases.{StackCasesHold}
use Rattle.shunt_stacks.specs.defs.Bounds.{IsStackBound, IsChoiceBound}
use Rattle.shunt_proof.specs.declared.records.Version.{Version}
use Rattle.shunt_proof.specs.declared.records.Version.TheVariants.{Prices, Stacks}

-- the cases hold at a path
abbrev pub HoldIn : Version → Night → List Block → List Case → Type 0
HoldIn Prices night path cases = CasesHold night path cases
HoldIn Stacks night path cases = StackCasesHold night path cases

-- the bound of a path by cases
abbrev pub IsBoundIn : Version → Night → List Block → List Case → ℤ → Type 0
IsBoundIn Prices night path cases bound = IsCasesBound night path cases bound
IsBoundIn Stacks night path cases bound = IsStackBound night path cases bound

-- the bound by cases of a path that has one block more than another: with prices its own, with stacks that of the block as a choice at
-- the other
abbrev pub IsStepBoundIn : Version → Night → List Block → List Block → List Case → ℤ → Type 0
IsStepBoundIn Prices night path longer cases bound = IsCasesBound night longer cases bound
IsStepBoundIn Stacks night path longer cases bound = (b : Block) × (longer ≡ path ++ b ∷ []) × IsChoiceBound night path b cases bound

-- the bound of a path by cases is at least L
abbrev pub ReachesIn : Version → Night → List Block → List Case → ℤ → Type 0
ReachesIn version night path cases L = (bound : ℤ) × IsBoundIn version night path cases bound × (L ≤ℤ bound)

-- the bound by cases of a path that has one block more than another is at least L
abbrev pub StepReachesIn : Version → Night → List Block → List Block → List Case → ℤ → Type 0
StepReachesIn version night path longer cases L = (bound : ℤ) × IsStepBoundIn version night path longer cases bound × (L ≤ℤ bound)
