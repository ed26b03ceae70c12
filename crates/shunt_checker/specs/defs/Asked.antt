-- What versions ask of options, and by which sums they judge choices.
use Rattle.std.specs.Prelude.{◌≡◌, ℕ, ℤ, List, [], ◌∷◌, ◌++◌, Option, None}
use Rattle.shunt_base.specs.declared.duals.Case.{Case}
use Rattle.shunt_instance.specs.defs.Instance.{Night}
use Rattle.shunt_blocks.specs.declared.records.Block.{Block}
use Rattle.shunt_blocks.specs.declared.records.Park.{Park}
use Rattle.shunt_choices.specs.defs.Paths.{Masks}
use Rattle.shunt_prices.specs.defs.Cases.{HoldsInCase}
use Rattle.shunt_prices.specs.defs.Bounds.{case_sum}
use Rattle.shunt_stacks.specs.defs.Stacks.{stack_of}
use Rattle.shunt_stacks.specs.defs.Cases.{HoldsBesideStacks}
use Rattle.shunt_stacks.specs.defs.Bounds.{IsChoiceSum}
use Rattle.shunt_proof.specs.declared.records.Version.{Version}
use Rattle.shunt_proof.specs.declared.records.Version.TheVariants.{Prices, Stacks}

-- a version asks an option whether it weighs less than its duals: with prices each one, with stacks those of no stack
abbrev pub IsAsked : Version → Option Park → Type 0
IsAsked Prices park = Unit {0}
IsAsked Stacks park = stack_of park ≡ None

-- none of the options that a version asks weighs less in a case than its duals
abbrev pub HoldsBy : Version → Night → Masks → Case → Type 0
HoldsBy Prices night covered c = HoldsInCase night covered c
HoldsBy Stacks night covered c = HoldsBesideStacks night covered c

-- the sum of a block that comes to a path, in the case with a number: with prices that of the longer path
abbrev pub IsStepSum : Version → Night → List Block → Block → List Case → ℕ → ℤ → Type 0
IsStepSum Prices night path b cases k sum = sum ≡ case_sum night (path ++ b ∷ []) cases k
IsStepSum Stacks night path b cases k sum = IsChoiceSum night path b cases k sum
