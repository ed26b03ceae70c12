-- Sums with stacks, and the bounds of paths and of choices by them.
use Rattle.std.specs.Prelude.{◌≡◌, ℕ, ℤ, pos, ◌+ℤ◌, ◌-ℤ◌, ◌≤ℤ◌, slice_index_or, List, [], ◌∷◌, ◌++◌, Option, Some, None}
use Rattle.std.specs.List.{AllZip}
use Rattle.shunt_base.specs.declared.duals.Case.{Case}
use Rattle.shunt_instance.specs.defs.Instance.{Night}
use Rattle.shunt_blocks.specs.declared.records.Block.{Block}
use Rattle.shunt_prices.specs.defs.Sums.{sum_z}
use Rattle.shunt_prices.specs.defs.Limits.{case_at}
use Rattle.shunt_prices.specs.defs.Bounds.{case_sum, IsOpenAt, IsBoundOf}
use Rattle.shunt_stacks.specs.defs.Stacks.{Stack, stacks, stack_of}
use Rattle.shunt_stacks.specs.defs.Fillings.{gain, IsStackGain}

-- these are the gains of the station's stacks, in their order
abbrev pub AreStackGains : Night → List Block → Case → List ℤ → Type 0
AreStackGains night path c gains = AllZip (IsStackGain night path c) (stacks night.station) gains

-- the sum with stacks at a path of the case with a number: its sum there, less the gains of all stacks
pub record IsStackSum (night : Night) (path : List Block) (cases : List Case) (k : ℕ) (sum : ℤ) : Type 0 where
  pub gains : List ℤ
  pub are : AreStackGains night path (case_at cases k) gains
  pub is : sum ≡ case_sum night path cases k -ℤ sum_z (λ z. z) gains

-- how far the gain of a block's stack falls if the block comes to a path; nothing where it is of no stack
abbrev pub IsFall : Night → List Block → Block → Case → Option Stack → ℤ → Type 0
IsFall night path b c None fall = fall ≡ pos 0
IsFall night path b c (Some stack) fall = (before : ℤ) × (after : ℤ) × IsStackGain night path c stack before × IsStackGain night (path ++ b ∷ []) c stack after
    × (fall ≡ before -ℤ after)

-- the sum of a block that comes to a path, in the case with a number: the sum with stacks at the path, with what the gain of the
-- block's stack falls, less the gain of the block
pub record IsChoiceSum (night : Night) (path : List Block) (b : Block) (cases : List Case) (k : ℕ) (sum : ℤ) : Type 0 where
  pub whole : ℤ
  pub is_whole : IsStackSum night path cases k whole
  pub fall : ℤ
  pub is_fall : IsFall night path b (case_at cases k) (stack_of b.park) fall
  pub is : sum ≡ whole +ℤ fall -ℤ gain night (case_at cases k) b

-- the least bound of these sums, one for each case, over the cases that are open at a path
pub record IsLeastBound (cases : List Case) (path : List Block) (sums : List ℤ) (bound : ℤ) : Type 0 where
  pub number : ℕ
  pub opens : IsOpenAt cases path number
  pub is : IsBoundOf (slice_index_or sums number (pos 0)) bound
  pub least : (k : ℕ) (other : ℤ) → IsOpenAt cases path k → IsBoundOf (slice_index_or sums k (pos 0)) other → bound ≤ℤ other

-- the bound with stacks of a path by cases
pub record IsStackBound (night : Night) (path : List Block) (cases : List Case) (bound : ℤ) : Type 0 where
  pub sums : List ℤ
  pub are : (k : ℕ) → IsOpenAt cases path k → IsStackSum night path cases k (slice_index_or sums k (pos 0))
  pub least : IsLeastBound cases path sums bound

-- the bound with stacks of a path with one block more, by the cases and the gains of the path: over the cases that are open at the
-- longer path
pub record IsChoiceBound (night : Night) (path : List Block) (b : Block) (cases : List Case) (bound : ℤ) : Type 0 where
  pub sums : List ℤ
  pub are : (k : ℕ) → IsOpenAt cases (path ++ b ∷ []) k → IsChoiceSum night path b cases k (slice_index_or sums k (pos 0))
  pub least : IsLeastBound cases (path ++ b ∷ []) sums bound
