-- What stacks may gain yet at a path, and the sums with stacks there.
use Rattle.std.specs.Prelude.{◌≡◌, ℕ, ◌<◌, ℤ, pos, All, List, length, slice_index_or}
use Rattle.std.specs.List.{AllZip}
use Rattle.shunt_base.specs.declared.duals.Case.{Case}
use Rattle.shunt_instance.specs.defs.Instance.{Night}
use Rattle.shunt_blocks.specs.declared.records.Block.{Block}
use Rattle.shunt_prices.specs.defs.Sums.{IsWithin}
use Rattle.shunt_prices.specs.defs.Limits.{case_at}
use Rattle.shunt_stacks.specs.defs.Stacks.{Stack, stacks}
use Rattle.shunt_stacks.specs.defs.Fillings.{IsStackGain}
use Rattle.shunt_stacks.specs.defs.Bounds.{IsStackSum}
use Rattle.shunt_fillings.specs.declared.prospects.Prospect.{Prospect}
use Rattle.shunt_fillings.specs.declared.prospects.Outlook.{Outlook}
use Rattle.shunt_fillings.specs.defs.Pieces.{AreCandidates}
use Rattle.shunt_fillings.specs.defs.Besides.{AreBesides}

-- the candidates of a stack at a path in a case, what it gains, and what beside shapes that may come next
pub record IsProspect (night : Night) (path : List Block) (c : Case) (stack : Stack) (p : Prospect) : Type 0 where
  pub candidates : AreCandidates night path c stack p.candidates.items
  pub gain : IsStackGain night path c stack p.gain
  pub small : IsWithin 319999999999680 p.gain
  pub besides : AreBesides night path c stack p.besides.items

-- the same of all stacks of the station, in the case with a number, and the sum with stacks there
pub record IsOutlook (night : Night) (path : List Block) (cases : List Case) (k : ℕ) (p : Outlook) : Type 0 where
  pub each : AllZip (IsProspect night path (case_at cases k)) (stacks night.station) p.stacks.items
  pub sum : IsStackSum night path cases k p.sum
  pub small : IsWithin 4100000000000000000 p.sum

-- the same of the first so many cases
pub record AreOutlooks (night : Night) (path : List Block) (cases : List Case) (k : ℕ) (all : List Outlook) : Type 0 where
  pub long : length all ≡ k
  pub each : (j : ℕ) (p : Outlook) → j < k → IsOutlook night path cases j (slice_index_or all j p)

-- sums, one for each number below k, none of them great
pub record AreSums (IsSum : ℕ → ℤ → Type 0) (k : ℕ) (sums : List ℤ) : Type 0 where
  pub long : length sums ≡ k
  pub each : (j : ℕ) → j < k → IsSum j (slice_index_or sums j (pos 0))
  pub small : All (IsWithin 4100000000000000000) sums
