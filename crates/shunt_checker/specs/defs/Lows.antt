-- Bounds below a number of paths with one more choice.
use Rattle.std.specs.Prelude.{◌≡◌, ℕ, ◌+◌, ◌*◌, ◌≤◌, ◌<◌, ℤ, pos, ◌+ℤ◌, ◌≤ℤ◌, slice_index_or, length, List, Option, Some}
use Rattle.shunt_base.specs.declared.duals.Case.{Case}
use Rattle.shunt_instance.specs.defs.Instance.{Night}
use Rattle.shunt_blocks.specs.declared.records.Shape.{Shape}
use Rattle.shunt_blocks.specs.declared.records.Block.{Block}
use Rattle.shunt_blocks.specs.declared.records.Park.{Park}
use Rattle.shunt_choices.specs.defs.Choices.{Choice as PathChoice, longer_by, chosen}
use Rattle.shunt_prices.specs.defs.Sums.{IsWithin}
use Rattle.shunt_prices.specs.defs.Prices.{price_part_with}
use Rattle.shunt_prices.specs.defs.Cases.{duals_over}
use Rattle.shunt_prices.specs.defs.Bounds.{IsOpenAt}
use Rattle.shunt_proof.specs.declared.records.Version.{Version}
use Rattle.shunt_checker.specs.declared.gains.Gains.{Gains}
use Rattle.shunt_checker.specs.defs.Asked.{IsStepSum}

-- what a shape's duals come to in a case, and what the prices on each track take of it
pub record AreGains (night : Night) (case : Case) (s : Shape) (g : Gains) : Type 0 where
  pub over : g.over ≡ duals_over night case.duals s
  pub small : IsWithin 15999999999984 g.over
  pub taken : (k : Park) → k.track.0 < 60 → slice_index_or g.taken k.track.0 0 ≡ price_part_with night case.duals.prices s (Some k)
  pub few : (t : ℕ) → slice_index_or g.taken t 0 ≤ 23039936000000000

-- a shape with an option as a choice
abbrev pub offer_of : Shape → Option Park → PathChoice
offer_of s park = record { shape = s; option = park }

-- the case with a number is open at a path with one more choice, and the choice's sum gives a bound below L
pub record IsLowIn (version : Version) (night : Night) (path : List Block) (cases : List Case) (L k : ℕ) (c : PathChoice) : Type 0 where
  pub opens : IsOpenAt cases (longer_by path c) k
  pub sum : ℤ
  pub is : IsStepSum version night path (chosen (length path + 1) c) cases k sum
  pub low : (sum +ℤ pos 1000) ≤ℤ pos (1000 * L)

-- so it is with one of the cases
pub record IsLowBy (version : Version) (night : Night) (path : List Block) (cases : List Case) (L : ℕ) (c : PathChoice) : Type 0 where
  pub number : ℕ
  pub is : IsLowIn version night path cases L number c
