-- Values of units, of which runs are asked to come to at most a number, and the greatest ones, unit by unit.
use Rattle.std.specs.Prelude.{◌≡◌, ℕ, zero, suc, ◌+◌, ◌≤◌, Bool, true, false, ℤ, pos, ◌+ℤ◌, ◌-ℤ◌, ◌≤ℤ◌, All, List, slice_set, slice_index_or}
use Rattle.shunt_prices.specs.defs.Sums.{sum_z_below, IsWithin}
use Rattle.shunt_prices.specs.defs.Limits.{IsValue}
use Rattle.shunt_dual.specs.declared.unit_values.Ask.{Ask}

-- what the units of an ask come to
abbrev pub run_of : List ℤ → Ask → ℤ
run_of alpha a = sum_z_below a.n (λ k. slice_index_or alpha (a.first + k) (pos 0))

-- they come to no more than it allows
pub record IsMet (alpha : List ℤ) (a : Ask) : Type 0 where
  pub met : run_of alpha a ≤ℤ a.most

-- an ask of at most 8 of that many units, and of a number that isn't too great
pub record IsAsk (units : ℕ) (a : Ask) : Type 0 where
  pub within : a.first + a.n ≤ units
  pub few : a.n ≤ 8
  pub small : IsWithin 24000000000000000 a.most

-- the greatest value of a unit within the limits with which all asks are met
pub record IsGreatestUnder (asks : List Ask) (alpha : List ℤ) (u : ℕ) (z : ℤ) : Type 0 where
  pub value : IsValue z
  pub met : All (IsMet (slice_set alpha u z)) asks
  pub most : (other : ℤ) → IsValue other → All (IsMet (slice_set alpha u other)) asks → other ≤ℤ z

-- values in which a unit has got its greatest one, where it is uncovered
pub record IsUnitRefit (asks : List Ask) (covered : List Bool) (u : ℕ) (old new : List ℤ) : Type 0 where
  pub kept : slice_index_or covered u true ≡ true → new ≡ old
  pub refit : slice_index_or covered u true ≡ false → (z : ℤ) × IsGreatestUnder asks old u z × (new ≡ slice_set old u z)

-- values in which the units below n have got theirs, one after the other, and by how much they have risen in all
abbrev pub AreUnitsRefit : List Ask → List Bool → ℕ → List ℤ → List ℤ → ℤ → Type 0
AreUnitsRefit asks covered zero old new risen = (new ≡ old) × (risen ≡ pos 0)
AreUnitsRefit asks covered (suc n) old new risen = (mid : List ℤ) × (before : ℤ) × AreUnitsRefit asks covered n old mid before × IsUnitRefit asks covered n mid new
    × (risen ≡ before +ℤ (slice_index_or new n (pos 0) -ℤ slice_index_or mid n (pos 0)))
