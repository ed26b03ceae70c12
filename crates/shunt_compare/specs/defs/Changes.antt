-- What another plan does otherwise: with single units, and with units that stay together.
use Rattle.std.specs.Prelude.{◌≡◌, ◌≢◌, ◌↔◌, ℕ, ◌+◌, ◌-◌, ◌<◌, true, List, AllPairs}
use Rattle.shunt_lists.specs.defs.Members.{In}
use Rattle.shunt_instance.specs.defs.Instance.{Night, unit_total}
use Rattle.shunt_blocks.specs.declared.records.Block.{Block}
use Rattle.shunt_blocks.specs.defs.Shapes.{shape_of, unit_from, position_from, begins_at}
use Rattle.shunt_blocks.specs.defs.Lists.{has_unit}
use Rattle.shunt_compare.specs.declared.records.Placement.{Placement}
use Rattle.shunt_compare.specs.declared.records.Change.{Change}
use Rattle.shunt_compare.specs.declared.records.Comparison.{Comparison}

-- what a block does with one of its units: it gets the position that stands as far behind the block's first, and the block's option
abbrev pub placement_of : Night → Block → ℕ → Placement
placement_of night b u = record { position = position_from night (shape_of b) + (u - unit_from night (shape_of b)); park = b.park }

-- a plan does this with a unit: one of its blocks has the unit and does so
pub record IsPlacement (night : Night) (blocks : List Block) (u : ℕ) (placement : Placement) : Type 0 where
  pub block : Block
  pub there : In block blocks
  pub has : has_unit night (shape_of block) u ≡ true
  pub is : placement ≡ placement_of night block u

-- a plan did this with a unit, another one does that, and its position or its option differs
pub record IsChange (night : Night) (was now : List Block) (c : Change) : Type 0 where
  pub before : IsPlacement night was c.unit c.was
  pub after : IsPlacement night now c.unit c.now
  pub differs : c.was ≢ c.now

-- of the values with a number below n, in the order of their numbers, exactly those of which this is true
pub record AreBelow {X : Type 0} (number : X → ℕ) (P : X → Type 0) (n : ℕ) (xs : List X) : Type 0 where
  pub in_order : AllPairs (λ x y. number x < number y) xs
  pub exactly : (x : X) → In x xs ↔ (number x < n) × P x

-- all units that are placed otherwise
abbrev pub AreChanges : Night → List Block → List Block → List Change → Type 0
AreChanges night was now changes = AreBelow (λ c. c.unit) (IsChange night was now) (unit_total night) changes

-- the blocks have the same units
pub record HaveSameUnits (b c : Block) : Type 0 where
  pub arr : b.arr ≡ c.arr
  pub p : b.p ≡ c.p
  pub n : b.n ≡ c.n

-- a block of the other plan whose units are no block of the first
pub record IsRegrouped (was now : List Block) (b : Block) : Type 0 where
  pub there : In b now
  pub none : (c : Block) → In c was → HaveSameUnits b c → ⊥

-- all such blocks by their first units
abbrev pub AreRegrouped : Night → List Block → List Block → List Block → Type 0
AreRegrouped night was now blocks = AreBelow (begins_at night) (IsRegrouped was now) (unit_total night) blocks

-- what another plan does otherwise
pub record IsComparison (night : Night) (was now : List Block) (c : Comparison) : Type 0 where
  pub changes : AreChanges night was now c.changes
  pub regrouped : AreRegrouped night was now c.regrouped
