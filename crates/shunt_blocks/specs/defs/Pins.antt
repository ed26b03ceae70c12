-- Pins: blocks that a plan has to keep, and the cost of the plan that parks nothing else.
use Rattle.std.specs.Prelude.{◌≡◌, ℕ, zero, suc, ◌+◌, ◌==◌, cond, All, List, [], ◌∷◌, ◌++◌, None}
use Rattle.shunt_lists.specs.defs.Below.{sum_below}
use Rattle.shunt_lists.specs.defs.Members.{In}
use Rattle.shunt_instance.specs.defs.Instance.{Night, unit_total, position_total, unit_at, position_at}
use Rattle.shunt_instance.specs.defs.Matching.{place_of}
use Rattle.shunt_blocks.specs.declared.records.Block.{Block}
use Rattle.shunt_blocks.specs.defs.Blocks.{IsBlock}
use Rattle.shunt_blocks.specs.defs.Lists.{times_unit, times_position, ShareNothing, AreInRange, RunsThrough, total_cost}

-- each is a block, no two share a unit or a position, and their run goes through
pub record AreUsable (night : Night) (pins : List Block) : Type 0 where
  pub in_range : AreInRange night pins
  pub each : All (IsBlock night) pins
  pub apart : ShareNothing night pins
  pub through : RunsThrough night pins

-- a block but for its id
abbrev pub without_id : Block → Block
without_id b = record b { id = 0 }

-- one of the blocks has this block's shape and option
pub record IsKept (blocks : List Block) (pin : Block) : Type 0 where
  pub block : Block
  pub there : In block blocks
  pub same : without_id block ≡ without_id pin

-- the blocks keep each of the pins
abbrev pub Keeps : List Block → List Block → Type 0
Keeps blocks pins = All (IsKept blocks) pins

-- a unit that is unparked alone costs this much but for its position
abbrev pub unit_price : Night → ℕ → ℕ
unit_price night u = night.station.unparked + cond ((unit_at night u).place == 1) 0 night.station.split

-- and its position this much
abbrev pub position_price : Night → ℕ → ℕ
position_price night v = cond ((position_at night v).place == 1) 0 night.station.couple

-- the opening cost: that of the pins, and of each other unit as an unparked block of its own
abbrev pub opening_cost : Night → List Block → ℕ
opening_cost night pins = total_cost night pins + (sum_below (unit_total night) (λ u. cond (times_unit night pins u == 0) (unit_price night u) 0) + sum_below (position_total night)
    (λ v. cond (times_position night pins v == 0) (position_price night v) 0))

-- an unparked block of one unit
pub record IsSingle (b : Block) : Type 0 where
  pub one : b.n ≡ 1
  pub unparked : b.park ≡ None

-- a unit as an unparked block of its own, at a position
abbrev pub single : Night → ℕ → ℕ → Block
single night u v = record {
  id = u + 1;
  arr = (unit_at night u).train;
  p = (unit_at night u).place;
  n = 1;
  dep = (position_at night v).train;
  q = (position_at night v).place;
  park = None;
}

-- a unit that no pin has, as an unparked block of its own at the position that the list gives it
abbrev pub single_at : Night → List Block → List ℕ → ℕ → List Block
single_at night pins place u = cond (times_unit night pins u == 0) (single night u (place_of place u) ∷ []) []

-- the units below n that no pin has, each as such a block
abbrev pub singles_below : Night → List Block → List ℕ → ℕ → List Block
singles_below night pins place zero = []
singles_below night pins place (suc n) = singles_below night pins place n ++ single_at night pins place n

-- the same of all units
abbrev pub singles : Night → List Block → List ℕ → List Block
singles night pins place = singles_below night pins place (unit_total night)
