-- The shapes around a pair, by how far they reach before and after it.
use Rattle.std.specs.Prelude.{◌≡◌, Option, ℕ, ◌+◌, ◌-◌, ◌<◌, ◌≤◌, length}
use Rattle.shunt_instance.specs.defs.Words.{train_at}
use Rattle.shunt_instance.specs.defs.Instance.{Night, unit_at, position_at}
use Rattle.shunt_blocks.specs.declared.records.Shape.{Shape}
use Rattle.shunt_blocks.specs.declared.records.Park.{Park}
use Rattle.shunt_blocks.specs.defs.Shapes.{IsPair}
use Rattle.shunt_blocks.specs.defs.Blocks.{IsOption}
use Rattle.shunt_dual.specs.defs.Shares.{part_with}

-- both trains have n places from this unit and from this position on
pub record HaveAfter (night : Night) (u v n : ℕ) : Type 0 where
  pub units : (unit_at night u).place + n ≤ length (train_at night.arrive (unit_at night u).train.0).units + 1
  pub positions : (position_at night v).place + n ≤ length (train_at night.depart (position_at night v).train.0).units + 1

-- n pairs from this one on are in both trains and matchable
pub record AreAfter (night : Night) (u v n : ℕ) : Type 0 where
  pub within : HaveAfter night u v n
  pub pairs : (k : ℕ) → k < n → IsPair night (u + k) (v + k)

-- n pairs from this one back are in both trains and matchable
pub record AreBefore (night : Night) (u v n : ℕ) : Type 0 where
  pub units : n ≤ (unit_at night u).place
  pub positions : n ≤ (position_at night v).place
  pub pairs : (k : ℕ) → k < n → IsPair night (u - k) (v - k)

-- the shape of n pairs that begins that many places before a pair
abbrev pub shape_around : Night → ℕ → ℕ → ℕ → ℕ → Shape
shape_around night u v back n = record {
  arr = (unit_at night u).train;
  p = (unit_at night u).place - back;
  n = n;
  dep = (position_at night v).train;
  q = (position_at night v).place - back;
}

-- the least part of a shape over its options
pub record IsPart (night : Night) (s : Shape) (part : ℕ) : Type 0 where
  pub option : Option Park
  pub is_option : IsOption night s option
  pub is : part ≡ part_with night s option
  pub least : (o : Option Park) → IsOption night s o → part ≤ part_with night s o

-- the least part of those of these shapes that are asked for by how far back they begin and by their numbers of pairs
pub record IsLeastPart (night : Night) (u v : ℕ) (asked : ℕ → ℕ → Type 0) (least : ℕ) : Type 0 where
  pub back : ℕ
  pub n : ℕ
  pub one : asked back n
  pub part : IsPart night (shape_around night u v back n) least
  pub lowest : (b m : ℕ) (o : Option Park) → asked b m → IsOption night (shape_around night u v b m) o → least ≤ part_with night (shape_around night u v b m) o

-- shapes that begin that many places before the pair, and end with one of that many pairs from it on
pub record FromBack (back reach : ℕ) (b m : ℕ) : Type 0 where
  pub same : b ≤ back
  pub no_less : back ≤ b
  pub holds : b < m
  pub ends : m ≤ b + reach

-- shapes that begin at one of that many pairs up to the pair, and end with one of that many pairs from it on
pub record FromSome (before after : ℕ) (b m : ℕ) : Type 0 where
  pub begins : b < before
  pub holds : b < m
  pub ends : m ≤ b + after
