-- Choices of free shapes of which something holds, and where they are looked for.
use Rattle.std.specs.Prelude.{◌≡◌, ℕ}
use Rattle.shunt_instance.specs.defs.Instance.{Night, unit_at}
use Rattle.shunt_blocks.specs.declared.records.Shape.{Shape}
use Rattle.shunt_blocks.specs.defs.Shapes.{unit_from}
use Rattle.shunt_choices.specs.defs.Paths.{Masks}
use Rattle.shunt_choices.specs.defs.Choices.{Choice as PathChoice, IsFreeShape}

-- it holds of a choice with this shape
pub record IsOneOfShape (Holds : PathChoice → Type 0) (s : Shape) (c : PathChoice) : Type 0 where
  pub same : c.shape ≡ s
  pub holds : Holds c

-- it holds of a choice whose shape is free
pub record IsFreeOne (night : Night) (covered : Masks) (Holds : PathChoice → Type 0) (c : PathChoice) : Type 0 where
  pub shape : IsFreeShape night covered (unit_from night c.shape) c.shape
  pub holds : Holds c

-- the same of those that begin at a unit
pub record IsOneAt (night : Night) (covered : Masks) (Holds : PathChoice → Type 0) (u : ℕ) (c : PathChoice) : Type 0 where
  pub free : IsFreeOne night covered Holds c
  pub unit : unit_from night c.shape ≡ u

-- the same of those with that many units
pub record IsOneOf (night : Night) (covered : Masks) (Holds : PathChoice → Type 0) (u n : ℕ) (c : PathChoice) : Type 0 where
  pub at : IsOneAt night covered Holds u c
  pub units : c.shape.n ≡ n

-- the same of those that go with a departing train
pub record IsOneWith (night : Night) (covered : Masks) (Holds : PathChoice → Type 0) (u n dep : ℕ) (c : PathChoice) : Type 0 where
  pub of : IsOneOf night covered Holds u n c
  pub train : c.shape.dep.0 ≡ dep

-- the same of those from a place in it on
pub record IsOneFrom (night : Night) (covered : Masks) (Holds : PathChoice → Type 0) (u n dep q : ℕ) (c : PathChoice) : Type 0 where
  pub with : IsOneWith night covered Holds u n dep c
  pub place : c.shape.q ≡ q

-- the shape of that many units from a unit on that goes with a departing train from a place on
abbrev pub shape_from : Night → ℕ → ℕ → ℕ → ℕ → Shape
shape_from night u n dep q = record { arr = (unit_at night u).train; p = (unit_at night u).place; n = n; dep = record { 0 = dep }; q = q }
