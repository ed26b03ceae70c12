-- The units and positions of a shape are numbered in the night.
use Rattle.std.proofs.Common.{ℕ, ◌<◌, arith}
use Rattle.shunt_instance.specs.defs.Instance.{Night, unit_total, position_total}
use Rattle.shunt_instance.proofs.Looked.{unit_room, position_room}
use Rattle.shunt_blocks.specs.declared.records.Shape.{Shape}
use Rattle.shunt_blocks.specs.defs.Shapes.{AreRunsWithin, HasUnit, HasPosition}

pub unit_in : (night : Night) (s : Shape) (u : ℕ) → AreRunsWithin night s → HasUnit night s u → u < unit_total night
unit_in night s u h has = omega (arith, unit_room night s.arr.0 h.arr, h.p, h.units, has.to)

pub position_in : (night : Night) (s : Shape) (v : ℕ) → AreRunsWithin night s → HasPosition night s v → v < position_total night
position_in night s v h has = omega (arith, position_room night s.dep.0 h.dep, h.q, h.positions, has.to)
