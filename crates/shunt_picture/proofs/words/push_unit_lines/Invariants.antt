use Rattle.std.proofs.Common.{◌≡◌, ◌++◌, drop}
use Rattle.shunt_picture.specs.defs.Words.{each_from}
use Rattle.shunt_picture.specs.defs.Words.{unit_line}
use Rattle.shunt_picture.proofs.words.push_unit_lines.Given as goal

abbrev pub invariant-loop-i : goal.invariant-loop-i
invariant-loop-i l = l.text ++ each_from (unit_line l.kinds l.told) l.i (drop l.i l.units) ≡ l.fn.text ++ each_from (unit_line l.kinds l.told) 0 l.units
