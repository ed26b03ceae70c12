use Rattle.std.proofs.Common.{◌≡◌, ◌++◌, drop}
use Rattle.shunt_picture.specs.defs.Words.{each_from}
use Rattle.shunt_page.specs.defs.Cells.{unit_item}
use Rattle.shunt_page.proofs.cells.push_units.Given as goal

abbrev pub invariant-loop-i : goal.invariant-loop-i
invariant-loop-i l = l.text ++ each_from unit_item l.i (drop l.i l.units) ≡ l.fn.text ++ each_from unit_item 0 l.units
