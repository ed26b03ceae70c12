use Rattle.std.proofs.Common.{◌≡◌, map}
use Rattle.std.specs.List.{range_with_len}
use Rattle.shunt_page.specs.defs.Departs.{depart_of}
use Rattle.shunt_page.proofs.departs.departs_of.Given as goal

abbrev pub invariant-loop-d : goal.invariant-loop-d
invariant-loop-d l = l.rows.items ≡ map (depart_of l.instance l.blocks) (range_with_len 0 l.d)
