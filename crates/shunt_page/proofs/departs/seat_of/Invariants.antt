use Rattle.std.proofs.Common.{◌≡◌, take}
use Rattle.std.specs.List.{flat_map}
use Rattle.shunt_page.specs.defs.Departs.{filling_at}
use Rattle.shunt_page.proofs.departs.seat_of.Given as goal

abbrev pub invariant-loop-block : goal.invariant-loop-block
invariant-loop-block l = l.fillings.items ≡ flat_map (filling_at l.instance l.position) (take l.block-index l.blocks)
