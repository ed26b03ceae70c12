use Rattle.std.proofs.Common.{◌≡◌, take}
use Rattle.shunt_page.specs.defs.Told.{looses_of}
use Rattle.shunt_page.proofs.told.looses_of.Given as goal

abbrev pub invariant-loop-block : goal.invariant-loop-block
invariant-loop-block l = l.looses.items ≡ looses_of l.instance (take l.block-index l.blocks)
