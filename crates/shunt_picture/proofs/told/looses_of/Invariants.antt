use Rattle.std.proofs.Common.{◌≡◌, take}
use Rattle.shunt_picture.specs.defs.Told.{looses_of}
use Rattle.shunt_picture.proofs.told.looses_of.Given as goal

abbrev pub invariant-loop-block : goal.invariant-loop-block
invariant-loop-block l = l.looses.items ≡ looses_of l.instance l.findings (take l.block-index l.blocks)
