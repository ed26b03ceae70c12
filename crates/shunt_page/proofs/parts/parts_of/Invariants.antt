use Rattle.std.proofs.Common.{◌≡◌, ◌≤◌, ◌*◌, take}
use Rattle.shunt_page.specs.defs.Parts.{parts_of}
use Rattle.shunt_page.proofs.parts.parts_of.Given as goal

abbrev pub invariant-loop-block : goal.invariant-loop-block
invariant-loop-block l = record {
  exact : l.parts ≡ parts_of l.instance (take l.block-index l.blocks);
  splits : l.parts.splits ≤ 1000000 * l.block-index;
  couplings : l.parts.couplings ≤ 1000000 * l.block-index;
  ways_in : l.parts.ways_in ≤ 1000000 * l.block-index;
  ways_out : l.parts.ways_out ≤ 1000000 * l.block-index;
  unparked : l.parts.unparked ≤ 1000000 * l.block-index;
}
