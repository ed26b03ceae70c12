use Rattle.std.proofs.Common.{◌≡◌, ℕ, ◌≤◌, false, take}
use Rattle.shunt_lists.specs.defs.Members.{In}
use Rattle.shunt_blocks.specs.declared.records.Block.{Block}
use Rattle.shunt_blocks.specs.defs.Shapes.{shape_of}
use Rattle.shunt_blocks.specs.defs.Stays.{is_too_soon}
use Rattle.shunt_delay.specs.defs.Late.{late}
use Rattle.shunt_delay.proofs.train.train_in_time.Given as goal

abbrev pub invariant-loop-block : goal.invariant-loop-block
invariant-loop-block l = record {
  few : l.minutes ≤ 120;
  in_time : (d : ℕ) → d ≤ l.minutes → (b : Block) → In b (take l.block-index l.blocks) → is_too_soon (late l.train.0 d l.instance) (shape_of b) ≡ false;
}
