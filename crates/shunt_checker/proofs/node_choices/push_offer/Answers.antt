use Rattle.std.proofs.Common.{◌≡◌, ◌≤◌, List, length, ap, arith}
use Rattle.shunt_blocks.specs.declared.records.Block.{Block}
use Rattle.shunt_choices.specs.defs.Paths.{Trail}
use Rattle.shunt_instance.specs.defs.Instance.{unit_total}
use Rattle.shunt_checker.proofs.NextBlocks.{in_range_as, next_as, units_as, positions_as, grown_by}
use Rattle.shunt_checker.proofs.node_choices.push_offer.Goals as goal

pub push-requires-clause-in_range : goal.push-requires-clause-in_range
push-requires-clause-in_range c =
    let most : length c.args.path.now.blocks ≤ unit_total c.args.instance.now = c.few_blocks.ensures.most c.args.instance.now c.args.path.now.blocks
    (λ k d lt. (c.requires.path.each k d lt).within) c.requires.path.apart in
    let same : length c.blocks-2.result.now ≡ length c.args.path.now.blocks = ap (λ (bs : List Block). length bs) c.blocks-2.ensures in
    in_range_as c.args.instance.now c.args.path.now.covered c.args.u c.args.offer c.requires.there _ c.block_in-block.result c.block_in-block.ensures
    (omega arith) (omega (arith, most, same))

pub push-requires-clause-next : goal.push-requires-clause-next
push-requires-clause-next c = next_as c.args.instance.now c.args.path.now.covered c.args.u c.args.offer c.requires.there _ c.block_in-block.result c.block_in-block.ensures
    c.requires.next

pub push-requires-clause-units : goal.push-requires-clause-units
push-requires-clause-units c = units_as c.args.instance.now c.args.path.now.covered c.args.u c.args.offer c.requires.there _ c.block_in-block.result c.block_in-block.ensures

pub push-requires-clause-positions : goal.push-requires-clause-positions
push-requires-clause-positions c = positions_as c.args.instance.now c.args.path.now.covered c.args.u c.args.offer c.requires.there _ c.block_in-block.result
    c.block_in-block.ensures

pub returns-clause-blocks : goal.returns-clause-blocks
returns-clause-blocks c =
    let same : length c.blocks-2.result.now ≡ length c.args.path.now.blocks = ap (λ (bs : List Block). length bs) c.blocks-2.ensures in
    grown_by c.args.path.now.blocks c.push.new.self.blocks _ c.block_in-block.result c.args.offer (omega (arith, same)) c.block_in-block.ensures
    (ap (λ (t : Trail). t.blocks) c.push.ensures.new)
