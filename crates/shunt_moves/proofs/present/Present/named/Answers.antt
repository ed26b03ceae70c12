use Rattle.std.proofs.Common.{◌∙◌, sym}
use Rattle.shunt_blocks.specs.defs.Shapes.{IsInRange}
use Rattle.shunt_moves.proofs.ByIds.{with_in}
use Rattle.shunt_moves.proofs.present.Present.named.Goals as goal
use Rattle.shunt_lists.proofs.Members.{each_one as of_all}

pub returns-in-Some-clause-in_range : goal.returns-in-Some-clause-in_range
returns-in-Some-clause-in_range c = of_all (IsInRange c.args.self.now.night) c.blocks-2.result.now c.in-Some.block c.blocks-2.ensures.in_range.each
    (with_in c.blocks-2.result.now c.args.id c.in-Some.block (sym c.find.ensures ∙ c.in-Some.is)).0
