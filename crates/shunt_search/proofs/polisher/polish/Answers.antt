use Rattle.std.proofs.Common.{◌≡◌, ◌∙◌, ◌++◌, [], List, length, take, drop, sym, subst, arith}
use Rattle.shunt_blocks.specs.declared.records.Block.{Block}
use Rattle.shunt_blocks.specs.defs.Lists.{AreInRange}
use Rattle.shunt_blocks.specs.defs.Polished.{IsPolished}
use Rattle.shunt_search.proofs.Swept.{polished, first_part}
use Rattle.shunt_search.proofs.polisher.polish.Goals.{In_ok-polish_around}
use Rattle.shunt_search.proofs.polisher.polish.Goals as goal

-- the blocks of the vector are those of the slice that it was handed out as
whole : (c : In_ok-polish_around) → take c.in_ok-blocks.blocks.len (c.polish_around.new.blocks ++ drop (length c.polish_around.new.blocks) c.in_ok-blocks.blocks.items)
    ≡ c.polish_around.new.blocks
whole c = first_part c.in_ok-blocks.blocks.len c.polish_around.new.blocks (drop (length c.polish_around.new.blocks) c.in_ok-blocks.blocks.items)
    (c.polish_around.auto.blocks ∙ c.deref_mut.ensures.len)

pub planned-requires : goal.planned-requires
planned-requires c = subst (AreInRange c.args.instance.now) (sym (whole c)) (c.feasible_lists.ensures.in_range c.args.instance.now c.polish_around.new.blocks
    c.station.ensures.formed c.polish_around.ensures.feasible)

pub returns-clause-polished : goal.returns-clause-polished
returns-clause-polished c =
    let night = c.args.instance.now in
    let same = first_part c.in_ok-blocks.blocks.len c.polish_around.new.blocks (drop (length c.polish_around.new.blocks) c.in_ok-blocks.blocks.items)
    (c.polish_around.auto.blocks ∙ c.deref_mut.ensures.len) in
    subst (λ (l : List Block). IsPolished night [] l) (sym (c.planned.ensures.blocks ∙ same))
    (polished night [] c.polish_around.new.blocks c.polish_around.ensures.feasible (λ k d lt. absurd (omega (arith, lt))) c.in_ok-polish_around.ensures.least)
