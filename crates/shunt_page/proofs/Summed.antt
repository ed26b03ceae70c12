-- The parts of a cost add up to it.
use Rattle.std.specs.Prelude.{Option, Some, None, unwrap_or, fold, sum_by}
use Rattle.std.proofs.Common.{◌≡◌, ℕ, ◌+◌, ◌≤◌, List, [], ◌∷◌, take, length, ap, ◌∙◌, arith}
use Rattle.std.proofs.lemmas.List.{take_all}
use Rattle.std.proofs.lemmas.List.Sums.{sum_by-cons}
use Rattle.shunt_instance.specs.defs.Instance.{Night}
use Rattle.shunt_blocks.specs.declared.records.Block.{Block}
use Rattle.shunt_blocks.specs.declared.records.Park.{Park}
use Rattle.shunt_blocks.specs.defs.Shapes.{shape_of}
use Rattle.shunt_blocks.specs.defs.Ways.{option_way_in, option_way_out}
use Rattle.shunt_blocks.specs.defs.Costs.{option_cost, block_cost}
use Rattle.shunt_blocks.specs.defs.Lists.{total_cost}
use Rattle.shunt_page.specs.declared.records.Parts.{Parts}
use Rattle.shunt_page.specs.defs.Parts.{unparked_cost, block_parts, added, with_block, nothing, parts_of, parts_sum}

-- those of an option
option_parts : (night : Night) (b : Block) (o : Option Park) → unwrap_or (option_way_in night (shape_of b) o) 0 + unwrap_or (option_way_out night b.dep o) 0 + unparked_cost night o
    ≡ option_cost night (shape_of b) o
option_parts night b None = omega arith
option_parts night b (Some k) = omega arith

block_sum : (night : Night) (b : Block) → parts_sum (block_parts night b) ≡ block_cost night b
block_sum night b = let o = option_parts night b b.park in omega (arith, o)

added_sum : (p q : Parts) → parts_sum (added p q) ≡ parts_sum p + parts_sum q
added_sum p q = omega arith

sum_from : (night : Night) (p : Parts) (blocks : List Block) → parts_sum (fold (with_block night) p blocks) ≡ parts_sum p + sum_by (block_cost night) blocks
sum_from night p [] = omega arith
sum_from night p (b ∷ blocks) = sum_from night (with_block night p b) blocks ∙ omega
    (arith, added_sum p (block_parts night b), block_sum night b, sum_by-cons (block_cost night) b blocks)

pub parts_are : (night : Night) (blocks : List Block) → parts_sum (parts_of night blocks) ≡ total_cost night blocks
parts_are night blocks = let h = sum_from night nothing blocks in omega (arith, h)

-- so do those of all blocks
pub parts_through : (night : Night) (blocks : List Block) (p : Parts) (i : ℕ) → p ≡ parts_of night (take i blocks) → length blocks ≤ i → parts_sum p ≡ total_cost night blocks
parts_through night blocks p i e all = ap parts_sum e ∙ parts_are night (take i blocks) ∙ ap (total_cost night) (take_all i blocks all)
