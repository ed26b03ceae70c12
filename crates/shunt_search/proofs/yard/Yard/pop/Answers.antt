use Rattle.std.proofs.Common.{◌≡◌, ◌++◌, ◌∷◌, [], List, length, ap}
use Rattle.shunt_blocks.specs.declared.records.Block.{Block}
use Rattle.shunt_search.proofs.YardChanges.{left, shorter, front, front_runs, left_yard}
use Rattle.shunt_search.proofs.yard.Yard.pop.Goals as goal

last : (c : goal.After-pop) → (b : Block) × (c.args.self.now.path.blocks ≡ c.pop.new.self.blocks ++ b ∷ [])
last c = left c.pop.result c.args.self.now.path c.pop.new.self c.pop.ensures.some c.pop.ensures.none c.requires.more

pub returns-clause-blocks : goal.returns-clause-blocks
returns-clause-blocks c = let b = last c in shorter c.args.self.now.path c.pop.new.self b.0 b.1

pub returns-clause-front : goal.returns-clause-front
returns-clause-front c = let b = last c in front c.args.self.now.path c.pop.new.self b.0 b.1

pub returns-clause-yard : goal.returns-clause-yard
returns-clause-yard c =
    let night = c.args.instance.now in
    let old = c.args.self.now.path in
    let b = last c in
    left_yard night old c.pop.new.self b.0 b.1
    (c.stays_of_blocks.ensures.placed night old.blocks c.units.ensures.formed (λ k d lt. (c.requires.yard.path.each k d lt).within) c.requires.yard.path.apart)
    c.args.self.now.timelines c.remove.new.self c.requires.yard.stand c.remove.ensures.lengths _
    (ap (λ (l : List Block). length l) c.blocks-2.ensures) c.remove.ensures.gone c.remove.result c.remove.ensures.some c.remove.ensures.count c.remove.ensures.unchanged
    (front_runs c.ids_do_not_matter.ensures.placed_part night c.units.ensures.formed old.blocks c.pop.new.self.blocks b.0 b.1 c.requires.yard.each c.requires.yard.path.apart
    c.requires.yard.through)
    c.pop.ensures.of c.pop.ensures.pins c.requires.more c.requires.yard.room
