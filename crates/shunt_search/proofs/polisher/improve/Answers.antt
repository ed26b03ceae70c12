use Rattle.std.proofs.Common.{◌≡◌, set, map, inr, sym, subst, arith}
use Rattle.shunt_blocks.specs.declared.records.Block.{Block}
use Rattle.shunt_blocks.specs.defs.Lists.{IsFeasible}
use Rattle.shunt_search.specs.defs.Polish.{unparked, IsLeast}
use Rattle.shunt_search.proofs.Improved.{Laws, choices, settled_as, cheaper_as, no_cheaper}
use Rattle.shunt_search.proofs.Swept.{same_others}
use Rattle.shunt_search.proofs.polisher.improve.Goals as goal

pub returns-then-block_cost-clause-feasible : goal.returns-then-block_cost-clause-feasible
returns-then-block_cost-clause-feasible c =
    let night = c.args.instance.now in
    let L : Laws night = record {
      stays = λ blocks can. c.stays_of_blocks.ensures.stays night blocks c.station.ensures.formed can;
      tracks = λ blocks can.
          c.stays_of_blocks.ensures.tracks night blocks can;
      part = c.part_of_a_run.ensures.part;
    } in
    let b = c.withdraw-block.result in
    let w = choices night L c.args.blocks.now c.args.place b c.requires.place c.requires.feasible c.withdraw-block.new.timelines c.withdraw-block.ensures.others
    c.withdraw-block.ensures.formed b (sym (c.withdraw-block.ensures.block b)) in
    let o = c.cheapest_through-option.result in
    let p = sym c.with_park-parked.ensures in
    subst (λ (x : Block). IsFeasible night (set c.args.blocks.now c.args.place x)) p
    (w.feasible o c.cheapest_through-option.ensures.option c.cheapest_through-option.ensures.through)

pub returns-then-block_cost-clause-stand : goal.returns-then-block_cost-clause-stand
returns-then-block_cost-clause-stand c =
    let night = c.args.instance.now in
    let L : Laws night = record {
      stays = λ blocks can. c.stays_of_blocks.ensures.stays night blocks c.station.ensures.formed can;
      tracks = λ blocks can.
          c.stays_of_blocks.ensures.tracks night blocks can;
      part = c.part_of_a_run.ensures.part;
    } in
    let b = c.withdraw-block.result in
    let w = choices night L c.args.blocks.now c.args.place b c.requires.place c.requires.feasible c.withdraw-block.new.timelines c.withdraw-block.ensures.others
    c.withdraw-block.ensures.formed b (sym (c.withdraw-block.ensures.block b)) in
    let o = c.cheapest_through-option.result in
    let p = sym c.with_park-parked.ensures in
    settled_as night c.args.blocks.now c.args.place c.withdraw-block.new.timelines b w o c.with_park-parked.result p c.cheapest_through-option.ensures.option c.settle.new.timelines
    c.settle.ensures.stays c.settle.ensures.count c.settle.ensures.lengths

pub returns-then-block_cost-clause-shapes : goal.returns-then-block_cost-clause-shapes
returns-then-block_cost-clause-shapes c =
    let night = c.args.instance.now in
    let L : Laws night = record {
      stays = λ blocks can. c.stays_of_blocks.ensures.stays night blocks c.station.ensures.formed can;
      tracks = λ blocks can.
          c.stays_of_blocks.ensures.tracks night blocks can;
      part = c.part_of_a_run.ensures.part;
    } in
    let b = c.withdraw-block.result in
    let w = choices night L c.args.blocks.now c.args.place b c.requires.place c.requires.feasible c.withdraw-block.new.timelines c.withdraw-block.ensures.others
    c.withdraw-block.ensures.formed b (sym (c.withdraw-block.ensures.block b)) in
    let o = c.cheapest_through-option.result in
    let p = sym c.with_park-parked.ensures in
    subst (λ (x : Block). map unparked (set c.args.blocks.now c.args.place x) ≡ map unparked c.args.blocks.now) p (w.shapes o)

pub returns-then-block_cost-clause-cheaper : goal.returns-then-block_cost-clause-cheaper
returns-then-block_cost-clause-cheaper c =
    let night = c.args.instance.now in
    let L : Laws night = record {
      stays = λ blocks can. c.stays_of_blocks.ensures.stays night blocks c.station.ensures.formed can;
      tracks = λ blocks can.
          c.stays_of_blocks.ensures.tracks night blocks can;
      part = c.part_of_a_run.ensures.part;
    } in
    let b = c.withdraw-block.result in
    let w = choices night L c.args.blocks.now c.args.place b c.requires.place c.requires.feasible c.withdraw-block.new.timelines c.withdraw-block.ensures.others
    c.withdraw-block.ensures.formed b (sym (c.withdraw-block.ensures.block b)) in
    let o = c.cheapest_through-option.result in
    let p = sym c.with_park-parked.ensures in
    λ _. cheaper_as night c.args.blocks.now c.args.place c.withdraw-block.new.timelines b w o c.with_park-parked.result p c.block_cost.result c.block_cost-2.result
    c.block_cost.ensures.exact c.block_cost-2.ensures.exact c.if-block_cost.true

pub returns-clause-stand : goal.returns-clause-stand
returns-clause-stand c =
    let night = c.args.instance.now in
    let L : Laws night = record {
      stays = λ blocks can. c.stays_of_blocks.ensures.stays night blocks c.station.ensures.formed can;
      tracks = λ blocks can.
          c.stays_of_blocks.ensures.tracks night blocks can;
      part = c.part_of_a_run.ensures.part;
    } in
    let b = c.withdraw-block.result in
    let w = choices night L c.args.blocks.now c.args.place b c.requires.place c.requires.feasible c.withdraw-block.new.timelines c.withdraw-block.ensures.others
    c.withdraw-block.ensures.formed b (sym (c.withdraw-block.ensures.block b)) in
    w.back c.settle-2.new.timelines c.settle-2.ensures.stays c.settle-2.ensures.count c.settle-2.ensures.lengths

pub returns-clause-least : goal.returns-clause-least
returns-clause-least c =
    let night = c.args.instance.now in
    let L : Laws night = record {
      stays = λ blocks can. c.stays_of_blocks.ensures.stays night blocks c.station.ensures.formed can;
      tracks = λ blocks can.
          c.stays_of_blocks.ensures.tracks night blocks can;
      part = c.part_of_a_run.ensures.part;
    } in
    let b = c.withdraw-block.result in
    let w = choices night L c.args.blocks.now c.args.place b c.requires.place c.requires.feasible c.withdraw-block.new.timelines c.withdraw-block.ensures.others
    c.withdraw-block.ensures.formed b (sym (c.withdraw-block.ensures.block b)) in
    let o = c.cheapest_through-option.result in
    let p = sym c.with_park-parked.ensures in
    λ d. inr (subst (IsLeast night c.args.blocks.now) (c.withdraw-block.ensures.block d) (w.least o c.cheapest_through-option.ensures.option c.cheapest_through-option.ensures.least
    (no_cheaper night c.args.blocks.now c.args.place c.withdraw-block.new.timelines b w o c.with_park-parked.result p c.block_cost.result c.block_cost-2.result
    c.block_cost.ensures.exact c.block_cost-2.ensures.exact (omega (arith, c.if-block_cost.false)))))

pub returns-then-block_cost-clause-others : goal.returns-then-block_cost-clause-others
returns-then-block_cost-clause-others c = same_others c.args.blocks.now c.args.place c.with_park-parked.result c.requires.place
