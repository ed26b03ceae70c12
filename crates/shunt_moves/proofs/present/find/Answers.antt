use Rattle.std.proofs.Common.{◌∙◌, sym, ap, arith}
use Rattle.std.proofs.lemmas.List.{get_or_default}
use Rattle.shunt_blocks.specs.declared.records.Block.{Block}
use Rattle.shunt_moves.proofs.Places.{found_at, not_found}
use Rattle.shunt_moves.proofs.present.find.Goals as goal
use Rattle.shunt_lists.proofs.Tests.{strictly_below as within_or}

pub returns-then-place-blocks : goal.returns-then-place-blocks
returns-then-place-blocks c = sym (not_found c.args.blocks.now c.args.id c.place_of-place.result c.requires c.place_of-place.ensures.bound c.place_of-place.ensures.before
    c.place_of-place.ensures.after (λ d lt e. absurd (let p = c.if-place-blocks.true in omega arith)))

pub returns-then-block-id : goal.returns-then-block-id
returns-then-block-id c = sym (not_found c.args.blocks.now c.args.id c.place_of-place.result c.requires c.place_of-place.ensures.bound c.place_of-place.ensures.before
    c.place_of-place.ensures.after (λ d lt e. c.if-block-id.true (ap (λ (b : Block). b.id) (get_or_default c.args.blocks.now c.place_of-place.result _ d lt) ∙ e)))

pub returns : goal.returns
returns c = sym (found_at c.args.blocks.now c.args.id c.place_of-place.result _ c.requires
    (within_or c.place_of-place.result _ c.place_of-place.ensures.bound c.if-place-blocks.false) c.if-block-id.false)
