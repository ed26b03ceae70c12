use Rattle.std.specs.Prelude.{IfSome, Option}
use Rattle.std.proofs.Common.{◌≡◌, ◌≢◌, ◌+◌, ◌∷◌, sym, subst, IsPermutation}
use Rattle.shunt_base.specs.declared.keys.Stay.{Stay}
use Rattle.shunt_blocks.specs.declared.records.Block.{Block}
use Rattle.shunt_blocks.specs.defs.Blocks.{IsBlock}
use Rattle.shunt_timeline.specs.defs.Holdings.{Holding}
use Rattle.shunt_search.specs.defs.Polish.{others_of, Stand}
use Rattle.shunt_search.proofs.Improved.{Laws, without, few_others, others_run}
use Rattle.shunt_search.proofs.polisher.withdraw.Goals as goal
use Rattle.shunt_lists.proofs.Members.{each_one as of_all}

abbrev held_out : goal.After-clash → Type 0
held_out c = Stand c.args.instance.now (others_of c.args.blocks.now c.args.place) c.remove.new.self

abbrev taken : Holding → Holding → Option Stay → Block → Type 0
taken held after u b = IfSome u (λ t. (t.id ≡ b.id) × IsPermutation (t ∷ after.stays) held.stays × (after.spare ≡ held.spare + 1))

others : (c : goal.After-clash) → held_out c
others c =
    let b = c.block_at-block.result in
    let at = c.block_at-block.ensures b in
    without c.args.instance.now c.args.blocks.now c.args.place b c.requires.place c.requires.feasible.ids c.args.timelines.now c.remove.new.self c.requires.stand
    (λ s i. subst (λ (x : Block). s.id ≢ x.id) at (of_all (λ t. t.id ≢ b.id) c.remove.new.self.stays s c.remove.ensures.gone i))
    c.remove.ensures.lengths c.remove.result (subst (taken c.args.timelines.now c.remove.new.self c.remove.result) at c.remove.ensures.some) c.remove.ensures.count
    c.remove.ensures.unchanged

pub returns-clause-others : goal.returns-clause-others
returns-clause-others c = others c

pub returns-clause-through : goal.returns-clause-through
returns-clause-through c =
    let night = c.args.instance.now in
    let L : Laws night = record {
      stays = λ blocks can. c.stays_of_blocks.ensures.stays night blocks c.station.ensures.formed can;
      tracks = λ blocks can.
          c.stays_of_blocks.ensures.tracks night blocks can;
      part = c.part_of_a_run.ensures.part;
    } in
    others_run night L c.args.blocks.now c.args.place c.block_at-block.result c.requires.place c.requires.feasible c.remove.new.self (others c) c.clash.ensures.formed

pub returns-clause-few : goal.returns-clause-few
returns-clause-few c = few_others c.args.instance.now c.args.blocks.now c.args.place c.remove.new.self c.requires.place (others c)

pub returns-clause-is : goal.returns-clause-is
returns-clause-is c = let b = c.block_at-block.result in subst (IsBlock c.args.instance.now) (sym (c.block_at-block.ensures b))
    (c.requires.feasible.each c.args.place b c.requires.place)
