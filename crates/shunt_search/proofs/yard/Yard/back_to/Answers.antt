use Rattle.std.proofs.Common.{length, List, refl, sym, ap, ◌∙◌, arith}
use Rattle.std.proofs.Math.Seq.{take-length}
use Rattle.shunt_blocks.specs.declared.records.Block.{Block}
use Rattle.shunt_search.proofs.YardChanges.{front_again, front_of}
use Rattle.shunt_search.proofs.yard.Yard.back_to.Goals as goal

pub rest-init : goal.rest-init
rest-init c = record {
  yard = c.requires.yard;
  front = sym (take-length c.args.self.now.path.blocks);
  pins = refl;
  count = let long = ap (λ (l : List Block). length l) c.blocks-2.ensures in omega (arith, long, c.requires.there);
}

pub pop-requires-clause-yard : goal.pop-requires-clause-yard
pop-requires-clause-yard c = c.rest.invariant.yard

pub pop-requires-clause-more : goal.pop-requires-clause-more
pop-requires-clause-more c = let h = c.rest.invariant in omega (arith, h.count, h.pins, c.rest-test.true, c.requires.pins)

pub rest-preserved : goal.rest-preserved
rest-preserved c = let h = c.rest.invariant in record {
  yard = c.pop.ensures.yard;
  front = front_again c.args.self.now.path.blocks c.rest.self.path.blocks c.pop.new.self.path.blocks h.front c.pop.ensures.front c.pop.ensures.blocks;
  pins = c.pop.ensures.pins ∙ h.pins;
  count = omega (arith, h.count, c.pop.ensures.blocks, c.rest-test.true);
}

pub returns-clause-front : goal.returns-clause-front
returns-clause-front c = let h = c.rest.invariant in front_of c.args.self.now.path.blocks c.rest.self.path.blocks c.args.keep h.front (omega (arith, h.count, c.rest-test.false))

pub returns-clause-pins : goal.returns-clause-pins
returns-clause-pins c = c.rest.invariant.pins

pub returns-clause-yard : goal.returns-clause-yard
returns-clause-yard c = c.rest.invariant.yard
