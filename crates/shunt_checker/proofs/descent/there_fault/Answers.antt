use Rattle.std.specs.Prelude.{All}
use Rattle.std.proofs.Common.{List, sym, subst}
use Rattle.shunt_blocks.specs.declared.records.Block.{Block}
use Rattle.shunt_blocks.specs.defs.Blocks.{IsBlockButId}
use Rattle.shunt_proof.specs.defs.Trees.{choice_from}
use Rattle.shunt_checker.proofs.Placed.{not_there, leads, not_through, all_there}
use Rattle.shunt_checker.proofs.Steps.{longer_each}
use Rattle.shunt_checker.proofs.descent.there_fault.Goals as goal

pub returns-then-not-there-clause-found : goal.returns-then-not-there-clause-found
returns-then-not-there-clause-found c =
    let night = c.args.instance.now in
    not_there night c.args.certificate.now c.args.k c.args.choice c.requires.choice
    (λ start. c.parents.ensures.path night start c.args.certificate.now.nodes c.args.k c.requires.nodes c.requires.some c.requires.there) c.args.path.now.blocks
    c.is_there-there.result c.is_there-there.ensures c.if-not-there.true

pub returns-then-not-through-clause-found : goal.returns-then-not-through-clause-found
returns-then-not-through-clause-found c =
    let night = c.args.instance.now in
    not_through night c.args.certificate.now c.args.k c.args.choice c.requires.choice
    (λ start. c.parents.ensures.path night start c.args.certificate.now.nodes c.args.k c.requires.nodes c.requires.some c.requires.there) c.args.path.now.blocks
    c.is_there-there.result c.is_there-there.ensures c.push_choice.new.path.blocks c.push_choice.ensures.blocks c.in_ok-through.through c.in_ok-through.ensures
    c.if-not-through.true

pub returns-clause-found : goal.returns-clause-found
returns-clause-found c =
    let night = c.args.instance.now in
    all_there night c.args.certificate.now c.args.k c.args.choice c.requires.choice
    (λ start. c.parents.ensures.path night start c.args.certificate.now.nodes c.args.k c.requires.nodes c.requires.some c.requires.there) c.args.path.now.blocks
    c.is_there-there.result c.is_there-there.ensures c.push_choice.new.path.blocks c.push_choice.ensures.blocks c.in_ok-through.through c.in_ok-through.ensures c.if-not-there.false
    c.if-not-through.false

pub returns-clause-leads : goal.returns-clause-leads
returns-clause-leads c =
    let night = c.args.instance.now in
    leads night c.args.certificate.now c.args.k c.args.choice c.requires.choice (λ start.
    c.parents.ensures.path night start c.args.certificate.now.nodes c.args.k c.requires.nodes c.requires.some c.requires.there) c.args.path.now.blocks
    c.is_there-there.result c.is_there-there.ensures c.push_choice.new.path.blocks c.push_choice.ensures.blocks c.in_ok-through.through c.in_ok-through.ensures

pub returns-clause-more : goal.returns-clause-more
returns-clause-more c = record {
  choice = choice_from c.args.instance.now c.args.path.now.blocks c.args.choice;
  there = c.is_there-there.ensures.0 c.if-not-there.false;
  is = c.push_choice.ensures.blocks;
  through = c.in_ok-through.ensures.0 c.if-not-through.false;
  each = subst (λ (bs : List Block). All (IsBlockButId c.args.instance.now) bs) (sym c.push_choice.ensures.blocks)
      (longer_each c.args.instance.now c.args.path.now.blocks (choice_from c.args.instance.now c.args.path.now.blocks c.args.choice)
      (c.is_there-there.ensures.0 c.if-not-there.false) c.requires.each);
}
