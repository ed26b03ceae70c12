use Rattle.std.specs.Prelude.{IsTrue, ◌↔◌, ◌≤ℤ◌}
use Rattle.std.proofs.Common.{◌+◌, ◌*◌, length, ℤ, pos, ◌+ℤ◌, subst}
use Rattle.shunt_choices.specs.defs.Paths.{Masks}
use Rattle.shunt_choices.specs.defs.Choices.{chosen}
use Rattle.shunt_prices.specs.defs.Cases.{IsFreeBlock}
use Rattle.shunt_checker.proofs.Seen.{seen_lone}
use Rattle.shunt_checker.proofs.Steps.{within_all}
use Rattle.shunt_checker.proofs.Lonely.{near}
use Rattle.shunt_checker.proofs.omissions.is_near.Goals as goal

pub returns : goal.returns
returns c =
    let night = c.args.instance.now in
    let b = c.args.branch.now in
    let path = b.path.now.blocks in
    let cases = b.cases.now in
    let of = c.requires.branch.path in
    let free = subst (λ (m : Masks). IsFreeBlock night m c.args.offer.shape c.args.offer.option) of.covered c.requires.free in
    λ f h. near night path cases b.stated c.args.offer
    (λ x stack before after was now. c.bounds_rise.ensures.falls night path (chosen (length path + 1) c.args.offer) x stack before after c.units.ensures.formed
    (within_all night path of.each) of.apart free was now)
    (λ k x y is so. c.one_gain.ensures.sum night path cases k x y is so)
    b.last c.args.early c.args.late c.requires.branch.cases.few c.requires.branch.last_is c.requires.early c.requires.late c.is_below.result c.is_below-2.result
    (subst (λ (z : ℤ). IsTrue c.is_below.result ↔ ((z +ℤ pos 1000) ≤ℤ pos (1000 * b.stated))) (seen_lone c.args.late c.requires.late_small) c.is_below.ensures) c.if-is_below.false
    (subst (λ (z : ℤ). IsTrue c.is_below-2.result ↔ ((z +ℤ pos 1000) ≤ℤ pos (1000 * b.stated))) (seen_lone c.args.early c.requires.early_small) c.is_below-2.ensures) f h
