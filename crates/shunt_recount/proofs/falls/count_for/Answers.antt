use Rattle.std.specs.Prelude.{false}
use Rattle.std.proofs.Common.{◌≡◌, ◌∙◌, sym, subst}
use Rattle.shunt_lists.specs.defs.Members.{In}
use Rattle.shunt_lists.proofs.Members.{in_place}
use Rattle.shunt_stacks.specs.defs.Stacks.{is_of}
use Rattle.shunt_recount.specs.declared.counts.StackCount.{StackCount}
use Rattle.shunt_recount.specs.defs.Offers.{stack_at}
use Rattle.shunt_recount.proofs.Added.{not_yet}
use Rattle.shunt_recount.proofs.falls.count_for.Goals as goal

pub returns-then-stands_by-clause-some : goal.returns-then-stands_by-clause-some
returns-then-stands_by-clause-some c =
    let there = in_place c.args.counts.now c.counts.count-index c.count-item.result c.counts-test.true in
    (subst (λ (k : StackCount). In k c.args.counts.now) (sym c.count-item.is) there, sym c.stands_by.ensures ∙ c.if-stands_by.true)

pub counts-preserved : goal.counts-preserved
counts-preserved c =
    let own : is_of (stack_at c.count-item.result.end) c.args.option ≡ false = sym c.stands_by.ensures ∙ c.if-stands_by.false in
    not_yet c.args.counts.now c.counts.count-index c.count-item.result c.args.option c.counts-test.true
    (subst (λ (k : StackCount). is_of (stack_at k.end) c.args.option ≡ false) c.count-item.is own) c.counts.invariant
