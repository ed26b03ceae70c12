use Rattle.std.proofs.Common.{rules}
use Rattle.std.proofs.lemmas.List.Sorted.{answers_always, All-permutation}
use Rattle.shunt_blocks.specs.defs.Shapes.{IsInRange}
use Rattle.shunt_choices.proofs.SortedBlocks.{in_order_again, share_nothing}
use Rattle.shunt_choices.proofs.paths.in_order.Goals as goal

pub returns-clause-order : goal.returns-clause-order
returns-clause-order c =
    let keys = answers_always _ _ _ (λ f a r g h. search rules) in
    in_order_again c.few_blocks.ensures.firsts c.args.instance.now c.args.pins.now c.sort_unstable_by_key.new.self.items c.requires.in_range c.requires.apart (search rules)
    (c.sort_unstable_by_key.ensures.sorted (λ b. (b.arr.0, b.p)) keys)

pub returns-clause-in_range : goal.returns-clause-in_range
returns-clause-in_range c = All-permutation (IsInRange c.args.instance.now) c.args.pins.now c.sort_unstable_by_key.new.self.items (search rules) c.requires.in_range

pub returns-clause-apart : goal.returns-clause-apart
returns-clause-apart c = share_nothing c.args.instance.now c.args.pins.now c.sort_unstable_by_key.new.self.items (search rules) c.requires.apart
