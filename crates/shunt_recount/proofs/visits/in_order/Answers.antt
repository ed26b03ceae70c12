use Rattle.std.proofs.Common.{rules}
use Rattle.std.proofs.lemmas.List.Sorted.{answers_always, IsNonDecreasingBy-from_sort}
use Rattle.shunt_recount.specs.defs.Visits.{comes_at}
use Rattle.shunt_recount.proofs.visits.in_order.Goals as goal

pub returns-clause-order : goal.returns-clause-order
returns-clause-order c =
    let keys = answers_always _ _ _ (λ f a r g h. search rules) in
    IsNonDecreasingBy-from_sort comes_at _ (c.sort_unstable_by_key.ensures.sorted comes_at keys)
