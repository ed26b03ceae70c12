use Rattle.std.proofs.Common.{rules, ap, ◌∙◌}
use Rattle.std.proofs.lemmas.List.Sorted.{answers_always, IsNonDecreasingBy-from_sort}
use Rattle.shunt_instance.specs.defs.Instance.{sort_by_minute}
use Rattle.shunt_instance.proofs.Orders.{stable_sort}
use Rattle.shunt_instance.proofs.train_numbers.sorted.Goals as goal

pub returns : goal.returns
returns c =
    let keys = answers_always _ _ _ (λ f a r g h. search rules) in
    stable_sort _ _ (IsNonDecreasingBy-from_sort (λ t. t.minute) _ (c.in_ok-sort_by_key.ensures.sorted (λ t. t.minute) keys)) (c.sort_by_key.ensures.stable (λ t. t.minute) keys)
    ∙ ap sort_by_minute c.into_vec-trains.ensures
