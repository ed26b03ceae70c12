use Rattle.std.proofs.Common.{◌≡◌, rules, sym, subst, List, map}
use Rattle.std.proofs.lemmas.List.Sorted.{answers_always, IsNonDecreasingBy-from_sort}
use Rattle.shunt_lists.specs.defs.Members.{AreDistinct}
use Rattle.shunt_blocks.specs.declared.records.Block.{Block}
use Rattle.shunt_audit.specs.defs.Listed.{by_id}
use Rattle.shunt_audit.proofs.ById.{id_of, sorted_is}
use Rattle.shunt_delay.proofs.bearable_delays.by_id.Goals as goal

pub returns : goal.returns
returns c =
    let keys = answers_always _ _ _ (λ f a r g h. search rules) in
    let rises = IsNonDecreasingBy-from_sort id_of _ (c.in_ok-sort_by_key.ensures.sorted id_of keys) in
    let given = c.in_ok-blocks.ensures.items in
    subst (λ (bs : List Block). c.sort_by_key.new.self.items ≡ by_id bs) given (sorted_is c.in_ok-blocks.blocks.items c.sort_by_key.new.self.items
    (subst (λ (bs : List Block). AreDistinct (map id_of bs)) (sym given) c.requires) c.sort_by_key.ensures.permutation rises)
