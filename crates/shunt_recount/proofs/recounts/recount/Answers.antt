use Rattle.std.specs.Prelude.{All}
use Rattle.std.proofs.Common.{List, sym, subst}
use Rattle.shunt_prices.specs.defs.Sums.{IsWithin}
use Rattle.shunt_recount.specs.declared.counts.StackCount.{StackCount}
use Rattle.shunt_recount.proofs.recounts.recount.Goals as goal
use Rattle.shunt_lists.proofs.Members.{to_all as from_members}

pub added_up-total-requires-clause-small : goal.added_up-total-requires-clause-small
added_up-total-requires-clause-small c =
    let are = c.in_ok-counts.ensures in
    subst (λ (ks : List StackCount). All (λ k. IsWithin 319999999999680 k.gain) ks) (sym c.deref.ensures.value)
    (from_members (λ k. IsWithin 319999999999680 k.gain) c.in_ok-counts.counts.items (λ k i. (are.each k i).small))
