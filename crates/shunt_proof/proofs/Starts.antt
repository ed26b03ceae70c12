-- The pins in the order of their first units: there is one such list, and what is said of pins doesn't depend on their order.
use Rattle.std.specs.Prelude.{cond, ◌==◌, IsPermutation}
use Rattle.std.proofs.Common.{◌≡◌, ℕ, suc, ◌<◌, List, [], ◌∷◌, ap, subst, arith}
use Rattle.std.proofs.lemmas.List.Sorted.{All-permutation, sum_by-IsPermutation}
use Rattle.shunt_lists.proofs.Members.{all_from, place}
use Rattle.shunt_lists.proofs.SumsBelow.{sum_below-same}
use Rattle.shunt_lists.specs.defs.Members.{Ascends}
use Rattle.shunt_stays.proofs.AscendingLists.{unique}
use Rattle.shunt_stays.proofs.SortedEvents.{in_permuted, of_permuted}
use Rattle.shunt_instance.specs.defs.Instance.{Night, unit_total, position_total}
use Rattle.shunt_blocks.specs.declared.records.Block.{Block}
use Rattle.shunt_blocks.specs.defs.Shapes.{begins_at}
use Rattle.shunt_blocks.specs.defs.Costs.{block_cost}
use Rattle.shunt_blocks.specs.defs.Lists.{times_unit, times_position}
use Rattle.shunt_blocks.specs.defs.Pins.{opening_cost, unit_price, position_price, Keeps, IsKept}
use Rattle.shunt_choices.specs.defs.Paths.{AreInOrder}
use Rattle.shunt_proof.specs.defs.Trees.{IsStart}

ascends_from : (night : Night) (blocks : List Block) → AreInOrder night blocks → Ascends (begins_at night) blocks
ascends_from night [] h = tt
ascends_from night (b ∷ blocks) h = (
  all_from (λ c. begins_at night b < begins_at night c) blocks (λ c there. let p = place blocks c there in subst (λ (x : Block). begins_at night b < begins_at night x) (p.2 b)
      (h 0 (suc p.0) b (omega arith) (omega (arith, p.1)))),
  ascends_from night blocks (λ i j d less lt. h (suc i) (suc j) d (omega (arith, less)) (omega (arith, lt))),
)

pub one_start : (night : Night) (pins start other : List Block) → IsStart night pins start → IsStart night pins other → start ≡ other
one_start night pins start other s t = unique (begins_at night) start other (ascends_from night start s.rises) (ascends_from night other t.rises)
    (λ b. (λ there. in_permuted pins other b t.same (of_permuted pins start b s.same there), λ there. in_permuted pins start b s.same (of_permuted pins other b t.same there)))

pub one_opening : (night : Night) (pins others : List Block) → IsPermutation pins others → opening_cost night others ≡ opening_cost night pins
one_opening night pins others same =
    let units = sum_below-same (unit_total night) (λ u. cond (times_unit night others u == 0) (unit_price night u) 0)
    (λ u. cond (times_unit night pins u == 0) (unit_price night u) 0) (λ u lt. ap {B = ℕ} (λ n. cond (n == 0) (unit_price night u) 0)
    (sum_by-IsPermutation _ pins others same)) in
    let positions = sum_below-same (position_total night) (λ v. cond (times_position night others v == 0) (position_price night v) 0)
    (λ v. cond (times_position night pins v == 0) (position_price night v) 0)
    (λ v lt. ap {B = ℕ} (λ n. cond (n == 0) (position_price night v) 0) (sum_by-IsPermutation _ pins others same)) in
    omega (arith, sum_by-IsPermutation (block_cost night) pins others same, units, positions)

pub still_keeps : (plan pins others : List Block) → IsPermutation pins others → Keeps plan pins → Keeps plan others
still_keeps plan pins others same keeps = All-permutation (IsKept plan) pins others same keeps
