-- Feasible blocks in the order of their first units, with their places as ids.
use Rattle.std.specs.Prelude.{All, map, cond}
use Rattle.std.proofs.Common.{◌≡◌, ℕ, ◌+◌, ◌<◌, List, [], ◌∷◌, ◌++◌, length, get_or, refl, sym, subst, ap, ◌∙◌, arith, IsPermutation}
use Rattle.std.proofs.lemmas.List.{append-nil, get_or-map, length-map}
use Rattle.std.proofs.lemmas.List.Sorted.{All-permutation, sum_by-IsPermutation}
use Rattle.shunt_lists.specs.defs.Members.{In}
use Rattle.shunt_stays.proofs.SortedEvents.{of_permuted}
use Rattle.shunt_instance.specs.defs.Instance.{Night, IsInstance}
use Rattle.shunt_blocks.specs.declared.records.Block.{Block}
use Rattle.shunt_blocks.specs.declared.records.Shape.{Shape}
use Rattle.shunt_blocks.specs.defs.Shapes.{shape_of, unit_from, IsWithinTrains}
use Rattle.shunt_blocks.specs.defs.Blocks.{IsBlockButId}
use Rattle.shunt_blocks.specs.defs.Costs.{block_cost}
use Rattle.shunt_blocks.specs.defs.Lists.{has_unit, has_position, ShareNothing, Covers, RunsThrough, IsFeasible, placed, placed_from, total_cost}
use Rattle.shunt_blocks.specs.defs.Pins.{without_id, IsKept, Keeps}
use Rattle.shunt_choices.specs.defs.Paths.{AreInOrder}
use Rattle.shunt_choices.proofs.SortedBlocks.{share_nothing}
use Rattle.shunt_search.specs.defs.Polish.{unparked}
use Rattle.shunt_search.specs.defs.Conditions.{AreNumbered}
use Rattle.shunt_lists.proofs.Members.{each_one as of_all, to_all}
use Rattle.shunt_blocks.proofs.Shapes.{all_within, but_ids}

-- what the laws of the crates below say
pub record TidyLaws : Type 0 where
  pub placed_too : (night : Night) (blocks : List Block) → IsInstance night → IsFeasible night blocks → IsFeasible night (placed blocks)
  pub apart : (night : Night) (blocks : List Block) → IsFeasible night blocks → ShareNothing night blocks
  pub cost : (night : Night) (blocks : List Block) → total_cost night (placed blocks) ≡ total_cost night blocks
  pub no_ids : (night : Night) (blocks : List Block) → IsInstance night → All (IsBlockButId night) blocks → Covers night blocks → RunsThrough night (placed blocks)
      → IsFeasible night (placed blocks)
  pub part : (night : Night) (blocks others : List Block) → IsInstance night → All (IsWithinTrains night) blocks → ShareNothing night blocks → All (IsWithinTrains night) others
      → ShareNothing night others
      → ((c : Block) → In c others → (b : Block) × In b blocks × (without_id b ≡ without_id c)) → RunsThrough night (placed blocks) → RunsThrough night (placed others)
  pub keeps : (pins others : List Block) → Keeps (placed (pins ++ others)) pins

module _ (laws : TidyLaws) where
  pub feasible : (night : Night) (blocks sorted : List Block) → IsInstance night → IsFeasible night blocks → IsPermutation blocks sorted → IsFeasible night (placed sorted)
  feasible night blocks sorted i h same =
      let fits = but_ids night blocks h.each in
      let fits_too = All-permutation (IsBlockButId night) blocks sorted same fits in
      let apart = laws.apart night blocks h in
      let covers : Covers night sorted = record {
        units = λ u lt. (let e = sum_by-IsPermutation (λ (b : Block). cond (has_unit night (shape_of b) u) 1 0) blocks sorted same in let one = h.covers.units u lt in omega
            (arith, e, one));
        positions = λ v lt. (let e = sum_by-IsPermutation (λ (b : Block). cond (has_position night (shape_of b) v) 1 0) blocks sorted same in let one = h.covers.positions v lt in
            omega (arith, e, one));
      } in
      let through = laws.part night blocks sorted i (all_within night blocks fits) apart (all_within night sorted fits_too) (share_nothing night blocks sorted same apart)
      (λ c there. (c, of_permuted blocks sorted c same there, refl)) (laws.placed_too night blocks i h).through in
      laws.no_ids night sorted i fits_too covers through

  kept_placed : (sorted : List Block) → Keeps (placed sorted) sorted
  kept_placed sorted = subst (λ (l : List Block). Keeps (placed l) sorted) (append-nil sorted) (laws.keeps sorted [])

  -- `there` wants a block of the first list among those of the second: `of_permuted` with the permutation turned round
  pub keeps : (blocks sorted pins : List Block) → IsPermutation sorted blocks → Keeps blocks pins → Keeps (placed sorted) pins
  keeps blocks sorted pins back all = to_all (IsKept (placed sorted)) pins (λ p i.
      let w = of_all (IsKept blocks) pins p all i in
      let v = of_all (IsKept (placed sorted)) sorted w.block (kept_placed sorted) (of_permuted sorted blocks w.block back w.there) in
      record { block = v.block; there = v.there; same = v.same ∙ w.same })

  pub cost : (night : Night) (blocks sorted : List Block) → IsPermutation blocks sorted → total_cost night (placed sorted) ≡ total_cost night blocks
  cost night blocks sorted same = laws.cost night sorted ∙ sum_by-IsPermutation (block_cost night) blocks sorted same

-- ---- numbers

again : (k : ℕ) (xs : List Block) → placed_from k xs ≡ placed_from k (placed_from k xs)
again k [] = refl
again k (x ∷ xs) = ap (λ (l : List Block). record x { id = k } ∷ l) (again (k + 1) xs)

shapes_placed : (k : ℕ) (xs : List Block) → map shape_of (placed_from k xs) ≡ map shape_of xs
shapes_placed k [] = refl
shapes_placed k (x ∷ xs) = ap (λ (l : List Shape). shape_of x ∷ l) (shapes_placed (k + 1) xs)

shapes_unparked : (xs : List Block) → map shape_of (map unparked xs) ≡ map shape_of xs
shapes_unparked [] = refl
shapes_unparked (x ∷ xs) = ap (λ (l : List Shape). shape_of x ∷ l) (shapes_unparked xs)

-- the order is one of shapes alone
in_order_as : (night : Night) (xs ys : List Block) → map shape_of ys ≡ map shape_of xs → AreInOrder night xs → AreInOrder night ys
in_order_as night xs ys same order i j d before within =
    let long : length ys ≡ length xs = sym (length-map ys shape_of) ∙ ap (λ (l : List Shape). length l) same ∙ length-map xs shape_of in
    let at : (k : ℕ) → k < length ys → unit_from night (shape_of (get_or ys k d)) ≡ unit_from night (shape_of (get_or xs k d)) = λ k lt.
    ap (λ (s : Shape). unit_from night s) (sym (get_or-map shape_of ys k d (shape_of d) lt) ∙ ap (λ (l : List Shape). get_or l k (shape_of d)) same
    ∙ get_or-map shape_of xs k d (shape_of d) (omega (arith, lt, long))) in
    let first = at i (omega (arith, before, within)) in
    let second = at j within in
    let less = order i j d before (omega (arith, within, long)) in
    omega (arith, first, second, less)

pub numbered : (night : Night) (sorted : List Block) → AreInOrder night sorted → AreNumbered night (placed sorted)
numbered night sorted order = record { order = in_order_as night sorted (placed sorted) (shapes_placed 1 sorted) order; ids = again 1 sorted }

same_numbers : (k : ℕ) (xs ys : List Block) → xs ≡ placed_from k xs → map unparked ys ≡ map unparked xs → ys ≡ placed_from k ys
same_numbers k [] [] is same = refl
same_numbers k [] (y ∷ ys) is same = absurd (cc)
same_numbers k (x ∷ xs) [] is same = absurd (cc)
same_numbers k (x ∷ xs) (y ∷ ys) is same =
    let heads : unparked y ≡ unparked x = cc in
    let tails : map unparked ys ≡ map unparked xs = cc in
    let head : x ≡ record x { id = k } = cc in
    let tail : xs ≡ placed_from (k + 1) xs = cc in
    let number : y.id ≡ k = ap (λ (b : Block). b.id) heads ∙ ap (λ (b : Block). b.id) head in
    ap (λ (n : ℕ). record y { id = n } ∷ ys) number ∙ ap (λ (l : List Block). record y { id = k } ∷ l) (same_numbers (k + 1) xs ys tail tails)

pub still : (night : Night) (blocks others : List Block) → AreNumbered night blocks → map unparked others ≡ map unparked blocks → AreNumbered night others
still night blocks others h same = record {
  order = in_order_as night blocks others (sym (shapes_unparked others) ∙ ap (λ (l : List Block). map shape_of l) same ∙ shapes_unparked blocks) h.order;
  ids = same_numbers 1 blocks others h.ids same;
}
