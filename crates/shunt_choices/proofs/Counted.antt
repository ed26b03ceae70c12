-- How many partial plans begin with a list of blocks: one and those that its choices give, whatever the order of the list.
use Rattle.std.specs.Prelude.{All, not, ◌==◌, if◌then◌else◌, sum_by, Option, Some, None, IsPermutation}
use Rattle.std.specs.List.{range_with_len}
use Rattle.std.proofs.Common.{◌≡◌, ℕ, zero, suc, ◌+◌, ◌≤◌, Bool, true, false, List, [], ◌∷◌, ◌++◌, length, refl, sym, ap, subst, ◌∙◌, arith}
use Rattle.std.proofs.lemmas.List.{length-append}
use Rattle.std.proofs.lemmas.List.Elements.{All-push}
use Rattle.std.proofs.lemmas.List.Sorted.{All-permutation, sum_by-IsPermutation, length_permutation, IsPermutation-append_left, IsPermutation-sym}
use Rattle.shunt_lists.specs.defs.Members.{In}
use Rattle.shunt_stays.proofs.SortedEvents.{of_permuted}
use Rattle.shunt_instance.specs.defs.Instance.{Night, IsInstance, unit_total, position_total}
use Rattle.shunt_blocks.specs.declared.records.Block.{Block}
use Rattle.shunt_blocks.specs.defs.Shapes.{IsWithinTrains}
use Rattle.shunt_blocks.specs.defs.Lists.{times_unit, times_position, units_taken, positions_taken, ShareNothing, RunsThrough, placed}
use Rattle.shunt_choices.proofs.Given.{BlockLaws}
use Rattle.shunt_choices.specs.defs.Paths.{Masks, masks_of, next_of}
use Rattle.shunt_choices.specs.defs.Choices.{Choice, chosen, choices_where, choices_at, longer_by, runs_placed, plans_from, partial_plans}
use Rattle.shunt_choices.proofs.SortedBlocks.{share_nothing}
use Rattle.shunt_choices.proofs.AtPaths.{choices_at_are}
use Rattle.shunt_choices.proofs.Grown.{next_is, grown_apart, choice_free, choice_fits}
use Rattle.shunt_choices.proofs.Partial.{next_unit}
use Rattle.shunt_lists.proofs.Sums.{sum_by-members as one_sum}
use Rattle.shunt_lists.proofs.Lists.{map_same as same_values}
use Rattle.shunt_blocks.proofs.Shapes.{is_within}

-- ---- sums over lists

where_true : (t s : Bool) (m n : ℕ) → t ≡ s → m ≡ n → (if t then m else 0) ≡ (if s then n else 0)
where_true t s m n e f = ap {B = ℕ} (λ b. if b then m else 0) e ∙ ap {B = ℕ} (λ k. if s then k else 0) f

-- ---- blocks and one of their choices

pub record CanGrow (night : Night) (blocks : List Block) : Type 0 where
  pub within : All (IsWithinTrains night) blocks
  pub apart : ShareNothing night blocks

pub longer_grows : (laws : BlockLaws) (night : Night) (blocks : List Block) (c : Choice) → IsInstance night → CanGrow night blocks → In c (choices_at night blocks)
    → CanGrow night (longer_by blocks c)
longer_grows laws night blocks c is h there =
    let at = next_unit night blocks c ((choices_at_are laws.places night blocks c is).0 there) in
    let id = length blocks + 1 in
    record {
      within = All-push (IsWithinTrains night) blocks (chosen id c) h.within (is_within night (chosen id c) (choice_fits night blocks at.0 id c at.2));
      apart = grown_apart night blocks (chosen id c) h.apart (choice_free laws.places night blocks at.0 id c at.2);
    }

none_where : (night : Night) (covered : Masks) (o : Option ℕ) → o ≡ None → choices_where night covered o ≡ []
none_where night covered o e = ap (choices_where night covered) e

-- where there are as many blocks as units, no unit is uncovered
full : (laws : BlockLaws) (night : Night) (blocks : List Block) → CanGrow night blocks → unit_total night ≤ length blocks → choices_at night blocks ≡ []
full laws night blocks h all = none_where night (masks_of night blocks) (next_of (masks_of night blocks)) (at (next_of (masks_of night blocks)) refl)
  where
    at : (o : Option ℕ) → next_of (masks_of night blocks) ≡ o → o ≡ None
    at None e = refl
    at (Some u) e = let x = next_is night blocks u e in absurd (omega (arith, all, laws.fewer night blocks u h.within h.apart x.there x.free))

-- ---- one more block at most changes nothing where there is room for all

steady : (laws : BlockLaws) (more : ℕ) (night : Night) (blocks : List Block) → IsInstance night → CanGrow night blocks → unit_total night ≤ length blocks + more
    → plans_from (suc more) night blocks ≡ plans_from more night blocks
unfolding plans_from
steady laws zero night blocks is h room = ap (λ cs. 1 + sum_by (λ c. if runs_placed night (longer_by blocks c) then 1 else 0) cs) (full laws night blocks h (omega (arith, room)))
steady laws (suc more) night blocks is h room =
    ap (λ n. 1 + n) (one_sum (choices_at night blocks) _ _ (λ c there.
    where_true (runs_placed night (longer_by blocks c)) (runs_placed night (longer_by blocks c)) _ _ refl
    (steady laws more night (longer_by blocks c) is (longer_grows laws night blocks c is h there) (omega (arith, room, length-append blocks (chosen (length blocks + 1) c ∷ []))))))

more_plans : (night : Night) (blocks : List Block) (more : ℕ) → plans_from (suc more) night blocks
    ≡ 1 + sum_by (λ c. if runs_placed night (longer_by blocks c) then plans_from more night (longer_by blocks c) else 0) (choices_at night blocks)
unfolding plans_from
more_plans night blocks more = refl

pub counted : (laws : BlockLaws) (night : Night) (blocks : List Block) → IsInstance night → All (IsWithinTrains night) blocks → ShareNothing night blocks
    → partial_plans night blocks ≡ 1 + sum_by (λ c. if runs_placed night (longer_by blocks c) then partial_plans night (longer_by blocks c) else 0) (choices_at night blocks)
counted laws night blocks is within apart = sym (steady laws (unit_total night) night blocks is (record { within = within; apart = apart }) (omega arith))
    ∙ more_plans night blocks (unit_total night)

-- ---- the order of the blocks

pub same_masks : (night : Night) (blocks others : List Block) → IsPermutation blocks others → masks_of night blocks ≡ masks_of night others
same_masks night blocks others same =
    let units : units_taken night blocks ≡ units_taken night others = same_values (λ u. not (times_unit night blocks u == 0)) (λ u. not (times_unit night others u == 0))
    (range_with_len 0 (unit_total night)) (λ u. ap (λ n. not (n == 0)) (sym (sum_by-IsPermutation _ blocks others same))) in
    let positions : positions_taken night blocks ≡ positions_taken night others = same_values (λ v. not (times_position night blocks v == 0))
    (λ v. not (times_position night others v == 0)) (range_with_len 0 (position_total night)) (λ v. ap (λ n. not (n == 0)) (sym (sum_by-IsPermutation _ blocks others same))) in
    ap (λ (us : List Bool). record { units = us; places = positions_taken night blocks }) units
    ∙ ap (λ (vs : List Bool). record { units = units_taken night others; places = vs }) positions

same_choices : (night : Night) (blocks others : List Block) → IsPermutation blocks others → choices_at night blocks ≡ choices_at night others
same_choices night blocks others same = ap (λ m. choices_where night m (next_of m)) (same_masks night blocks others same)

both_or_neither : (t s : Bool) → (t ≡ true → s ≡ true) → (s ≡ true → t ≡ true) → t ≡ s
both_or_neither true s f g = sym (f refl)
both_or_neither false true f g = g refl
both_or_neither false false f g = refl

permuted_runs : (laws : BlockLaws) (night : Night) (blocks others : List Block) → IsInstance night → CanGrow night blocks → IsPermutation blocks others
    → RunsThrough night (placed blocks) → RunsThrough night (placed others)
permuted_runs laws night blocks others is h same through =
    laws.part night blocks others is h.within h.apart (All-permutation (IsWithinTrains night) blocks others same h.within) (share_nothing night blocks others same h.apart)
    (λ c there. (c, of_permuted blocks others c same there, refl)) through

permuted_grow : (night : Night) (blocks others : List Block) → CanGrow night blocks → IsPermutation blocks others → CanGrow night others
permuted_grow night blocks others h same = record {
  within = All-permutation (IsWithinTrains night) blocks others same h.within;
  apart = share_nothing night blocks others same
      h.apart;
}

longer_permuted : (blocks others : List Block) (c : Choice) → IsPermutation blocks others → IsPermutation (longer_by blocks c) (longer_by others c)
longer_permuted blocks others c same =
    subst (λ n. IsPermutation (longer_by blocks c) (others ++ chosen (n + 1) c ∷ [])) (sym (length_permutation blocks others same))
    (IsPermutation-append_left (chosen (length blocks + 1) c ∷ []) blocks others same)

one_count : (laws : BlockLaws) (more : ℕ) (night : Night) (blocks others : List Block) → IsInstance night → CanGrow night blocks → IsPermutation blocks others
    → plans_from more night blocks ≡ plans_from more night others
unfolding plans_from
one_count laws zero night blocks others is h same = refl
one_count laws (suc more) night blocks others is h same =
    ap (λ n. 1 + n) (
    one_sum (choices_at night blocks) _ (λ c. if runs_placed night (longer_by others c) then plans_from more night (longer_by others c) else 0) (λ c there.
    let grows = longer_grows laws night blocks c is h there in
    let longer = longer_permuted blocks others c same in
    where_true (runs_placed night (longer_by blocks c)) (runs_placed night (longer_by others c)) _ _
    (both_or_neither _ _
    (permuted_runs laws night (longer_by blocks c) (longer_by others c) is grows longer)
    (permuted_runs laws night (longer_by others c) (longer_by blocks c) is (permuted_grow night (longer_by blocks c) (longer_by others c) grows longer)
    (IsPermutation-sym _ _ longer)))
    (one_count laws more night (longer_by blocks c) (longer_by others c) is grows longer))
    ∙ ap (λ cs. sum_by (λ c. if runs_placed night (longer_by others c) then plans_from more night (longer_by others c) else 0) cs) (same_choices night blocks others same))

pub any_order : (laws : BlockLaws) (night : Night) (blocks others : List Block) → IsInstance night → All (IsWithinTrains night) blocks → ShareNothing night blocks
    → IsPermutation blocks others → partial_plans night blocks ≡ partial_plans night others
any_order laws night blocks others is within apart same = one_count laws (unit_total night) night blocks others is (record { within = within; apart = apart }) same
