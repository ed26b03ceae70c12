-- What is kept beside the blocks, as one goes.
use Rattle.std.proofs.Common.{◌≡◌, ◌≢◌, inl, inr, ⊎_elim, ℕ, ◌+◌, ◌<◌, ◌≤◌, List, [], ◌∷◌, length, refl, sym, subst, ap, ◌∙◌, arith, IsPermutation}
use Rattle.std.specs.Prelude.{Option, Some, None}
use Rattle.std.specs.List.{cons_option}
use Rattle.std.proofs.lemmas.List.Sorted.{IsPermutation-sym, IsPermutation-trans, length_permutation}
use Rattle.shunt_lists.proofs.Members.{all_in, all_from, each_one as of_all, to_all}
use Rattle.shunt_base.specs.declared.keys.Stay.{Stay}
use Rattle.shunt_base.specs.defs.Keys.{AreStays}
use Rattle.shunt_stays.proofs.SortedEvents.{of_permuted, in_permuted, stays_permuted, same_members}
use Rattle.shunt_instance.specs.defs.Instance.{Night}
use Rattle.shunt_blocks.specs.declared.records.Block.{Block}
use Rattle.shunt_blocks.specs.defs.Shapes.{shape_of, unit_from, position_from, IsInRange}
use Rattle.shunt_blocks.specs.defs.Costs.{block_cost}
use Rattle.shunt_blocks.specs.defs.Stays.{stay_of}
use Rattle.shunt_blocks.specs.defs.Lists.{has_unit, has_position, stays_of}
use Rattle.shunt_timeline.specs.defs.Holdings.{Holding}
use Rattle.shunt_audit.specs.defs.Listed.{insert_by_id}
use Rattle.shunt_moves.specs.declared.faults.Faults.{Faults}
use Rattle.shunt_moves.specs.defs.Kept.{Times, at, is_within, own_faults, less, IsKeptState, Removed, Goes}
use Rattle.shunt_moves.proofs.ByIds.{IsNew}
use Rattle.shunt_moves.proofs.KeptBeside.{flag, to_insert, stays_insert, count_insert, length_insert, faults_less, ascend_less}
use Rattle.shunt_blocks.proofs.StaysOf.{stay_id}

-- ---- stays of the same members

-- one stay less on both sides
one_less : (t u : Stay) (stays before after : List Stay) → AreStays (t ∷ stays) → IsPermutation (t ∷ stays) before → IsPermutation (u ∷ after) before → u.id ≡ t.id
    → IsPermutation stays after
one_less t u stays before after formed p q e =
    let all : AreStays before = stays_permuted (t ∷ stays) before formed p in
    let others : AreStays (u ∷ after) = stays_permuted before (u ∷ after) all (IsPermutation-sym (u ∷ after) before q) in
    same_members stays after formed.2 others.2 (λ s. (
      λ i. ⊎_elim (λ is. absurd (all_in (λ x. t.id ≢ x.id) stays s formed.1 i (sym (ap (λ (x : Stay). x.id) is ∙ e)))) (λ j. j)
          (of_permuted (u ∷ after) before s q (in_permuted (t ∷ stays) before s p (inr i))),
      λ i. ⊎_elim (λ is. absurd (all_in (λ x. u.id ≢ x.id) after s others.1 i (e ∙ sym (ap (λ (x : Stay). x.id) is)))) (λ j. j)
          (of_permuted (t ∷ stays) before s p (in_permuted (u ∷ after) before s q (inr i))),
    ))

removed_stays : (id : ℕ) (t : Stay) (stays : List Stay) (gone : Option Stay) (before after : Holding) → t.id ≡ id → AreStays (t ∷ stays) → IsPermutation (t ∷ stays) before.stays
    → Removed id gone before after → IsPermutation stays after.stays × (before.spare + length before.stays ≤ after.spare + length after.stays)
removed_stays id t stays None before after e formed p r = absurd (of_all (λ s. s.id ≢ id) before.stays t (r.none refl) (in_permuted (t ∷ stays) before.stays t p (inl refl)) e)
removed_stays id t stays (Some u) before after e formed p r =
    let s = r.some in let spare = s.2 in
    (one_less t u stays before.stays after.stays formed p s.1 (s.0 ∙ sym e), omega (arith, length_permutation (u ∷ after.stays) before.stays s.1, spare))

goes_stays : (id : ℕ) (o : Option Stay) (stays : List Stay) (before after : Holding) → ((t : Stay) → o ≡ Some t → t.id ≡ id) → AreStays (cons_option o stays)
    → Goes id o before after → IsPermutation (cons_option o stays) before.stays
    → IsPermutation stays after.stays × (before.spare + length before.stays ≤ after.spare + length after.stays)
goes_stays id None stays before after named formed e p = (
  subst (λ (h : Holding). IsPermutation stays h.stays) (sym e) p,
  omega (arith, ap (λ (h : Holding). h.spare + length h.stays) e),
)
goes_stays id (Some t) stays before after named formed e p = removed_stays id t stays e.0 before after (named t refl) formed p e.1

goes_lengths : (id : ℕ) (o : Option Stay) (before after : Holding) → Goes id o before after → after.lengths ≡ before.lengths
goes_lengths id None before after e = ap (λ (h : Holding). h.lengths) e
goes_lengths id (Some t) before after e = e.1.track_lengths

module _ (night : Night) (b : Block) (rest : List Block) (before after : Holding) (units places units_after places_after : Times) (f : Faults) where
  pub go : IsKeptState night (insert_by_id b rest) before units places f → IsNew b.id rest → AreStays (stays_of night (insert_by_id b rest))
      → Goes b.id (stay_of night b) before after
      → units_after.total ≡ units.total → ((u : ℕ) → u < units.total → at units_after.times u + flag (is_within (unit_from night (shape_of b)) b.n u) ≡ at units.times u)
      → places_after.total ≡ places.total → ((v : ℕ) → v < places.total → at places_after.times v + flag (is_within (position_from night (shape_of b)) b.n v) ≡ at places.times v)
      → IsKeptState night rest after units_after places_after (less f (own_faults night b))
  go k new formed held ut ue pt pe =
      let all = cons_option (stay_of night b) (stays_of night rest) in
      let moved : IsPermutation all (stays_of night (insert_by_id b rest)) = stays_insert night b rest in
      let gone = goes_stays b.id (stay_of night b) (stays_of night rest) before after (λ t e. stay_id night b t e)
      (stays_permuted (stays_of night (insert_by_id b rest)) all formed (IsPermutation-sym all (stays_of night (insert_by_id b rest)) moved)) held
      (IsPermutation-trans all (stays_of night (insert_by_id b rest)) before.stays moved k.stays) in
      record {
        ascend = ascend_less b rest k.ascend new;
        each = to_all (IsInRange night) rest (λ c i. of_all (IsInRange night) (insert_by_id b rest) c k.each (to_insert b rest c i));
        few = let n = k.few in omega (arith, length_insert b rest);
        stays = gone.0;
        lengths = goes_lengths b.id (stay_of night b) before after held ∙ k.lengths;
        room = let r = gone.1 in let q = k.room in omega arith;
        unit_count = ut ∙ k.unit_count;
        each_unit = λ u lt. let e = ue u (subst (λ n. u < n) (sym k.unit_count) lt) in let c = count_insert
            (λ c. has_unit night (shape_of c) u) b rest in let w = k.each_unit u lt in
            let g : flag (is_within (unit_from night (shape_of b)) b.n u) ≡ flag (has_unit night (shape_of b) u) = refl in omega arith;
        place_count = pt ∙ k.place_count;
        each_place = λ v lt. let e = pe v (subst (λ n. v < n) (sym k.place_count) lt) in let c = count_insert
            (λ c. has_position night (shape_of c) v) b rest in let w = k.each_place v lt in
            let g : flag (is_within (position_from night (shape_of b)) b.n v) ≡ flag (has_position night (shape_of b) v) = refl in omega arith;
        faults_are = faults_less night b rest f k.faults_are;
        cheap = all_from (λ c. block_cost night c ≤ 4000000) rest (λ c i. all_in (λ c. block_cost night c ≤ 4000000) (insert_by_id b rest) c k.cheap (to_insert b rest c i));
      }
