-- What is counted of all stacks.
use Rattle.std.specs.Prelude.{map}
use Rattle.std.specs.List.{AllZip}
use Rattle.std.proofs.Common.{◌≡◌, ⊎_elim, inl, inr, ℕ, ◌+◌, ◌<◌, List, [], ◌∷◌, ◌++◌, length, suc, take, get_or, ℤ, ◌+ℤ◌, refl, sym, ap, subst, ◌∙◌}
use Rattle.std.proofs.lemmas.List.{take_more, map-append}
use Rattle.shunt_lists.specs.defs.Members.{In}
use Rattle.shunt_lists.proofs.Members.{in_cases, of_one, in_map, in_place, of_map}
use Rattle.shunt_base.specs.declared.duals.Case.{Case}
use Rattle.shunt_instance.specs.defs.Instance.{Night}
use Rattle.shunt_blocks.specs.declared.records.Block.{Block}
use Rattle.shunt_prices.specs.defs.Sums.{sum_z}
use Rattle.shunt_stacks.specs.defs.Stacks.{Stack, stacks}
use Rattle.shunt_stacks.specs.defs.Bounds.{AreStackGains}
use Rattle.shunt_stacks.specs.defs.Fillings.{IsStackGain}
use Rattle.shunt_recount.specs.declared.counts.StackCount.{StackCount}
use Rattle.shunt_recount.specs.declared.ends.TrackEnd.{TrackEnd}
use Rattle.shunt_recount.specs.defs.Offers.{stack_at, stacks_at}
use Rattle.shunt_recount.specs.defs.Recounts.{IsCountOf, stacks_in, AreCountsOf}

abbrev pub gains_in : List StackCount → List ℤ
gains_in counts = map (λ (k : StackCount). k.gain) counts

pub same_sum : (counts : List StackCount) → sum_z (λ (k : StackCount). k.gain) counts ≡ sum_z (λ z. z) (gains_in counts)
same_sum [] = refl
same_sum (k ∷ counts) = ap (λ (z : ℤ). k.gain +ℤ z) (same_sum counts)

same_length : (counts : List StackCount) → length (stacks_in counts) ≡ length counts
same_length [] = refl
same_length (k ∷ counts) = ap suc (same_length counts)

module _ (night : Night) (path : List Block) (c : Case) where
  zipped : (counts : List StackCount) → ((k : StackCount) → In k counts → IsCountOf night path c k) → AllZip (IsStackGain night path c) (stacks_in counts) (gains_in counts)
  zipped [] each = tt
  zipped (k ∷ counts) each = ((each k (inl refl)).gain, zipped counts (λ x i. each x (inr i)))

  pub all_gains : (counts : List StackCount) → AreCountsOf night path c counts → AreStackGains night path c (gains_in counts)
  all_gains counts are = subst (λ (ks : List Stack). AllZip (IsStackGain night path c) ks (gains_in counts)) are.stacks (zipped counts are.each)

  pub long : (counts : List StackCount) → AreCountsOf night path c counts → length counts ≡ length (stacks night.station)
  long counts are = sym (same_length counts) ∙ ap length are.stacks

  pub one_of : (k : StackCount) (counts : List StackCount) → AreCountsOf night path c counts → In k counts → In (stack_at k.end) (stacks night.station)
  one_of k counts are i = subst (λ (ks : List Stack). In (stack_at k.end) ks) are.stacks (in_map (λ (x : StackCount). stack_at x.end) counts k i)

  pub count_at : (stack : Stack) (counts : List StackCount) → AreCountsOf night path c counts → In stack (stacks night.station)
      → (k : StackCount) × In k counts × (stack ≡ stack_at k.end)
  count_at stack counts are i = of_map (λ (x : StackCount). stack_at x.end) counts stack (subst (λ (ks : List Stack). In stack ks) (sym are.stacks) i)

  pub more_each : (counts : List StackCount) (k : StackCount) → ((x : StackCount) → In x counts → IsCountOf night path c x) → IsCountOf night path c k → (x : StackCount)
      → In x (counts ++ k ∷ []) → IsCountOf night path c x
  more_each counts k each is x i = ⊎_elim (λ left. each x left) (λ right. subst (IsCountOf night path c) (sym (of_one k x right)) is) (in_cases counts (k ∷ []) x i)

pub more_stacks : (ends : List TrackEnd) (i : ℕ) (d : TrackEnd) (counts new : List StackCount) (k : StackCount) → i < length ends → new ≡ counts ++ k ∷ []
    → stacks_in counts ≡ stacks_at (take i ends) → k.end ≡ get_or ends i d →
    stacks_in new ≡ stacks_at (take (i + 1) ends)
more_stacks ends i d counts new k lt e before end =
    ap stacks_in e
    ∙ (map-append (λ (x : StackCount). stack_at x.end) counts (k ∷ [])
    ∙ (ap (λ (l : List Stack). l ++ stack_at k.end ∷ []) before
    ∙ (ap (λ (x : TrackEnd). stacks_at (take i ends) ++ stack_at x ∷ []) end
    ∙ sym (ap stacks_at (take_more ends i d lt) ∙ map-append stack_at (take i ends) (get_or ends i d ∷ [])))))

pub end_in : (ends : List TrackEnd) (i : ℕ) (d : TrackEnd) (all : List Stack) → i < length ends → stacks_at ends ≡ all → In (stack_at (get_or ends i d)) all
end_in ends i d all lt e = subst (λ (ks : List Stack). In (stack_at (get_or ends i d)) ks) e (in_map stack_at ends (get_or ends i d) (in_place ends i d lt))
