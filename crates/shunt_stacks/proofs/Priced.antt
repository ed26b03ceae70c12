-- Where cases hold without stacks, no stack gains anything, and sums and bounds with stacks are those without.
use Rattle.std.specs.Prelude.{All, map, Option, Some, None, slice_index_or, ◌-ℤ◌, ◌≤ℤ◌}
use Rattle.std.specs.List.{AllZip, range_with_len}
use Rattle.std.proofs.Common.{◌≡◌, ℕ, ◌<◌, List, [], ◌∷◌, ◌++◌, length, ℤ, pos, ◌+ℤ◌, refl, sym, subst, arith}
use Rattle.std.proofs.lemmas.Int.{ints}
use Rattle.std.proofs.lemmas.List.FromFn.{get_or-map-range_with_len}
use Rattle.shunt_lists.specs.defs.Members.{In}
use Rattle.shunt_lists.proofs.Members.{in_right, each_one}
use Rattle.shunt_base.specs.declared.duals.Case.{Case}
use Rattle.shunt_instance.specs.defs.Instance.{Night, IsInstance}
use Rattle.shunt_blocks.specs.declared.records.Block.{Block}
use Rattle.shunt_blocks.specs.defs.Shapes.{shape_of, IsWithinTrains}
use Rattle.shunt_blocks.specs.defs.Lists.{ShareNothing, RunsThrough, placed}
use Rattle.shunt_choices.specs.defs.Paths.{masks_of}
use Rattle.shunt_prices.specs.defs.Sums.{sum_z}
use Rattle.shunt_prices.specs.defs.Limits.{case_at, from_of}
use Rattle.shunt_prices.specs.defs.Cases.{HoldsInCase, CasesHold, weight, duals_over}
use Rattle.shunt_prices.specs.defs.Bounds.{case_sum, IsBoundOf, IsCasesBound}
use Rattle.shunt_stacks.specs.defs.Stacks.{Stack, stacks, blocks_of, stack_of}
use Rattle.shunt_stacks.specs.defs.Fillings.{gain, gain_of, IsFilling, IsStackGain}
use Rattle.shunt_stacks.specs.defs.Cases.{StackCasesHold}
use Rattle.shunt_stacks.specs.defs.Bounds.{IsStackSum, IsFall, IsChoiceSum, IsLeastBound, IsStackBound, IsChoiceBound}
use Rattle.shunt_stacks.proofs.Sums.{sum_z-low}
use Rattle.shunt_stacks.proofs.Parts.{part_left, part_runs, IsFreeAt, is_block}
use Rattle.shunt_stacks.proofs.Filled.{empty, whole_apart, whole_within}
use Rattle.shunt_stacks.proofs.Plans.{StepLaws}
use Rattle.shunt_stacks.proofs.Rises.{longer_apart, longer_within}

pub cases_hold : (night : Night) (path : List Block) (cases : List Case) → CasesHold night path cases → StackCasesHold night path cases
cases_hold night path cases hold k d lt = record { holds = λ s park free own room. (hold k d lt).holds s park free room }

module _ (laws : StepLaws) (night : Night) (i : IsInstance night) where
  module _ (path : List Block) (within : All (IsWithinTrains night) path) (apart : ShareNothing night path) where
    -- ---- fillings

    -- a filling gains nothing
    low : (c : Case) (stack : Stack) (filling : List Block) → HoldsInCase night (masks_of night path) c → IsFilling night path stack filling → gain_of night c filling ≤ℤ pos 0
    low c stack filling hold fill = sum_z-low (gain night c) filling one
      where
        one : (b : Block) → In b filling → gain night c b ≤ℤ pos 0
        one b there =
            let free = each_one (IsFreeAt night path) filling b fill.free there in
            let room = laws.room night (blocks_of stack path ++ filling) b i (whole_within laws.places laws.part night i path within apart stack filling fill)
            (whole_apart laws.places laws.part night i path within apart stack filling fill) fill.through (in_right (blocks_of stack path) filling b there)
            (is_block laws.places night path b free) in
            omega (arith, ints, hold.holds (shape_of b) b.park free room)

    pub no_gain : (c : Case) (stack : Stack) → RunsThrough night (placed path) → HoldsInCase night (masks_of night path) c → IsStackGain night path c stack (pos 0)
    no_gain c stack go hold = record { filling = []; fills = empty laws.part night i path within apart stack go; has = refl; no_more = λ other fill. low c stack other hold fill }

    -- ---- sums and bounds

    no_gains : (c : Case) → RunsThrough night (placed path) → HoldsInCase night (masks_of night path) c → (ss : List Stack)
        → AllZip (IsStackGain night path c) ss (map (λ s. pos 0) ss)
    no_gains c go hold [] = tt
    no_gains c go hold (s ∷ ss) = (no_gain c s go hold, no_gains c go hold ss)

    zero_sum : (ss : List Stack) → sum_z (λ z. z) (map (λ s. pos 0) ss) ≡ pos 0
    zero_sum [] = refl
    zero_sum (s ∷ ss) = omega (arith, ints, zero_sum ss)

    pub same_sum : (cases : List Case) (k : ℕ) → RunsThrough night (placed path) → HoldsInCase night (masks_of night path) (case_at cases k)
        → IsStackSum night path cases k (case_sum night path cases k)
    same_sum cases k go hold = record {
      gains = map (λ s. pos 0) (stacks night.station);
      are = no_gains (case_at cases k) go hold (stacks night.station);
      is = less_nothing (case_sum night path cases k) (sum_z (λ z. z) (map (λ s. pos 0) (stacks night.station))) (zero_sum (stacks night.station));
    }
      where
        less_nothing : (z g : ℤ) → g ≡ pos 0 → z ≡ z -ℤ g
        less_nothing z g e = omega (arith, ints, e)

  sum_of : (path : List Block) (cases : List Case) (k : ℕ) → k < length cases
      → slice_index_or (map (case_sum night path cases) (range_with_len 0 (length cases))) k (pos 0) ≡ case_sum night path cases k
  sum_of path cases k lt = get_or-map-range_with_len (case_sum night path cases) 0 (length cases) k k (pos 0) lt (omega arith)

  least_of : (path : List Block) (cases : List Case) (bound : ℤ) → IsCasesBound night path cases bound
      → IsLeastBound cases path (map (case_sum night path cases) (range_with_len 0 (length cases))) bound
  least_of path cases bound is = record {
    number = is.number;
    opens = is.opens;
    is = subst (λ (z : ℤ). IsBoundOf z bound) (sym (sum_of path cases is.number is.opens.there)) is.is;
    least = λ k other o b. is.least k other o (subst (λ (z : ℤ). IsBoundOf z other) (sum_of path cases k o.there) b);
  }

  pub same_bound : (path : List Block) (cases : List Case) (bound : ℤ) → All (IsWithinTrains night) path → ShareNothing night path → RunsThrough night (placed path)
      → CasesHold night path cases → IsCasesBound night path cases bound → IsStackBound night path cases bound
  same_bound path cases bound within apart go hold is = record {
    sums = map (case_sum night path cases) (range_with_len 0 (length cases));
    are = λ k o. subst (IsStackSum night path cases k) (sym (sum_of path cases k o.there)) (same_sum path within apart cases k go (hold k _ o.there));
    least = least_of path cases bound is;
  }

  -- ---- choices

  module _ (path : List Block) (b : Block) (within : All (IsWithinTrains night) path) (apart : ShareNothing night path) (free : IsFreeAt night path b)
      (go_on : RunsThrough night (placed (path ++ b ∷ []))) where
    go : RunsThrough night (placed path)
    go =
        part_runs laws.part night path (path ++ b ∷ []) i (longer_within laws.places laws.part night i path b within apart free)
        (longer_apart laws.places laws.part night i path b within apart free) (part_left night path (b ∷ [])) go_on

    no_fall : (c : Case) → HoldsInCase night (masks_of night path) c → HoldsInCase night (masks_of night (path ++ b ∷ [])) c → (o : Option Stack) → IsFall night path b c o (pos 0)
    no_fall c hold then None = refl
    no_fall c hold then (Some s) = (
      pos 0,
      pos 0,
      no_gain path within apart c s go hold,
      no_gain (path ++ b ∷ []) (longer_within laws.places laws.part night i path b within apart free)
          (longer_apart laws.places laws.part night i path b within apart free) c s go_on then,
      refl,
    )

    choice_sum : (cases : List Case) (k : ℕ) → HoldsInCase night (masks_of night path) (case_at cases k)
        → HoldsInCase night (masks_of night (path ++ b ∷ [])) (case_at cases k) → IsChoiceSum night path b cases k (case_sum night (path ++ b ∷ []) cases k)
    choice_sum cases k hold then = record {
      whole = case_sum night path cases k;
      is_whole = same_sum path within apart cases k go hold;
      fall = pos 0;
      is_fall = no_fall (case_at cases k) hold then (stack_of b.park);
      is = turned _ _ (weight night (case_at cases k) b) (duals_over night (case_at cases k).duals (shape_of b)) (laws.sum night path b (from_of cases k) (case_at cases k) free);
    }
      where
        turned : (end now w d : ℤ) → end ≡ now +ℤ (w -ℤ d) → end ≡ now +ℤ pos 0 -ℤ (d -ℤ w)
        turned end now w d e = omega (arith, ints, e)

    pub same_choice : (cases : List Case) (bound : ℤ) → CasesHold night path cases → CasesHold night (path ++ b ∷ []) cases
        → IsCasesBound night (path ++ b ∷ []) cases bound → IsChoiceBound night path b cases bound
    same_choice cases bound hold then is = record {
      sums = map (case_sum night (path ++ b ∷ []) cases) (range_with_len 0 (length cases));
      are = λ k o. subst (IsChoiceSum night path b cases k) (sym (sum_of (path ++ b ∷ []) cases k o.there)) (choice_sum cases k (hold k _ o.there) (then k _ o.there));
      least = least_of (path ++ b ∷ []) cases bound is;
    }
