-- A plan that keeps a path costs at least the path's bound with stacks, and one that has a block more at least the bound of that choice.
use Rattle.std.specs.Prelude.{not, All, Option, Some, None, slice_index_or, ◌-ℤ◌, ◌≤ℤ◌}
use Rattle.std.specs.List.{AllZip}
use Rattle.std.proofs.Common.{◌≡◌, inl, ℕ, zero, suc, ◌+◌, ◌<◌, ◌≤◌, true, List, [], ◌∷◌, ◌++◌, length, get_or, ℤ, pos, ◌+ℤ◌, refl, sym, subst, ap, ◌∙◌, arith}
use Rattle.std.proofs.lemmas.Int.{ints}
use Rattle.std.proofs.lemmas.Bool.{true≢false, not-false}
use Rattle.std.proofs.lemmas.List.{append-nil, length-append}
use Rattle.std.proofs.lemmas.List.Elements.{All-tail}
use Rattle.shunt_lists.specs.defs.Members.{In}
use Rattle.shunt_lists.proofs.Members.{in_right, each_one, to_all as from_members}
use Rattle.shunt_lists.proofs.Lists.{append_one, none_passes}
use Rattle.shunt_base.specs.declared.duals.Case.{Case}
use Rattle.shunt_instance.specs.defs.Wellformed.{IsStation}
use Rattle.shunt_instance.specs.defs.Instance.{Night, IsInstance, unit_total}
use Rattle.shunt_blocks.specs.declared.records.Shape.{Shape}
use Rattle.shunt_blocks.specs.declared.records.Block.{Block}
use Rattle.shunt_blocks.specs.declared.records.Park.{Park}
use Rattle.shunt_blocks.specs.defs.Shapes.{shape_of, unit_from, HasUnit, IsWithinTrains}
use Rattle.shunt_blocks.specs.defs.Blocks.{IsBlockButId}
use Rattle.shunt_blocks.specs.defs.Lists.{ShareNothing, IsFeasible, RunsThrough, total_cost, placed}
use Rattle.shunt_blocks.specs.defs.Pins.{IsKept, Keeps}
use Rattle.shunt_choices.specs.defs.Paths.{masks_of, next_of}
use Rattle.shunt_choices.specs.defs.Choices.{Choice, IsChoiceAt, chosen, longer_by}
use Rattle.shunt_choices.proofs.Given.{PlaceLaws, FewerLaw}
use Rattle.shunt_choices.proofs.Trails.{length_units}
use Rattle.shunt_choices.proofs.Grown.{next_is, grown_apart, choice_free}
use Rattle.shunt_choices.proofs.Partial.{next_unit}
use Rattle.shunt_prices.specs.defs.Sums.{sum_z}
use Rattle.shunt_prices.specs.defs.Limits.{AreCases, case_at, from_of}
use Rattle.shunt_prices.specs.defs.Cases.{IsFreeBlock, HasRoom, CasesHold, weight, duals_over}
use Rattle.shunt_prices.specs.defs.Bounds.{sum_at, case_sum, IsOpenAt, IsBoundOf, IsCasesBound}
use Rattle.shunt_stacks.specs.defs.Stacks.{Stack, stacks, is_of, blocks_of, stack_of}
use Rattle.shunt_stacks.specs.defs.Fillings.{gain, gain_of, IsStackGain}
use Rattle.shunt_stacks.specs.defs.Cases.{HoldsBesideStacks, StackCasesHold}
use Rattle.shunt_stacks.specs.defs.Bounds.{IsStackSum, IsFall, IsChoiceSum, IsStackBound, IsChoiceBound}
use Rattle.shunt_stacks.proofs.Sums.{sum_z-both}
use Rattle.shunt_stacks.proofs.Parts.{IsPart, part_itself, part_part, part_right, part_filter, PartLaw, free_behind}
use Rattle.shunt_stacks.proofs.Owned.{is_of_tells, stack_there}
use Rattle.shunt_stacks.proofs.Filled.{others, other_block, fills, NoneBeside, within_gains, within_others}
use Rattle.shunt_blocks.proofs.Shapes.{all_within, but_ids}
use Rattle.shunt_prices.proofs.Dual.{kept_block}

-- what the laws of the crates below say
pub record StepLaws : Type 0 where
  pub places : PlaceLaws
  pub part : PartLaw
  pub station : (night : Night) → IsInstance night → IsStation night.station
  pub room : (night : Night) (blocks : List Block) (b : Block) → IsInstance night → All (IsWithinTrains night) blocks → ShareNothing night blocks
      → RunsThrough night (placed blocks) → In b blocks → IsBlockButId night b → HasRoom night (shape_of b) b.park
  pub opens : (cases : List Case) (path : List Block) (b : Block) (k : ℕ) → IsOpenAt cases (path ++ b ∷ []) k → IsOpenAt cases path k
  pub sum : (night : Night) (path : List Block) (b : Block) (from : ℕ) (c : Case) → IsFreeBlock night (masks_of night path) (shape_of b) b.park
      → sum_at night (path ++ b ∷ []) from c ≡ sum_at night path from c +ℤ (weight night c b -ℤ duals_over night c.duals (shape_of b))
  pub there : (sum : ℤ) → (bound : ℤ) × IsBoundOf sum bound
  pub rise : (sum more bound other : ℤ) → sum ≤ℤ more → IsBoundOf sum bound → IsBoundOf more other → bound ≤ℤ other

pub record PlanLaws : Type 0 where
  pub steps : StepLaws
  pub fewer : FewerLaw
  pub apart : (night : Night) (blocks : List Block) → IsFeasible night blocks → ShareNothing night blocks
  pub renumbered : (night : Night) (blocks : List Block) → IsInstance night → IsFeasible night blocks → IsFeasible night (placed blocks)
  pub held : (night : Night) (plan path : List Block) (u : ℕ) → IsInstance night → IsFeasible night plan → ShareNothing night path → Keeps plan path
      → next_of (masks_of night path) ≡ Some u
      → (c : Choice) × IsChoiceAt night path c × Keeps plan (longer_by path c) × RunsThrough night (placed (longer_by path c))
  pub of_cases : (night : Night) (path : List Block) (cases : List Case) → 1 ≤ length cases → (bound : ℤ) × IsCasesBound night path cases bound
  pub prices : (night : Night) (plan path : List Block) (cases : List Case) (bound : ℤ) → IsInstance night → IsFeasible night plan → ShareNothing night path
      → Keeps plan path → AreCases night cases → CasesHold night path cases → IsCasesBound night path cases bound → bound ≤ℤ pos (total_cost night plan)

-- ---- a kept block is the plan's but for its id

-- an option of no stack has none
unowned : (o : Option Stack) → ((s : Stack) → o ≡ Some s → ⊥) → o ≡ None
unowned None never = refl
unowned (Some s) never = absurd (never s refl)

-- ---- sums along a list of blocks

chain : (end middle now w d more : ℤ) → end ≡ middle -ℤ more → middle ≡ now +ℤ (w -ℤ d) → end ≡ now -ℤ ((d -ℤ w) +ℤ more)
chain end middle now w d more e f = omega (arith, ints, e, f)

module _ (laws : StepLaws) (night : Night) where
  pub sum_after : (rest path : List Block) → ShareNothing night (path ++ rest) → All (IsBlockButId night) rest → (from : ℕ) (c : Case)
      → sum_at night (path ++ rest) from c ≡ sum_at night path from c -ℤ gain_of night c rest
  sum_after [] path apart fits from c = ap (λ (bs : List Block). sum_at night bs from c) (append-nil path) ∙ nothing (sum_at night path from c)
    where
      nothing : (z : ℤ) → z ≡ z -ℤ pos 0
      nothing z = omega (arith, ints)
  sum_after (b ∷ rest) path apart fits from c =
      let e = append_one path b rest in
      ap (λ (bs : List Block). sum_at night bs from c) e
      ∙ chain (sum_at night ((path ++ b ∷ []) ++ rest) from c) (sum_at night (path ++ b ∷ []) from c) (sum_at night path from c) (weight night c b)
      (duals_over night c.duals (shape_of b)) (gain_of night c rest)
      (sum_after rest (path ++ b ∷ []) (subst (ShareNothing night) e apart) (All-tail (IsBlockButId night) b rest fits) from c)
      (laws.sum night path b from c (free_behind laws.places night path (b ∷ rest) b apart (inl refl) (fits 0 b (omega arith))))

  pub opened : (cases : List Case) (k : ℕ) (rest path : List Block) → IsOpenAt cases (path ++ rest) k → IsOpenAt cases path k
  opened cases k [] path o = subst (λ (bs : List Block). IsOpenAt cases bs k) (append-nil path) o
  opened cases k (b ∷ rest) path o = laws.opens cases path b k (opened cases k rest (path ++ b ∷ []) (subst (λ (bs : List Block). IsOpenAt cases bs k) (append_one path b rest) o))

-- ---- from a path to all of a plan

module _ (laws : PlanLaws) (night : Night) (i : IsInstance night) (plan : List Block) (h : IsFeasible night plan) where
  -- blocks of the plan that share nothing and leave no unit uncovered
  pub record IsEnd (blocks : List Block) : Type 0 where
    pub apart : ShareNothing night blocks
    pub keeps : Keeps plan blocks
    pub full : next_of (masks_of night blocks) ≡ None

  kept : (path : List Block) → Keeps plan path → All (IsBlockButId night) path
  kept path keeps k d lt = kept_block night plan (get_or path k d) (but_ids night plan h.each) (keeps k d lt)

  abbrev Ends : List Block → Type 0
  Ends path = (rest : List Block) × IsEnd (path ++ rest)

  here : (path : List Block) → ShareNothing night path → Keeps plan path → next_of (masks_of night path) ≡ None → Ends path
  here path apart keeps e = ([], subst IsEnd (sym (append-nil path)) (record { apart = apart; keeps = keeps; full = e }))

  full_length : (path : List Block) (u : ℕ) → ShareNothing night path → Keeps plan path → next_of (masks_of night path) ≡ Some u → length path < unit_total night
  full_length path u apart keeps e = let next = next_is night path u e in laws.fewer night path u (all_within night path (kept path keeps)) apart next.there next.free

  further : (path : List Block) (u : ℕ) → ShareNothing night path → Keeps plan path → next_of (masks_of night path) ≡ Some u
      → ((longer : List Block) → length longer ≡ length path + 1 → ShareNothing night longer → Keeps plan longer → Ends longer)
      → Ends path
  further path u apart keeps e known =
      let x = laws.held night plan path u i h apart keeps e in
      let at = next_unit night path x.0 x.1 in
      let b = chosen (length path + 1) x.0 in
      let more = known (longer_by path x.0) (length-append path (b ∷ [])) (grown_apart night path b apart
      (choice_free laws.steps.places night path at.0 (length path + 1) x.0 at.2)) x.2 in
      (b ∷ more.0, subst IsEnd (sym (append_one path b more.0)) more.1)

  next : (o : Option ℕ) (path : List Block) → next_of (masks_of night path) ≡ o → (next_of (masks_of night path) ≡ None → Ends path)
      → ((u : ℕ) → next_of (masks_of night path) ≡ Some u → Ends path) → Ends path
  next None path e none some = none e
  next (Some u) path e none some = some u e

  pub ends : (n : ℕ) (path : List Block) → unit_total night ≤ length path + n → ShareNothing night path → Keeps plan path → Ends path
  ends zero path le apart keeps = next (next_of (masks_of night path)) path refl (λ e. here path apart keeps e)
      (λ u e. absurd (omega (arith, le, full_length path u apart keeps e)))
  ends (suc n) path le apart keeps = next (next_of (masks_of night path)) path refl (λ e. here path apart keeps e)
      (λ u e. further path u apart keeps e (λ longer more apart_too keeps_too. ends n longer (omega (arith, le, more)) apart_too keeps_too))

  -- ---- at the end

  through : (end : List Block) → IsEnd end → RunsThrough night (placed end)
  through end is = laws.steps.part night plan end i (all_within night plan (but_ids night plan h.each)) (laws.apart night plan h)
      (all_within night end (kept end is.keeps)) is.apart
      (λ b there. let k = each_one (IsKept plan) end b is.keeps there in (k.block, k.there, k.same)) (laws.renumbered night plan i h).through

  none_free : (end : List Block) → IsEnd end → (s : Shape) (park : Option Park) → IsFreeBlock night (masks_of night end) s park → ⊥
  none_free end is s park free =
      let first : HasUnit night s (unit_from night s) = record { from = omega arith; to = omega (arith, free.shape.shape.within.n) } in
      let lt = laws.steps.places.unit_in night s (unit_from night s) free.shape.shape.within first in
      let covered = none_passes (λ c. not c) (masks_of night end).units (unit_from night s) true is.full (omega (arith, lt, length_units night end)) in
      true≢false (sym (not-false _ covered) ∙ free.shape.units (unit_from night s) first)

  all_hold : (end : List Block) (cases : List Case) → IsEnd end → CasesHold night end cases
  all_hold end cases is k d lt = record { holds = λ s park free room. absurd (none_free end is s park free) }

  -- a bound of sums that are at most those at the end
  under_end : (end : List Block) → IsEnd end → (cases : List Case) → AreCases night cases → (sums : List ℤ) (bound : ℤ)
      → ((k : ℕ) → IsOpenAt cases end k → slice_index_or sums k (pos 0) ≤ℤ case_sum night end cases k)
      → ((k : ℕ) (other : ℤ) → IsOpenAt cases end k → IsBoundOf (slice_index_or sums k (pos 0)) other → bound ≤ℤ other) → bound ≤ℤ pos (total_cost night plan)
  under_end end is cases are sums bound low least =
      let x = laws.of_cases night end cases are.some in
      let k = x.1.number in
      let own = laws.steps.there (slice_index_or sums k (pos 0)) in
      three bound own.0 x.0 (pos (total_cost night plan))
      (least k own.0 x.1.opens own.1)
      (laws.steps.rise (slice_index_or sums k (pos 0)) (case_sum night end cases k) own.0 x.0 (low k x.1.opens) own.1 x.1.is)
      (laws.prices night plan end cases x.0 i h is.apart is.keeps are (all_hold end cases is) x.1)
    where
      three : (a b c d : ℤ) → a ≤ℤ b → b ≤ℤ c → c ≤ℤ d → a ≤ℤ d
      three a b c d e f g = omega (arith, ints, e, f, g)

  -- ---- what the plan's blocks behind a path gain

  module _ (path rest : List Block) (is : IsEnd (path ++ rest)) where
    fits : All (IsBlockButId night) rest
    fits = from_members (IsBlockButId night) rest (λ b there. each_one (IsBlockButId night) (path ++ rest) b (kept (path ++ rest) is.keeps) (in_right path rest b there))

    within : All (IsWithinTrains night) (path ++ rest)
    within = all_within night (path ++ rest) (kept (path ++ rest) is.keeps)

    -- a block of no stack gains nothing
    beside : (c : Case) → HoldsBesideStacks night (masks_of night path) c
        → NoneBeside laws.steps.places laws.steps.part night i path rest within fits is.apart (through (path ++ rest) is) c (stacks night.station) rest
    beside c hold b there none =
        let fit = each_one (IsBlockButId night) rest b fits there in
        let free = free_behind laws.steps.places night path rest b is.apart there fit in
        let room = laws.steps.room night (path ++ rest) b i within is.apart (through (path ++ rest) is) (in_right path rest b there) fit in
        omega (arith, ints, hold.holds (shape_of b) b.park free (unowned (stack_of b.park) (never fit)) room)
      where
        never : IsBlockButId night b → (s : Stack) → stack_of b.park ≡ Some s → ⊥
        never fit s e = let of = (is_of_tells s b.park).1 e in true≢false (sym of ∙ none s (stack_there night (laws.steps.station night i) (shape_of b) b.park s fit.option of))

    rest_gains : (c : Case) (gains : List ℤ) (some : List Block) → HoldsBesideStacks night (masks_of night path) c
        → AllZip (IsStackGain night path c) (stacks night.station) gains → IsPart night some rest → gain_of night c some ≤ℤ sum_z (λ z. z) gains
    rest_gains c gains some hold all part =
        within_gains laws.steps.places laws.steps.part night i path rest within fits is.apart (through (path ++ rest) is) c (stacks night.station) gains some all part
        (λ b there none. beside c hold b (part.members b there) none)

    other_gains : (c : Case) (gains : List ℤ) (own : Stack) (most : ℤ) (some : List Block) → HoldsBesideStacks night (masks_of night path) c
        → AllZip (IsStackGain night path c) (stacks night.station) gains → In own (stacks night.station) → IsStackGain night path c own most → IsPart night some rest
        → gain_of night c (others own some) ≤ℤ (sum_z (λ z. z) gains -ℤ most)
    other_gains c gains own most some hold all there has part =
        let less = part_part night (others own some) some rest (part_filter night (λ (b : Block). not (is_of own b.park)) some) part in
        within_others laws.steps.places laws.steps.part night i path rest within fits is.apart (through (path ++ rest) is) c own most has (stacks night.station) gains
        (others own some) there all less
        (λ b in_others none. beside c hold b (less.members b in_others) none)
        (λ b in_others. (other_block own some b in_others).1)

    own_gains : (c : Case) (own : Stack) (most : ℤ) → IsStackGain night path c own most → gain_of night c (blocks_of own rest) ≤ℤ most
    own_gains c own most has =
        has.no_more (blocks_of own rest) (fills laws.steps.places laws.steps.part night i path rest within fits is.apart (through (path ++ rest) is) own rest
        (part_itself night rest))

    end_sum : (cases : List Case) (k : ℕ) → case_sum night (path ++ rest) cases k ≡ case_sum night path cases k -ℤ gain_of night (case_at cases k) rest
    end_sum cases k = sum_after laws.steps night rest path is.apart fits (from_of cases k) (case_at cases k)

  -- ---- the bound of a path

  path_low : (path rest : List Block) → IsEnd (path ++ rest) → (cases : List Case) (k : ℕ) (sum : ℤ) → HoldsBesideStacks night (masks_of night path) (case_at cases k)
      → IsStackSum night path cases k sum → sum ≤ℤ case_sum night (path ++ rest) cases k
  path_low path rest is cases k sum hold s =
      lower sum (case_sum night path cases k) (case_sum night (path ++ rest) cases k) (sum_z (λ z. z) s.gains) (gain_of night (case_at cases k) rest)
      s.is (end_sum path rest is cases k) (rest_gains path rest is (case_at cases k) s.gains rest hold s.are (part_itself night rest))
    where
      lower : (sum now end gains some : ℤ) → sum ≡ now -ℤ gains → end ≡ now -ℤ some → some ≤ℤ gains → sum ≤ℤ end
      lower sum now end gains some e f le = omega (arith, ints, e, f, le)

  pub path_bound : (path : List Block) (cases : List Case) (bound : ℤ) → ShareNothing night path → Keeps plan path → AreCases night cases
      → StackCasesHold night path cases → IsStackBound night path cases bound → bound ≤ℤ pos (total_cost night plan)
  path_bound path cases bound apart keeps are hold is =
      let e = ends (unit_total night) path (omega arith) apart keeps in
      under_end (path ++ e.0) e.1 cases are is.sums bound
      (λ k o. path_low path e.0 e.1 cases k (slice_index_or is.sums k (pos 0)) (hold k _ o.there) (is.are k (opened laws.steps night cases k e.0 path o)))
      (λ k other o b. is.least.least k other (opened laws.steps night cases k e.0 path o) b)

  -- ---- the bound of a choice

  choice_low : (path rest : List Block) (b : Block) → IsEnd (path ++ b ∷ rest) → IsEnd ((path ++ b ∷ []) ++ rest) → (cases : List Case) (k : ℕ) (sum : ℤ)
      → HoldsBesideStacks night (masks_of night path) (case_at cases k) → IsChoiceSum night path b cases k sum → sum ≤ℤ case_sum night (path ++ b ∷ rest) cases k
  choice_low path rest b is long cases k sum hold s = by_stack (stack_of b.park) refl s.is_fall
    where
      part : IsPart night rest (b ∷ rest)
      part = part_right night (b ∷ []) rest

      lower : (sum whole fall own now end gains more : ℤ) → sum ≡ whole +ℤ fall -ℤ own → whole ≡ now -ℤ gains → end ≡ now -ℤ (own +ℤ more) → more ≤ℤ (gains -ℤ fall) → sum ≤ℤ end
      lower sum whole fall own now end gains more e f g le = omega (arith, ints, e, f, g, le)

      done : gain_of night (case_at cases k) rest ≤ℤ (sum_z (λ z. z) s.is_whole.gains -ℤ s.fall) → sum ≤ℤ case_sum night (path ++ b ∷ rest) cases k
      done le =
          lower sum s.whole s.fall (gain night (case_at cases k) b) (case_sum night path cases k) (case_sum night (path ++ b ∷ rest) cases k) (sum_z (λ z. z) s.is_whole.gains)
          (gain_of night (case_at cases k) rest) s.is s.is_whole.is (end_sum path (b ∷ rest) is cases k) le

      by_stack : (o : Option Stack) → stack_of b.park ≡ o → IsFall night path b (case_at cases k) o s.fall → sum ≤ℤ case_sum night (path ++ b ∷ rest) cases k
      by_stack None e fall = done (omega (arith, ints, fall, rest_gains path (b ∷ rest) is (case_at cases k) s.is_whole.gains rest hold s.is_whole.are part))
      by_stack (Some own) e fall =
          let of = (is_of_tells own b.park).1 e in
          let fit = each_one (IsBlockButId night) (b ∷ rest) b (fits path (b ∷ rest) is) (inl refl) in
          let there = stack_there night (laws.steps.station night i) (shape_of b) b.park own fit.option of in
          done (omega (
            arith,
            ints,
            fall.4,
            sum_z-both (gain night (case_at cases k)) (λ (x : Block). is_of own x.park) rest,
            own_gains (path ++ b ∷ []) rest long (case_at cases k) own fall.1 fall.3,
            other_gains path (b ∷ rest) is (case_at cases k) s.is_whole.gains own fall.0 rest hold s.is_whole.are there fall.2 part,
          ))

  pub choice_bound : (path : List Block) (b : Block) (cases : List Case) (bound : ℤ) → ShareNothing night (path ++ b ∷ []) → Keeps plan (path ++ b ∷ [])
      → AreCases night cases → StackCasesHold night path cases → IsChoiceBound night path b cases bound → bound ≤ℤ pos (total_cost night plan)
  choice_bound path b cases bound apart keeps are hold is =
      let e = ends (unit_total night) (path ++ b ∷ []) (omega arith) apart keeps in
      let back = append_one path b e.0 in
      let end = subst IsEnd (sym back) e.1 in
      under_end (path ++ b ∷ e.0) end cases are is.sums bound
      (λ k o. choice_low path e.0 b end e.1 cases k (slice_index_or is.sums k (pos 0)) (hold k _ o.there) (is.are k (was_open k e.0 o)))
      (λ k other o x. is.least.least k other (was_open k e.0 o) x)
    where
      was_open : (k : ℕ) (rest : List Block) → IsOpenAt cases (path ++ b ∷ rest) k → IsOpenAt cases (path ++ b ∷ []) k
      was_open k rest o = opened laws.steps night cases k rest (path ++ b ∷ []) (subst (λ (bs : List Block). IsOpenAt cases bs k) (append_one path b rest) o)
