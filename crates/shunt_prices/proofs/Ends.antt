-- From a path to a path that covers the night, block by block of a plan; and the bound of the first.
use Rattle.std.specs.Prelude.{◌==◌, nat_le, not, All, is_none, Option, Some, None, ◌≤ℤ◌}
use Rattle.std.proofs.Common.{◌≡◌, ⊎_elim, ℕ, zero, suc, ◌+◌, ◌-◌, ◌*◌, ◌<◌, ◌≤◌, true, false, List, [], ◌∷◌, length, ℤ, pos, refl, sym, subst, ap, ◌∙◌, arith, length-append}
use Rattle.std.proofs.lemmas.Int.{ints}
use Rattle.std.proofs.lemmas.Bool.{cases_lt, cases_eq, or_right}
use Rattle.std.proofs.lemmas.Bool.Decides.{nat_tests}
use Rattle.std.proofs.lemmas.List.Sums.{count_by-le-length}
use Rattle.shunt_lists.specs.defs.Members.{In}
use Rattle.shunt_lists.proofs.Lists.{all_one, none_passes}
use Rattle.shunt_base.specs.declared.duals.Duals.{Duals}
use Rattle.shunt_base.specs.declared.duals.Case.{Case}
use Rattle.shunt_instance.specs.defs.Instance.{Night, IsInstance, unit_total}
use Rattle.shunt_blocks.specs.declared.records.Block.{Block}
use Rattle.shunt_blocks.specs.defs.Shapes.{IsWithinTrains}
use Rattle.shunt_blocks.specs.defs.Blocks.{IsBlockButId}
use Rattle.shunt_blocks.specs.defs.Lists.{times_unit, ShareNothing, IsFeasible, RunsThrough, total_cost, placed}
use Rattle.shunt_blocks.specs.defs.Pins.{IsKept, Keeps, without_id}
use Rattle.shunt_choices.specs.defs.Paths.{masks_of, next_of}
use Rattle.shunt_choices.specs.defs.Choices.{Choice, IsChoice, IsChoiceAt, chosen, longer_by}
use Rattle.shunt_choices.proofs.Given.{PlaceLaws, FewerLaw}
use Rattle.shunt_choices.proofs.Trails.{length_units}
use Rattle.shunt_choices.proofs.Grown.{next_is, grown_apart, choice_free}
use Rattle.shunt_choices.proofs.Partial.{next_unit}
use Rattle.shunt_prices.specs.defs.Limits.{AreDuals, IsCase, AreCases, case_at, from_of, plain}
use Rattle.shunt_prices.specs.defs.Cases.{IsFreeBlock, CasesHold}
use Rattle.shunt_prices.specs.defs.Bounds.{case_sum, unparked_in, IsOpenAt, IsCasesBound}
use Rattle.shunt_prices.proofs.Signed.{round_up}
use Rattle.shunt_prices.proofs.Capacity.{RunLaws, placed_fit}
use Rattle.shunt_prices.proofs.Room.{StayLaw}
use Rattle.shunt_prices.proofs.Longer.{cases_stay, unit_mask}
use Rattle.shunt_prices.proofs.RisingBounds.{was_open, sums_rise}
use Rattle.shunt_prices.proofs.Whole.{whole_sum}
use Rattle.shunt_prices.proofs.Dual.{kept_blocks, path_covers, costs_less}
use Rattle.shunt_lists.proofs.Members.{each_one}
use Rattle.shunt_blocks.proofs.Shapes.{all_within, but_ids}

-- what more the laws of the crates below say
abbrev pub PartLaw : Type 0
PartLaw = (night : Night) (blocks others : List Block) → IsInstance night → All (IsWithinTrains night) blocks → ShareNothing night blocks → All (IsWithinTrains night) others
    → ShareNothing night others
    → ((c : Block) → In c others → (b : Block) × In b blocks × (without_id b ≡ without_id c)) → RunsThrough night (placed blocks) → RunsThrough night (placed others)

pub record PlanLaws : Type 0 where
  pub runs : RunLaws
  pub places : PlaceLaws
  pub to : StayLaw
  pub fewer : FewerLaw
  pub few : (night : Night) (blocks : List Block) → All (IsWithinTrains night) blocks → ShareNothing night blocks → length blocks ≤ unit_total night
  pub units_few : (night : Night) → IsInstance night → unit_total night ≤ 160
  pub part : PartLaw
  pub apart : (night : Night) (blocks : List Block) → IsFeasible night blocks → ShareNothing night blocks
  pub renumbered : (night : Night) (blocks : List Block) → IsInstance night → IsFeasible night blocks → IsFeasible night (placed blocks)
  pub held : (night : Night) (plan path : List Block) (u : ℕ) → IsInstance night → IsFeasible night plan → ShareNothing night path → Keeps plan path
      → next_of (masks_of night path) ≡ Some u
      → (c : Choice) × IsChoiceAt night path c × Keeps plan (longer_by path c) × RunsThrough night (placed (longer_by path c))

module _ (laws : PlanLaws) (night : Night) (i : IsInstance night) (plan : List Block) (h : IsFeasible night plan) (cases : List Case) where
  -- a path of the plan's blocks that covers the night, and at which no case has a lesser sum
  pub record IsEnd (path end : List Block) : Type 0 where
    pub apart : ShareNothing night end
    pub keeps : Keeps plan end
    pub full : (u : ℕ) → u < unit_total night → 1 ≤ times_unit night end u
    pub sums : (k : ℕ) → k < length cases → case_sum night path cases k ≤ℤ case_sum night end cases k
    pub opens : (k : ℕ) → IsOpenAt cases end k → IsOpenAt cases path k

  within : (path : List Block) → Keeps plan path → All (IsWithinTrains night) path
  within path keeps = all_within night path (kept_blocks night plan path (but_ids night plan h.each) keeps)

  all_taken : (path : List Block) → next_of (masks_of night path) ≡ None → (u : ℕ) → u < unit_total night → 1 ≤ times_unit night path u
  all_taken path e u lt = some (times_unit night path u) (ap not (sym (unit_mask laws.places night path u lt))
      ∙ none_passes (λ c. not c) (masks_of night path).units u true e (omega (arith, lt, length_units night path)))
    where
      some : (n : ℕ) → not (not (n == 0)) ≡ false → 1 ≤ n
      some n t = grind (arith, nat_tests)

  module _ (path : List Block) (apart : ShareNothing night path) (keeps : Keeps plan path) (hold : CasesHold night path cases) (u : ℕ) (c : Choice)
      (at : IsChoice night (masks_of night path) u c) (through : RunsThrough night (placed (longer_by path c))) where
    abbrev last : Block
    last = chosen (length path + 1) c

    longer_apart : ShareNothing night (longer_by path c)
    longer_apart = grown_apart night path last apart (choice_free laws.places night path u (length path + 1) c at)

    free : IsFreeBlock night (masks_of night path) c.shape c.option
    free = record { shape = record { shape = at.shape.shape; first = refl; units = at.shape.units; positions = at.shape.positions }; option = at.option }

    extended : (end : List Block) → IsEnd (longer_by path c) end → IsEnd path end
    extended end is = record {
      apart = is.apart;
      keeps = is.keeps;
      full = is.full;
      sums = λ k lt. omega (arith, ints, is.sums k lt, sums_rise laws.runs laws.places laws.to night i path last (within path keeps) apart free through cases k hold lt);
      opens = λ k o. was_open cases path last k (is.opens k o);
    }

  here : (path : List Block) → ShareNothing night path → Keeps plan path → next_of (masks_of night path) ≡ None → (end : List Block) × IsEnd path end
  here path apart keeps e = (path, record { apart = apart; keeps = keeps; full = all_taken path e; sums = λ k lt. omega (arith, ints); opens = λ k o. o })

  full_length : (path : List Block) (u : ℕ) → ShareNothing night path → Keeps plan path → next_of (masks_of night path) ≡ Some u → length path < unit_total night
  full_length path u apart keeps e = let next = next_is night path u e in laws.fewer night path u (within path keeps) apart next.there next.free

  further : (path : List Block) (u : ℕ) → ShareNothing night path → Keeps plan path → CasesHold night path cases → next_of (masks_of night path) ≡ Some u
      → ((longer : List Block) → length longer ≡ length path + 1 → ShareNothing night longer → Keeps plan longer → CasesHold night longer cases
      → (end : List Block) × IsEnd longer end)
      → (end : List Block) × IsEnd path end
  further path u apart keeps hold e known =
      let x = laws.held night plan path u i h apart keeps e in
      let at = next_unit night path x.0 x.1 in
      let rest = known (longer_by path x.0) (length-append path (last path apart keeps hold at.0 x.0 at.2 x.3 ∷ [])) (longer_apart path apart keeps hold at.0 x.0 at.2 x.3) x.2
      (cases_stay laws.places night path (chosen (length path + 1) x.0) cases hold) in
      (rest.0, extended path apart keeps hold at.0 x.0 at.2 x.3 rest.0 rest.1)

  next : (o : Option ℕ) (path : List Block) → next_of (masks_of night path) ≡ o → (next_of (masks_of night path) ≡ None → (end : List Block) × IsEnd path end)
      → ((u : ℕ) → next_of (masks_of night path) ≡ Some u → (end : List Block) × IsEnd path end) → (end : List Block) × IsEnd path end
  next None path e none some = none e
  next (Some u) path e none some = some u e

  pub ends : (n : ℕ) (path : List Block) → unit_total night ≤ length path + n → ShareNothing night path → Keeps plan path → CasesHold night path cases
      → (end : List Block) × IsEnd path end
  ends zero path le apart keeps hold = next (next_of (masks_of night path)) path refl (λ e. here path apart keeps e)
      (λ u e. absurd (omega (arith, le, full_length path u apart keeps e)))
  ends (suc n) path le apart keeps hold = next (next_of (masks_of night path)) path refl (λ e. here path apart keeps e)
      (λ u e. further path u apart keeps hold e (λ longer more apart_too keeps_too hold_too. ends n longer (omega (arith, le, more)) apart_too keeps_too hold_too))

  -- ---- the case that speaks of that many unparked blocks

  record IsOfCase (n k : ℕ) : Type 0 where
    there : k < length cases
    from : from_of cases k ≤ n
    to : n ≤ (case_at cases k).to

  case_of : (n : ℕ) → AreCases night cases → n ≤ 160 → (k : ℕ) × IsOfCase n k
  case_of n are few = ⊎_elim
      (λ more. ⊎_elim (λ one. absurd (omega (arith, more, few, at_last 1 one))) (λ other. let two : length cases
      ≡ 2 = omega (arith, are.some, are.few, one_or_more other) in (
        1,
        record {
          there = omega (arith, two);
          from = omega (arith, more);
          to = omega
              (arith, few, at_last 2 two);
        },
      )) (cases_eq (length cases) 1))
      (λ le. (0, record { there = omega (arith, are.some); from = omega arith; to = le }))
      (cases_lt (case_at cases 0).to n)
    where
      at_last : (m : ℕ) → length cases ≡ m → (case_at cases (m - 1)).to ≡ 160
      at_last m e = subst (λ (l : ℕ). (case_at cases (l - 1)).to ≡ 160) e are.last

      one_or_more : (length cases ≡ 1 → ⊥) → 2 ≤ length cases
      one_or_more other = ⊎_elim (λ less. absurd (other (omega (arith, less, are.some)))) (λ le. le) (cases_lt (length cases) 2)

  -- ---- the end is a plan of its own

  module _ (end : List Block) (apart : ShareNothing night end) (keeps : Keeps plan end) (full : (u : ℕ) → u < unit_total night → 1 ≤ times_unit night end u) where
    fits : All (IsBlockButId night) end
    fits = kept_blocks night plan end (but_ids night plan h.each) keeps

    through : RunsThrough night (placed end)
    through = laws.part night plan end i (all_within night plan (but_ids night plan h.each)) (laws.apart night plan h) (within end keeps) apart
        (λ b there. let k = each_one (IsKept plan) end b keeps there in (k.block, k.there, k.same)) (laws.renumbered night plan i h).through

    few_unparked : unparked_in end ≤ 160
    few_unparked = omega (arith, count_by-le-length (λ (b : Block). is_none b.park) end, laws.few night end (within end keeps) apart, laws.units_few night i)

    end_sum : (k : ℕ) → AreCases night cases → IsOfCase (unparked_in end) k → case_sum night end cases k ≤ℤ pos (1000 * total_cost night plan)
    end_sum k are of =
        let c = are.each k _ of.there in
        let sum = whole_sum laws.places night end (path_covers laws.places night plan end (but_ids night plan h.each) h.covers keeps apart full) (from_of cases k) (case_at cases k)
        (λ j d lt. placed_fit laws.runs night end _ i fits apart through (c.duals.prices.each j d lt)) of.from of.to in
        omega (arith, ints, sum, costs_less night plan end fits apart keeps)

  -- ---- the bound

  pub bound_below : (path : List Block) (bound : ℤ) → ShareNothing night path → Keeps plan path → AreCases night cases → CasesHold night path cases
      → IsCasesBound night path cases bound → bound ≤ℤ pos (total_cost night plan)
  bound_below path bound apart keeps are hold is =
      let e = ends (unit_total night) path (omega arith) apart keeps hold in
      let k = case_of (unparked_in e.0) are (few_unparked e.0 e.1.apart e.1.keeps e.1.full) in
      let own = round_up (case_sum night path cases k.0) in
      let opens : IsOpenAt cases e.0 k.0 = record {
        there = k.1.there;
        opens = or_right (k.0 + 1 == length cases) (nat_le (unparked_in e.0) (case_at cases k.0).to)
            (passes (unparked_in e.0) (case_at cases k.0).to k.1.to);
      } in
      omega (arith, ints, is.least k.0 own.0 (e.1.opens k.0 opens) own.1, own.1.least, e.1.sums k.0 k.1.there, end_sum e.0 e.1.apart e.1.keeps e.1.full k.0 are k.1)
    where
      passes : (m n : ℕ) → m ≤ n → nat_le m n ≡ true
      passes m n le = grind (arith, nat_tests)

-- plain duals are one case
pub one_case : (night : Night) (d : Duals) → AreDuals night d → AreCases night (plain d)
one_case night d are = record {
  some = omega arith;
  few = omega arith;
  each = all_one (IsCase night) (record { to = 160; multiplier = pos 0; duals = d })
      (record { to = omega arith; multiplier = record { low = omega (arith, ints); high = omega (arith, ints) }; duals = are });
  rise = λ i j e lt within. absurd (omega (arith, lt, within));
  last = refl;
}
