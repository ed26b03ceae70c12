-- Sums of choices with stacks, and what they are at least.
use Rattle.std.specs.Prelude.{IsTrue, ◌↔◌, ◌≤ℤ◌, ◌-ℤ◌, Bool, true, false, Option, Some, None}
use Rattle.std.proofs.Common.{◌≡◌, ⊎_elim, ℕ, ◌+◌, ◌*◌, ◌≤◌, List, [], ◌∷◌, ◌++◌, length, ℤ, pos, ◌+ℤ◌, refl, sym, subst, ◌∙◌, arith}
use Rattle.std.proofs.lemmas.Int.{ints}
use Rattle.std.proofs.lemmas.Bool.{cases_eq}
use Rattle.shunt_base.specs.declared.duals.Case.{Case}
use Rattle.shunt_instance.specs.defs.Instance.{Night}
use Rattle.shunt_blocks.specs.declared.records.Block.{Block}
use Rattle.shunt_blocks.specs.declared.records.Shape.{Shape}
use Rattle.shunt_blocks.specs.declared.records.Park.{Park}
use Rattle.shunt_blocks.specs.defs.Blocks.{IsOption}
use Rattle.shunt_blocks.specs.defs.Lists.{RunsThrough, placed}
use Rattle.shunt_choices.specs.defs.Choices.{Choice as PathChoice, longer_by, chosen}
use Rattle.shunt_prices.specs.defs.Limits.{case_at}
use Rattle.shunt_prices.specs.defs.Bounds.{IsOpenAt, case_sum}
use Rattle.shunt_prices.specs.defs.Sums.{sum_z}
use Rattle.shunt_prices.specs.defs.Cases.{weight_with, duals_over}
use Rattle.shunt_stacks.specs.defs.Stacks.{Stack, stack_of}
use Rattle.shunt_stacks.specs.defs.Fillings.{gain, IsStackGain}
use Rattle.shunt_stacks.specs.defs.Bounds.{AreStackGains, IsFall, IsStackSum, IsChoiceSum}
use Rattle.shunt_proof.specs.declared.records.Version.TheVariants.{Stacks}
use Rattle.shunt_proof.specs.declared.records.Choice.{Choice}
use Rattle.shunt_proof.specs.declared.records.Node.{Node}
use Rattle.shunt_checker.specs.defs.Lows.{IsLowIn, IsLowBy, offer_of}
use Rattle.shunt_checker.specs.defs.Children.{HasChild, said}
use Rattle.shunt_checker.specs.defs.Misses.{IsMissed}
use Rattle.shunt_checker.specs.defs.Tallies.{IsLone}
use Rattle.shunt_checker.proofs.Looked.{against, refuted}
use Rattle.shunt_checker.proofs.Twofold.{OpensFirst}
use Rattle.shunt_lists.proofs.Tests.{either_test}

-- ---- sums

-- the gains of all stacks taken from the sum of a case
pub stack_sum_is : (night : Night) (path : List Block) (cases : List Case) (k : ℕ) (sum total z : ℤ) → sum ≡ case_sum night path cases k
    → (gains : List ℤ) × AreStackGains night path (case_at cases k) gains × (total ≡ sum_z (λ x. x) gains) → z ≡ sum -ℤ total → IsStackSum night path cases k z
stack_sum_is night path cases k sum total z es g ez = record {
  gains = g.0;
  are = g.1;
  is = (let et = g.2 in omega (arith, ints, es, et, ez));
}

pub choice_sum_is : (night : Night) (path : List Block) (b : Block) (cases : List Case) (k : ℕ) (whole fall gained z : ℤ) → IsStackSum night path cases k whole
    → IsFall night path b (case_at cases k) (stack_of b.park) fall → gained ≡ gain night (case_at cases k) b → z ≡ whole +ℤ fall -ℤ gained → IsChoiceSum night path b cases k z
choice_sum_is night path b cases k whole fall gained z w f eg ez = record { whole = whole; is_whole = w; fall = fall; is_fall = f; is = omega (arith, ints, eg, ez) }

turned : (z whole weight over W O : ℤ) → weight ≡ W → over ≡ O → z ≡ whole +ℤ (weight -ℤ over) → z ≡ whole -ℤ (O -ℤ W)
turned z whole weight over W O ew eo ez = omega (arith, ints, ew, eo, ez)

pub lone_is : (night : Night) (path : List Block) (cases : List Case) (k : ℕ) (case : Case) (s : Shape) (park : Option Park) (whole w over z : ℤ) → case_at cases k ≡ case
    → IsStackSum night path cases k whole
    → w ≡ weight_with night case s park → over ≡ duals_over night (case_at cases k).duals s → z ≡ whole +ℤ (w -ℤ over) → IsLone night path cases k (offer_of s park) z
lone_is night path cases k case s park whole w over z ec is ew eo ez = record {
  whole = whole;
  is_whole = is;
  is = turned z whole w over (weight_with night (case_at cases k) s park) (duals_over night (case_at cases k).duals s)
      (subst (λ (x : Case). w ≡ weight_with night x s park) (sym ec) ew) eo ez;
}

-- ---- falls

-- what the laws say of one path and block
abbrev pub FallLaw : Night → List Block → Block → Type 0
FallLaw night path b = (c : Case) (stack : Stack) (before after : ℤ) → IsStackGain night path c stack before → IsStackGain night (path ++ b ∷ []) c stack after → after ≤ℤ before

-- no fall is below 0
no_rise : (night : Night) (path : List Block) (b : Block) (c : Case) → FallLaw night path b → (o : Option Stack) (fall : ℤ) → IsFall night path b c o fall → pos 0 ≤ℤ fall
no_rise night path b c law None fall is = omega (arith, ints, is)
no_rise night path b c law (Some stack) fall is =
    let le : is.1 ≤ℤ is.0 = law c stack is.0 is.1 is.2 is.3 in
    let e : fall ≡ is.0 -ℤ is.1 = is.4 in
    omega (arith, ints, le, e)

module _ (night : Night) (path : List Block) (cases : List Case) (L : ℕ) (c : PathChoice) where
  abbrev block : Block
  block = chosen (length path + 1) c

  abbrev StackLaw : Type 0
  StackLaw = (k : ℕ) (x y : ℤ) → IsStackSum night path cases k x → IsStackSum night path cases k y → x ≡ y

  abbrev ChoiceLaw : Type 0
  ChoiceLaw = (k : ℕ) (x y : ℤ) → IsChoiceSum night path block cases k x → IsChoiceSum night path block cases k y → x ≡ y

  -- a low choice is near
  near_in : FallLaw night path block → StackLaw → (k : ℕ) (lone : ℤ) → IsLone night path cases k c lone → IsLowIn Stacks night path cases L k c
      → (lone +ℤ pos 1000) ≤ℤ pos (1000 * L)
  near_in law one k lone l h =
      let same : l.whole ≡ h.is.whole = one k l.whole h.is.whole l.is_whole h.is.is_whole in
      let up = no_rise night path block (case_at cases k) law (stack_of c.option) h.is.fall h.is.is_fall in
      let e = h.is.is in
      let el = l.is in
      let low = h.low in
      omega (arith, ints, same, up, e, el, low)

  pub near : FallLaw night path block → StackLaw → (last : ℕ) (early late : ℤ) → length cases ≤ 2 → last + 1 ≡ length cases → IsLone night path cases 0 c early
      → IsLone night path cases last c late
      → (a b : Bool) → IsTrue a ↔ ((late +ℤ pos 1000) ≤ℤ pos (1000 * L)) → a ≡ false → IsTrue b ↔ ((early +ℤ pos 1000) ≤ℤ pos (1000 * L)) → b ≡ false
      → IsLowBy Stacks night path cases L c → ⊥
  near law one last early late few is el ll a b ta ea tb eb h = ⊎_elim
      (λ zero.
      let t : b ≡ true = tb.1 (near_in law one 0 early el (subst (λ (n : ℕ). IsLowIn Stacks night path cases L n c) zero h.is)) in
      let no : true ≡ false = sym t ∙ eb in
      cc)
      (λ other.
      let there = h.is.opens.there in
      let at : h.number ≡ last = omega (arith, there, few, is, other) in
      let t : a ≡ true = ta.1 (near_in law one last late ll (subst (λ (n : ℕ). IsLowIn Stacks night path cases L n c) at h.is)) in
      let no : true ≡ false = sym t ∙ ea in
      cc)
      (cases_eq h.number 0)

  -- the sum of a choice, from what it is at least
  pub low_at : ChoiceLaw → (k : ℕ) (lone fall z : ℤ) (b : Bool) → IsOpenAt cases (longer_by path c) k → IsLone night path cases k c lone
      → IsFall night path block (case_at cases k) (stack_of c.option) fall → z ≡ lone +ℤ fall
      → IsTrue b ↔ ((z +ℤ pos 1000) ≤ℤ pos (1000 * L)) → IsTrue b ↔ IsLowIn Stacks night path cases L k c
  low_at one k lone fall z b opens l f ez test =
      let el = l.is in
      let sum : IsChoiceSum night path block cases k z = record { whole = l.whole; is_whole = l.is_whole; fall = fall; is_fall = f; is = omega (arith, ints, el, ez) } in (
        λ t. record { opens = opens; sum = z; is = sum; low = test.0 t },
        λ h. test.1 (subst (λ (x : ℤ). (x +ℤ pos 1000) ≤ℤ pos (1000 * L)) (one k h.sum z h.is sum) h.low),
      )

  module _ (last : ℕ) (few : length cases ≤ 2) (is : last + 1 ≡ length cases) (a : Bool) (late : IsTrue a ↔ IsLowIn Stacks night path cases L last c) where
    pub low_last : a ≡ true → IsTrue true ↔ IsLowBy Stacks night path cases L c
    low_last t = (λ u. record { number = last; is = late.0 t }, λ h. refl)

    module _ (e : a ≡ false) where
      not_last : (h : IsLowBy Stacks night path cases L c) → (h.number ≡ last → ⊥)
      not_last h same =
          let t : a ≡ true = late.1 (subst (λ (n : ℕ). IsLowIn Stacks night path cases L n c) same h.is) in
          let no : true ≡ false = sym t ∙ e in
          cc

      first_of_two : (h : IsLowBy Stacks night path cases L c) → (h.number ≡ 0) × (2 ≤ length cases)
      first_of_two h = let never = not_last h in let there = h.is.opens.there in (omega (arith, never, there, few, is), omega (arith, never, there, few, is))

      pub low_shut : (OpensFirst cases (longer_by path c) → ⊥) → IsTrue false ↔ IsLowBy Stacks night path cases L c
      low_shut shut = (
        λ (t : false ≡ true). cc,
        λ h.
            let two = first_of_two h in
            let opened = subst (λ (n : ℕ). IsOpenAt cases (longer_by path c) n) two.0 h.is.opens in
            absurd (shut (
              two.1,
              ⊎_elim
                  (λ (one : 0 + 1 ≡ length cases). absurd (let many = two.1 in omega (arith, one, many)))
                  (λ le. le)
                  (either_test (0 + 1) (length cases) _ (case_at cases 0).to opened.opens),
            )),
      )

      pub low_first : (b : Bool) → IsTrue b ↔ IsLowIn Stacks night path cases L 0 c → IsTrue b ↔ IsLowBy Stacks night path cases L c
      low_first b test = (
        λ t. record { number = 0; is = test.0 t },
        λ h. test.1 (subst (λ (n : ℕ). IsLowIn Stacks night path cases L n c) (first_of_two h).0 h.is),
      )

-- ---- what a branch would have to list

module _ (night : Night) (path : List Block) (cases : List Case) (nodes : List Node) (k L : ℕ) (c : PathChoice) where
  pub far_off : (IsLowBy Stacks night path cases L c → ⊥) → IsTrue false ↔ IsMissed Stacks night path cases nodes k L c
  far_off never = refuted (IsMissed Stacks night path cases nodes k L c) (λ h. never h.low)

  pub stopped_run : (b : Bool) → IsTrue b ↔ RunsThrough night (placed (longer_by path c)) → b ≡ false → IsTrue false ↔ IsMissed Stacks night path cases nodes k L c
  stopped_run b test e = refuted (IsMissed Stacks night path cases nodes k L c) (λ h. against b (RunsThrough night (placed (longer_by path c))) test e h.through)

  pub omitted_is : IsOption night c.shape c.option → (choice : Choice) → choice ≡ said c → (h : Bool) → IsTrue h ↔ HasChild nodes k choice → h ≡ false
      → RunsThrough night (placed (longer_by path c))
      → (b : Bool) → IsTrue b ↔ IsLowBy Stacks night path cases L c → IsTrue b ↔ IsMissed Stacks night path cases nodes k L c
  omitted_is option choice is h child eh through b low = (
    λ t. record { option = option; low = low.0 t; unlisted = λ x. against h (HasChild nodes k choice) child eh (subst (HasChild nodes k) (sym is) x); through = through },
    λ m. low.1 m.low,
  )
