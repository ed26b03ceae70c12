-- Cases that hold at the empty path hold at a path whose run goes through, and no sum is less there.
use Rattle.std.specs.Prelude.{All, cond, ◌≤ℤ◌}
use Rattle.std.proofs.Common.{◌≡◌, inl, ℕ, ◌<◌, ◌≤◌, true, List, [], ◌∷◌, ◌++◌, length, ℤ, refl, sym, subst, ap, arith}
use Rattle.std.proofs.lemmas.Int.{ints}
use Rattle.std.proofs.lemmas.Bool.Decides.{nat_tests}
use Rattle.std.proofs.lemmas.List.{append-nil, append_assoc}
use Rattle.std.proofs.lemmas.List.Sums.{sum_by-append}
use Rattle.shunt_lists.specs.defs.Members.{In}
use Rattle.shunt_lists.proofs.Members.{in_left, in_right, each_one as of_all, to_all}
use Rattle.shunt_base.specs.declared.duals.Case.{Case}
use Rattle.shunt_instance.specs.defs.Instance.{Night, IsInstance}
use Rattle.shunt_blocks.specs.declared.records.Block.{Block}
use Rattle.shunt_blocks.specs.defs.Shapes.{shape_of, IsWithinTrains}
use Rattle.shunt_blocks.specs.defs.Blocks.{IsBlockButId}
use Rattle.shunt_blocks.specs.defs.Lists.{has_unit, has_position, ShareNothing, RunsThrough, placed}
use Rattle.shunt_blocks.specs.defs.Pins.{without_id}
use Rattle.shunt_choices.specs.defs.Paths.{masks_of}
use Rattle.shunt_choices.proofs.Given.{PlaceLaws}
use Rattle.shunt_choices.proofs.Masks.{unit_more, position_more}
use Rattle.shunt_choices.proofs.Trails.{front_apart}
use Rattle.shunt_choices.proofs.Grown.{IsFreeBlock as IsNewBlock, free_choice}
use Rattle.shunt_prices.specs.defs.Cases.{IsFreeBlock, CasesHold}
use Rattle.shunt_prices.specs.defs.Bounds.{case_sum, IsCasesBound}
use Rattle.shunt_blocks.proofs.Shapes.{all_within}

-- what the laws of the crates below say
pub record CarryLaws : Type 0 where
  pub places : PlaceLaws
  pub part : (night : Night) (blocks others : List Block) → IsInstance night → All (IsWithinTrains night) blocks → ShareNothing night blocks → All (IsWithinTrains night) others
      → ShareNothing night others
      → ((c : Block) → In c others → (b : Block) × In b blocks × (without_id b ≡ without_id c)) → RunsThrough night (placed blocks) → RunsThrough night (placed others)
  pub hold : (night : Night) (path : List Block) (b : Block) (cases : List Case) → CasesHold night path cases → CasesHold night (path ++ b ∷ []) cases
  pub sum : (night : Night) (path : List Block) (b : Block) (cases : List Case) (k : ℕ) → IsInstance night → All (IsWithinTrains night) path → ShareNothing night path
      → IsFreeBlock night (masks_of night path) (shape_of b) b.park
      → RunsThrough night (placed (path ++ b ∷ [])) → CasesHold night path cases → k < length cases → case_sum night path cases k ≤ℤ case_sum night (path ++ b ∷ []) cases k
  pub bound : (night : Night) (path : List Block) (b : Block) (cases : List Case) (before after : ℤ) → IsInstance night → All (IsWithinTrains night) path → ShareNothing night path
      → IsFreeBlock night (masks_of night path) (shape_of b) b.park
      → RunsThrough night (placed (path ++ b ∷ [])) → CasesHold night path cases → IsCasesBound night path cases before → IsCasesBound night (path ++ b ∷ []) cases after
      → before ≤ℤ after
  pub of_cases : (night : Night) (path : List Block) (cases : List Case) → 1 ≤ length cases → (bound : ℤ) × IsCasesBound night path cases bound
  pub one_of_cases : (night : Night) (path : List Block) (cases : List Case) (bound other : ℤ) → IsCasesBound night path cases bound → IsCasesBound night path cases other
      → bound ≡ other

in_turn : (x y z : ℤ) → x ≤ℤ y → y ≤ℤ z → x ≤ℤ z
in_turn x y z first second = omega (arith, ints, first, second)

itself : (x : ℤ) → x ≤ℤ x
itself x = omega (arith, ints)

front_shares : (night : Night) (xs ys : List Block) → ShareNothing night (xs ++ ys) → ShareNothing night xs
front_shares night xs ys apart = record {
  units = λ u. omega (arith, apart.units u, sum_by-append (λ (c : Block). cond (has_unit night (shape_of c) u) 1 0) xs ys);
  positions = λ v. omega (arith, apart.positions v, sum_by-append (λ (c : Block). cond (has_position night (shape_of c) v) 1 0) xs ys);
}

last_new : (night : Night) (blocks : List Block) (b : Block) → ShareNothing night (blocks ++ b ∷ []) → IsNewBlock night blocks b
last_new night blocks b apart = record {
  units = λ w has. let on : has_unit night (shape_of b) w ≡ true = grind (arith, nat_tests, has.from, has.to) in let one : cond (has_unit night (shape_of b) w) 1 0
      ≡ 1 = ap {B = ℕ} (λ t. cond t 1 0) on in omega (arith, apart.units w, unit_more night blocks b w, one);
  positions = λ v has. let on : has_position night (shape_of b) v ≡ true = grind (arith, nat_tests, has.from, has.to) in let one : cond (has_position night (shape_of b) v) 1 0
      ≡ 1 = ap {B = ℕ} (λ t. cond t 1 0) on in omega (arith, apart.positions v, position_more night blocks b v, one);
}

-- what a path with one more block rises to
abbrev RisesBy : Night → List Case → (List Block → List Block → Type 0) → Type 0
RisesBy night cases Rise = (path : List Block) (b : Block) → All (IsWithinTrains night) path → ShareNothing night path → IsFreeBlock night (masks_of night path) (shape_of b) b.park
    → RunsThrough night (placed (path ++ b ∷ [])) → CasesHold night path cases → Rise path (path ++ b ∷ [])

module _ (laws : CarryLaws) (night : Night) (i : IsInstance night) (cases : List Case) (Rise : List Block → List Block → Type 0) (same : (xs : List Block) → Rise xs xs)
    (join : (xs ys zs : List Block) → Rise xs ys → Rise ys zs → Rise xs zs) (more : RisesBy night cases Rise) where
  step : (front : List Block) (b : Block) → All (IsBlockButId night) (front ++ b ∷ []) → ShareNothing night (front ++ b ∷ []) → RunsThrough night (placed (front ++ b ∷ []))
      → CasesHold night front cases → Rise front (front ++ b ∷ [])
  step front b fits apart through hold =
      let own = of_all (IsBlockButId night) (front ++ b ∷ []) b fits (in_right front (b ∷ []) b (inl refl)) in
      let before = to_all (IsBlockButId night) front (λ x j. of_all (IsBlockButId night) (front ++ b ∷ []) x fits (in_left front (b ∷ []) x j)) in
      let choice = free_choice laws.places night front b own (last_new night front b apart) in
      more front b (all_within night front before) (front_apart night front b apart) (record { shape = choice.shape; option = choice.option }) through hold

  carried : (rest front : List Block) → All (IsBlockButId night) (front ++ rest) → ShareNothing night (front ++ rest) → RunsThrough night (placed (front ++ rest))
      → CasesHold night front cases → CasesHold night (front ++ rest) cases × Rise front (front ++ rest)
  carried [] front fits apart through hold = subst (λ (l : List Block). CasesHold night l cases × Rise front l) (sym (append-nil front)) (hold, same front)
  carried (b ∷ rest) front fits apart through hold =
      let e : (front ++ b ∷ []) ++ rest ≡ front ++ b ∷ rest = append_assoc front (b ∷ []) rest in
      let all_fit = subst (λ (l : List Block). All (IsBlockButId night) l) (sym e) fits in
      let all_apart = subst (λ (l : List Block). ShareNothing night l) (sym e) apart in
      let all_through = subst (λ (l : List Block). RunsThrough night (placed l)) (sym e) through in
      let next_fit = to_all (IsBlockButId night) (front ++ b ∷ []) (λ x j. of_all (IsBlockButId night) ((front ++ b ∷ []) ++ rest) x all_fit
      (in_left (front ++ b ∷ []) rest x j)) in
      let next_apart = front_shares night (front ++ b ∷ []) rest all_apart in
      let next_through = laws.part night ((front ++ b ∷ []) ++ rest) (front ++ b ∷ []) i (all_within night ((front ++ b ∷ []) ++ rest) all_fit) all_apart
      (all_within night (front ++ b ∷ []) next_fit) next_apart
      (λ x j. (x, in_left (front ++ b ∷ []) rest x j, refl)) all_through in
      let first = step front b next_fit next_apart next_through hold in
      let rises = carried rest (front ++ b ∷ []) all_fit all_apart all_through (laws.hold night front b cases hold) in
      subst (λ (l : List Block). CasesHold night l cases × Rise front l) e (rises.0, join front (front ++ b ∷ []) ((front ++ b ∷ []) ++ rest) first rises.1)

module _ (laws : CarryLaws) (night : Night) (i : IsInstance night) (cases : List Case) where
  pub sums_carried : (k : ℕ) → k < length cases → (path : List Block) → All (IsBlockButId night) path → ShareNothing night path → RunsThrough night (placed path)
      → CasesHold night [] cases
      → CasesHold night path cases × (case_sum night [] cases k ≤ℤ case_sum night path cases k)
  sums_carried k lt path fits apart through hold = carried laws night i cases (λ xs ys. case_sum night xs cases k ≤ℤ case_sum night ys cases k)
      (λ xs. itself (case_sum night xs cases k)) (λ xs ys zs first second. in_turn (case_sum night xs cases k) (case_sum night ys cases k) (case_sum night zs cases k) first second)
      (λ xs b within alone free go holds. laws.sum night xs b cases k i within alone free go holds lt) path [] fits apart through hold

  -- a bound at the second list is no less than one at the first
  abbrev Bounds : List Block → List Block → Type 0
  Bounds xs ys = (x y : ℤ) → IsCasesBound night xs cases x → IsCasesBound night ys cases y → x ≤ℤ y

  equal : (x y : ℤ) → x ≡ y → x ≤ℤ y
  equal x y e = omega (arith, ints, e)

  pub bounds_carried : 1 ≤ length cases → (rest front : List Block) → All (IsBlockButId night) (front ++ rest) → ShareNothing night (front ++ rest)
      → RunsThrough night (placed (front ++ rest)) → CasesHold night front cases → Bounds front (front ++ rest)
  bounds_carried some rest front fits apart through hold = (carried laws night i cases Bounds
      (λ xs x y now then. equal x y (laws.one_of_cases night xs cases x y now then))
      (λ xs ys zs first second x z now then. let between = laws.of_cases night ys cases some in in_turn x between.0 z (first x between.0 now between.1)
      (second between.0 z between.1 then))
      (λ xs b within alone free go holds x y now then. laws.bound night xs b cases x y i within alone free go holds now then) rest front fits apart through hold).1
