-- A feasible plan that keeps pins gives a matching of what they leave: each unit goes to the position at its place in its block.
use Rattle.std.specs.Prelude.{map, ◌==◌, ◌&&◌, not, cond, count_by}
use Rattle.std.specs.List.{range_with_len}
use Rattle.std.proofs.Common.{◌≡◌, inl, inr, ⊎_elim, ℕ, ◌+◌, ◌-◌, ◌<◌, ◌≤◌, Bool, true, false, List, [], ◌∷◌, length, refl, sym, ap, subst, ◌∙◌, arith}
use Rattle.std.proofs.lemmas.Bool.{true≢false, cases_lt}
use Rattle.std.proofs.lemmas.Bool.Decides.{nat_tests}
use Rattle.std.proofs.lemmas.List.{length-map}
use Rattle.std.proofs.lemmas.List.Sums.{sum_by-cons}
use Rattle.std.proofs.lemmas.List.FromFn.{get_or-map-range_with_len, length-map-range_with_len}
use Rattle.shunt_lists.proofs.CountsBelow.{count_below-one}
use Rattle.shunt_lists.specs.defs.Members.{In}
use Rattle.shunt_instance.specs.defs.Instance.{Night, units_of, positions_of, unit_total, position_total}
use Rattle.shunt_instance.specs.defs.Matching.{entry_at, is_in_rest, IsMatchable, IsOfRest, place_of, times_given, unit_entries, position_entries}
use Rattle.shunt_instance.proofs.Facts.{unit_entry_is, position_entry_is}
use Rattle.shunt_blocks.specs.declared.records.Shape.{Shape}
use Rattle.shunt_blocks.specs.declared.records.Block.{Block}
use Rattle.shunt_blocks.specs.defs.Shapes.{shape_of, unit_from, position_from, unit_entry, IsPair, HasUnit, HasPosition}
use Rattle.shunt_blocks.specs.defs.Blocks.{IsBlockButId}
use Rattle.shunt_blocks.specs.defs.Lists.{has_unit, has_position, times_unit, times_position, units_taken, positions_taken, IsFeasible}
use Rattle.shunt_blocks.specs.defs.Pins.{IsKept, Keeps}
use Rattle.shunt_blocks.proofs.Held.{held, holder, one_holder}
use Rattle.shunt_choices.proofs.Given.{PlaceLaws}
use Rattle.shunt_matching.specs.defs.Nights.{MatchesRest}
use Rattle.shunt_lists.proofs.Members.{each_one}
use Rattle.shunt_lists.proofs.Tests.{equal_of, equal_to}
use Rattle.shunt_blocks.proofs.Shapes.{has_from, has_position_from, position_to, unit_to, but_ids}

-- ---- masks

is_left : (times : ℕ → ℕ) (n k : ℕ) → k < n → is_in_rest (map (λ i. not (times i == 0)) (range_with_len 0 n)) k ≡ not (not (times k == 0))
is_left times n k lt = ap not (get_or-map-range_with_len (λ i. not (times i == 0)) 0 n k k false lt (omega arith))

no_times : (t : ℕ) → not (not (t == 0)) ≡ true → t ≡ 0
no_times t e = at (t == 0) refl
  where
    at : (b : Bool) → (t == 0) ≡ b → t ≡ 0
    at true h = grind (arith, nat_tests, h)
    at false h = absurd (true≢false (sym e ∙ ap (λ b. not (not b)) h))

none_left_out : (times : ℕ → ℕ) (n k : ℕ) → k < n → is_in_rest (map (λ i. not (times i == 0)) (range_with_len 0 n)) k ≡ true → times k ≡ 0
none_left_out times n k lt e = no_times (times k) (sym (is_left times n k lt) ∙ e)

left_in : (times : ℕ → ℕ) (n k : ℕ) → k < n → times k ≡ 0 → is_in_rest (map (λ i. not (times i == 0)) (range_with_len 0 n)) k ≡ true
left_in times n k lt none = is_left times n k lt ∙ ap (λ t. not (not (t == 0))) none

second : (a b : Bool) → (a && b) ≡ true → b ≡ true
second true b e = e
second false b e = absurd (true≢false (sym e))

-- ---- the position of a unit

abbrev partner_in : Night → ℕ → Block → ℕ
partner_in night u b = position_from night (shape_of b) + (u - unit_from night (shape_of b))

pub partner : Night → List Block → ℕ → ℕ
partner night [] u = 0
partner night (b ∷ blocks) u = cond (has_unit night (shape_of b) u) (partner_in night u b) (partner night blocks u)

-- a block that has the unit, whose position is the one at its place there
record IsHeld (night : Night) (blocks : List Block) (u : ℕ) : Type 0 where
  block : Block
  there : In block blocks
  has : has_unit night (shape_of block) u ≡ true
  is : partner night blocks u ≡ partner_in night u block

found : (night : Night) (blocks : List Block) (u : ℕ) → 1 ≤ times_unit night blocks u → IsHeld night blocks u
unfolding partner
found night [] u some = absurd (omega (arith, some))
found night (b ∷ blocks) u some = at (has_unit night (shape_of b) u) refl (λ more. found night blocks u more)
  where
    at : (t : Bool) → has_unit night (shape_of b) u ≡ t → (1 ≤ times_unit night blocks u → IsHeld night blocks u) → IsHeld night (b ∷ blocks) u
    at true e later = record { block = b; there = inl refl; has = e; is = ap {B = ℕ} (λ t. cond t (partner_in night u b) (partner night blocks u)) e }
    at false e later =
        let none : cond (has_unit night (shape_of b) u) 1 0 ≡ 0 = ap {B = ℕ} (λ t. cond t 1 0) e in
        let more = sum_by-cons (λ c. cond (has_unit night (shape_of c) u) 1 0) b blocks in
        let h = later (omega (arith, some, more, none)) in
        record { block = h.block; there = inr h.there; has = h.has; is = ap {B = ℕ} (λ t. cond t (partner_in night u b) (partner night blocks u)) e ∙ h.is }

partner_there : (night : Night) (u : ℕ) (b : Block) → HasUnit night (shape_of b) u → HasPosition night (shape_of b) (partner_in night u b)
partner_there night u b has = record { from = omega arith; to = omega (arith, has.from, has.to) }

-- ---- what pins have

-- where no pin passes one test, none passes another that one block of the plan alone passes, which passes both
other_free : (pins blocks : List Block) → Keeps blocks pins → (F G : Shape → Bool) (b : Block) → count_by (λ c. G (shape_of c)) blocks ≤ 1 → In b blocks → F (shape_of b) ≡ true
    → G (shape_of b) ≡ true
    → count_by (λ c. F (shape_of c)) pins ≡ 0 → count_by (λ c. G (shape_of c)) pins ≡ 0
other_free pins blocks keeps F G b few there f g none = ⊎_elim
    (λ lt. omega (arith, lt))
    (λ le.
    let of = holder (λ c. G (shape_of c)) pins le in
    let kept = each_one (IsKept blocks) pins of.0 keeps of.1 in
    let shapes : shape_of kept.block ≡ shape_of of.0 = ap (λ (c : Block). shape_of c) kept.same in
    let too : G (shape_of kept.block) ≡ true = ap G shapes ∙ of.2 in
    let same : b ≡ kept.block = one_holder (λ c. G (shape_of c)) blocks b kept.block few there kept.there g too in
    let its : F (shape_of of.0) ≡ true = ap F (sym shapes) ∙ ap (λ (c : Block). F (shape_of c)) (sym same) ∙ f in
    let some = held (λ c. F (shape_of c)) pins of.0 of.1 its in
    absurd (omega (arith, some, none)))
    (cases_lt (count_by (λ c. G (shape_of c)) pins) 1)

-- ---- the matching

module _ (places : PlaceLaws) (night : Night) (pins blocks : List Block) (feasible : IsFeasible night blocks) (keeps : Keeps blocks pins) where
  abbrev list : List ℕ
  list = map (partner night blocks) (range_with_len 0 (unit_total night))

  abbrev um : List Bool
  um = units_taken night pins

  abbrev vm : List Bool
  vm = positions_taken night pins

  units : length (unit_entries night) ≡ unit_total night
  units = length-map (units_of night.arrive) _

  positions : length (position_entries night) ≡ position_total night
  positions = length-map (positions_of night.depart) _

  -- the block of a unit, and the position that the list gives it
  record HasPlace (u : ℕ) : Type 0 where
    block : Block
    there : In block blocks
    fits : IsBlockButId night block
    has : HasUnit night (shape_of block) u
    place : place_of list u ≡ partner_in night u block
    goes : has_position night (shape_of block) (partner_in night u block) ≡ true
    below : partner_in night u block < position_total night

  has_place : (u : ℕ) → u < unit_total night → HasPlace u
  has_place u lt =
      let one = feasible.covers.units u lt in
      let h = found night blocks u (omega (arith, one)) in
      let fits = each_one (IsBlockButId night) blocks h.block (but_ids night blocks feasible.each) h.there in
      let has = has_from night h.block u h.has in
      let goes = partner_there night u h.block has in
      record {
        block = h.block;
        there = h.there;
        fits = fits;
        has = has;
        place = get_or-map-range_with_len (partner night blocks) 0 (unit_total night) u u 0 lt (omega arith) ∙ h.is;
        goes = position_to night h.block (partner_in night u h.block) goes;
        below = places.position_in night (shape_of h.block) (partner_in night u h.block) fits.shape.within goes;
      }

  given : (u : ℕ) → u < unit_total night → is_in_rest um u ≡ true → IsOfRest (position_entries night) vm (place_of list u)
  given u lt left =
      let x = has_place u lt in
      let v = partner_in night u x.block in
      let none = none_left_out (times_unit night pins) (unit_total night) u lt left in
      let one = feasible.covers.positions v x.below in
      let free = other_free pins blocks keeps (λ s. has_unit night s u) (λ s. has_position night s v) x.block (omega (arith, one)) x.there
      (unit_to night x.block u x.has) x.goes none in
      let below = x.below in
      subst (λ w. IsOfRest (position_entries night) vm w) (sym x.place)
      (record { there = omega (arith, below, positions); left = left_in (times_position night pins) (position_total night) v x.below free })

  serves : (u : ℕ) → u < unit_total night → IsMatchable (entry_at (unit_entries night) u) (entry_at (position_entries night) (place_of list u))
  serves u lt =
      let x = has_place u lt in
      let s = shape_of x.block in
      let k = u - unit_from night s in
      let from = x.has.from in
      let to = x.has.to in
      let at : unit_from night s + k ≡ u = omega (arith, from) in
      let pair : IsPair night u (partner_in night u x.block) = subst (λ (w : ℕ). IsPair night w (partner_in night u x.block)) at (x.fits.shape.pairs k (omega (arith, from, to))) in
      subst (λ v. IsMatchable (entry_at (unit_entries night) u) (entry_at (position_entries night) v)) (sym x.place)
      (subst (λ e. IsMatchable e (entry_at (position_entries night) (partner_in night u x.block))) (sym (unit_entry_is night u lt))
      (subst (λ e. IsMatchable (unit_entry night u) e) (sym (position_entry_is night (partner_in night u x.block) x.below)) pair))

  once : (v : ℕ) → v < position_total night → is_in_rest vm v ≡ true → times_given (unit_entries night) um list v ≡ 1
  once v lt left = count_below-one (length (unit_entries night)) (λ u. is_in_rest um u && (place_of list u == v)) first (omega (arith, first_in, units)) passes only
    where
      of : (b : Block) × In b blocks × (has_position night (shape_of b) v ≡ true)
      of = holder (λ b. has_position night (shape_of b) v) blocks (let one = feasible.covers.positions v lt in omega (arith, one))

      c : Block
      c = of.0

      fits : IsBlockButId night c
      fits = each_one (IsBlockButId night) blocks c (but_ids night blocks feasible.each) of.1

      goes : HasPosition night (shape_of c) v
      goes = has_position_from night c v of.2

      first : ℕ
      first = unit_from night (shape_of c) + (v - position_from night (shape_of c))

      first_has : HasUnit night (shape_of c) first
      first_has = let from = goes.from in let to = goes.to in record { from = omega arith; to = omega (arith, from, to) }

      first_in : first < unit_total night
      first_in = places.unit_in night (shape_of c) first fits.shape.within first_has

      -- the block of a unit that is given the position
      only : (u : ℕ) → u < length (unit_entries night) → (is_in_rest um u && (place_of list u == v)) ≡ true → u ≡ first
      only u below both =
          let x = has_place u (omega (arith, below, units)) in
          let e = equal_of (place_of list u) v (second (is_in_rest um u) (place_of list u == v) both) in
          let there : partner_in night u x.block ≡ v = sym x.place ∙ e in
          let has : has_position night (shape_of x.block) v ≡ true = subst (λ w. has_position night (shape_of x.block) w ≡ true) there x.goes in
          let one = feasible.covers.positions v lt in
          let same : x.block ≡ c = one_holder (λ y. has_position night (shape_of y) v) blocks x.block c (omega (arith, one)) x.there of.1 has of.2 in
          let start : unit_from night (shape_of x.block) ≡ unit_from night (shape_of c) = ap (λ y. unit_from night (shape_of y)) same in
          let end : position_from night (shape_of x.block) ≡ position_from night (shape_of c) = ap (λ y. position_from night (shape_of y)) same in
          let from = x.has.from in
          let goes_from = goes.from in
          omega (arith, there, start, end, from, goes_from)

      free : times_unit night pins first ≡ 0
      free =
          let none = none_left_out (times_position night pins) (position_total night) v lt left in
          let one = feasible.covers.units first first_in in
          other_free pins blocks keeps (λ s. has_position night s v) (λ s. has_unit night s first) c (omega (arith, one)) of.1 of.2 (unit_to night c first first_has) none

      its_place : place_of list first ≡ v
      its_place =
          let x = has_place first first_in in
          let one = feasible.covers.units first first_in in
          let same : x.block ≡ c = one_holder (λ y. has_unit night (shape_of y) first) blocks x.block c (omega (arith, one)) x.there of.1 (unit_to night x.block first x.has)
          (unit_to night c first first_has) in
          let goes_from = goes.from in
          let at : partner_in night first c ≡ v = omega (arith, goes_from) in
          x.place ∙ ap (λ y. partner_in night first y) same ∙ at

      passes : (is_in_rest um first && (place_of list first == v)) ≡ true
      passes = ap (λ b. b && (place_of list first == v)) (left_in (times_unit night pins) (unit_total night) first first_in free) ∙ equal_to (place_of list first) v its_place

  pub rest_matched : MatchesRest night um vm list
  rest_matched = record {
    same_length = length-map-range_with_len (partner night blocks) 0 (unit_total night) ∙ sym units;
    given = λ u at. (let there = at.there in given u (omega (arith, there, units)) at.left);
    serves = λ u at. (let there = at.there in serves u (omega (arith, there, units)));
    once = λ v at. (let there = at.there in once v (omega (arith, there, positions)) at.left);
  }
