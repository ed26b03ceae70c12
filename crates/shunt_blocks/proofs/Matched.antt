-- Blocks that cover the night give a matching: each unit goes to the position at its place in its block.
use Rattle.std.specs.Prelude.{All, map, ◌==◌, ◌&&◌, not, cond, sum_by, count_by}
use Rattle.std.specs.List.{range_with_len}
use Rattle.std.proofs.Common.{◌≡◌, inl, inr, ℕ, ◌+◌, ◌-◌, ◌<◌, ◌≤◌, Bool, true, false, List, [], ◌∷◌, length, refl, sym, ap, subst, ◌∙◌, arith}
use Rattle.std.proofs.lemmas.Bool.{true≢false}
use Rattle.std.proofs.lemmas.Bool.Decides.{nat_tests}
use Rattle.std.proofs.lemmas.List.{length-map, get_or_past}
use Rattle.std.proofs.lemmas.List.Sums.{sum_by-cons}
use Rattle.std.proofs.lemmas.List.FromFn.{get_or-map-range_with_len, length-map-range_with_len}
use Rattle.shunt_lists.proofs.CountsBelow.{count_below-same}
use Rattle.shunt_lists.specs.defs.Below.{count_below}
use Rattle.shunt_lists.specs.defs.Members.{In}
use Rattle.shunt_instance.specs.defs.Instance.{Night, units_of, positions_of, unit_total, position_total}
use Rattle.shunt_instance.specs.defs.Matching.{entry_at, is_in_rest, IsMatchable, place_of, IsMatching, unit_entries, position_entries}
use Rattle.shunt_instance.proofs.Facts.{unit_entry_is, position_entry_is}
use Rattle.shunt_blocks.specs.declared.records.Block.{Block}
use Rattle.shunt_blocks.specs.defs.Shapes.{shape_of, unit_from, position_from, unit_entry, IsPair, HasUnit, HasPosition}
use Rattle.shunt_blocks.specs.defs.Blocks.{IsBlockButId}
use Rattle.shunt_blocks.specs.defs.Lists.{has_unit, has_position, Covers, IsFeasible}
use Rattle.shunt_blocks.proofs.Places.{unit_in, position_in}
use Rattle.shunt_blocks.proofs.Held.{held, holder, one_holder}
use Rattle.shunt_blocks.proofs.Started.{one_counted}
use Rattle.shunt_lists.proofs.Members.{each_one}
use Rattle.shunt_blocks.proofs.Shapes.{has_from, has_position_from, position_to, unit_to, but_ids}

-- ---- the value at the only element that passes

no_value : {X : Type 0} (xs : List X) (test : X → Bool) (value : X → ℕ) → count_by test xs ≡ 0 → sum_by (λ x. cond (test x) (value x) 0) xs ≡ 0
no_value [] test value none = refl
no_value (x ∷ xs) test value none = at (test x) refl (λ rest. no_value xs test value rest)
  where
    at : (t : Bool) → test x ≡ t → (count_by test xs ≡ 0 → sum_by (λ y. cond (test y) (value y) 0) xs ≡ 0) → sum_by (λ y. cond (test y) (value y) 0) (x ∷ xs) ≡ 0
    at true e tail = let one : cond (test x) 1 0 ≡ 1 = ap {B = ℕ} (λ t. cond t 1 0) e in absurd (omega (arith, none, sum_by-cons (λ y. cond (test y) 1 0) x xs, one))
    at false e tail = let nothing : cond (test x) (value x) 0 ≡ 0 = ap {B = ℕ} (λ t. cond t (value x) 0) e in omega
        (arith, sum_by-cons (λ y. cond (test y) (value y) 0) x xs, nothing, tail (omega (arith, none, sum_by-cons (λ y. cond (test y) 1 0) x xs)))

only_value : {X : Type 0} (xs : List X) (test : X → Bool) (value : X → ℕ) (x : X) → count_by test xs ≤ 1 → In x xs → test x ≡ true
    → sum_by (λ y. cond (test y) (value y) 0) xs ≡ value x
only_value [] test value x few there passes = absurd there
only_value (y ∷ xs) test value x few (inl same) passes =
    let first : test y ≡ true = ap test (sym same) ∙ passes in
    let one : cond (test y) 1 0 ≡ 1 = ap {B = ℕ} (λ t. cond t 1 0) first in
    let here : cond (test y) (value y) 0 ≡ value y = ap {B = ℕ} (λ t. cond t (value y) 0) first in
    omega (
      arith,
      sum_by-cons (λ z. cond (test z) (value z) 0) y xs,
      here,
      no_value xs test value (omega (arith, few, one, sum_by-cons (λ z. cond (test z) 1 0) y xs)),
      ap value same,
    )
only_value (y ∷ xs) test value x few (inr later) passes = at (test y) refl
    (only_value xs test value x (omega (arith, few, sum_by-cons (λ z. cond (test z) 1 0) y xs)) later passes) (held test xs x later passes)
  where
    at : (t : Bool) → test y ≡ t → sum_by (λ z. cond (test z) (value z) 0) xs ≡ value x → 1 ≤ count_by test xs → sum_by (λ z. cond (test z) (value z) 0) (y ∷ xs) ≡ value x
    at true e tail some = let one : cond (test y) 1 0 ≡ 1 = ap {B = ℕ} (λ t. cond t 1 0) e in absurd (omega (arith, few, some, one, sum_by-cons (λ z. cond (test z) 1 0) y xs))
    at false e tail some = let nothing : cond (test y) (value y) 0 ≡ 0 = ap {B = ℕ} (λ t. cond t (value y) 0) e in omega
        (arith, sum_by-cons (λ z. cond (test z) (value z) 0) y xs, nothing, tail)

same_test : (a b c d : ℕ) → (a ≡ b → c ≡ d) → (c ≡ d → a ≡ b) → (a == b) ≡ (c == d)
same_test a b c d to from = at (a == b) (c == d) refl refl
  where
    at : (s t : Bool) → (a == b) ≡ s → (c == d) ≡ t → (a == b) ≡ (c == d)
    at true true e f = e ∙ sym f
    at false false e f = e ∙ sym f
    at true false e f = let same : a ≡ b = grind (arith, nat_tests, e) in let other = to same in let is : (c == d)
        ≡ true = grind (arith, nat_tests, other) in absurd (true≢false (sym is ∙ f))
    at false true e f = let same : c ≡ d = grind (arith, nat_tests, f) in let other = from same in let is : (a == b)
        ≡ true = grind (arith, nat_tests, other) in absurd (true≢false (sym is ∙ e))

-- ---- the position of a unit

abbrev partner_in : Night → ℕ → Block → ℕ
partner_in night u b = position_from night (shape_of b) + (u - unit_from night (shape_of b))

abbrev partner : Night → List Block → ℕ → ℕ
partner night blocks u = sum_by (λ b. cond (has_unit night (shape_of b) u) (partner_in night u b) 0) blocks

abbrev partners : Night → List Block → List ℕ
partners night blocks = map (partner night blocks) (range_with_len 0 (unit_total night))

record IsHeldBy (night : Night) (blocks : List Block) (u : ℕ) (b : Block) : Type 0 where
  there : In b blocks
  fits : IsBlockButId night b
  has : HasUnit night (shape_of b) u
  place : place_of (partners night blocks) u ≡ partner_in night u b

held_by : (night : Night) (blocks : List Block) (u : ℕ) (b : Block) → All (IsBlockButId night) blocks → Covers night blocks → In b blocks → has_unit night (shape_of b) u ≡ true
    → IsHeldBy night blocks u b
held_by night blocks u b each covers there has =
    let fits = each_one (IsBlockButId night) blocks b each there in
    let lt = unit_in night (shape_of b) u fits.shape.within (has_from night b u has) in
    record {
      there = there;
      fits = fits;
      has = has_from night b u has;
      place = get_or-map-range_with_len (partner night blocks) 0 (unit_total night) u u 0 lt (omega arith)
          ∙ only_value blocks (λ x. has_unit night (shape_of x) u) (partner_in night u) b (omega (arith, covers.units u lt)) there has;
    }

holding : (night : Night) (blocks : List Block) (u : ℕ) → All (IsBlockButId night) blocks → Covers night blocks → u < unit_total night → (b : Block) × IsHeldBy night blocks u b
holding night blocks u each covers lt =
    let of = holder (λ b. has_unit night (shape_of b) u) blocks (omega (arith, covers.units u lt)) in
    (of.0, held_by night blocks u of.0 each covers of.1 of.2)

partner_there : (night : Night) (u : ℕ) (b : Block) → HasUnit night (shape_of b) u → HasPosition night (shape_of b) (partner_in night u b)
partner_there night u b has = record { from = omega arith; to = omega (arith, has.from, has.to) }

pub matched : (night : Night) (blocks : List Block) → All (IsBlockButId night) blocks → Covers night blocks
    → IsMatching (unit_entries night) (position_entries night) (partners night blocks)
matched night blocks each covers = record {
  same_length = length-map-range_with_len (partner night blocks) 0 (unit_total night) ∙ sym units;
  given = λ u at.
      let x = holding night blocks u each covers (omega (arith, at.there, units)) in
      let there = position_in night (shape_of x.0) (partner_in night u x.0) x.1.fits.shape.within (partner_there night u x.0 x.1.has) in
      record { there = omega (arith, there, x.1.place, positions); left = ap not (get_or_past [] (place_of (partners night blocks) u) false (omega arith)) };
  serves = λ u at. serves u (omega (arith, at.there, units));
  once = λ v at. once v (omega (arith, at.there, positions));
}
  where
    units : length (unit_entries night) ≡ unit_total night
    units = length-map (units_of night.arrive) _

    positions : length (position_entries night) ≡ position_total night
    positions = length-map (positions_of night.depart) _

    serves : (u : ℕ) → u < unit_total night → IsMatchable (entry_at (unit_entries night) u) (entry_at (position_entries night) (place_of (partners night blocks) u))
    serves u lt =
        let x = holding night blocks u each covers lt in
        let s = shape_of x.0 in
        let k = u - unit_from night s in
        let below = position_in night s (partner_in night u x.0) x.1.fits.shape.within (partner_there night u x.0 x.1.has) in
        let at : unit_from night s + k ≡ u = omega (arith, x.1.has.from) in
        let pair : IsPair night u (partner_in night u x.0) = subst (λ (w : ℕ). IsPair night w (partner_in night u x.0)) at
        (x.1.fits.shape.pairs k (omega (arith, x.1.has.from, x.1.has.to))) in
        subst (λ v. IsMatchable (entry_at (unit_entries night) u) (entry_at (position_entries night) v)) (sym x.1.place)
        (subst (λ e. IsMatchable e (entry_at (position_entries night) (partner_in night u x.0))) (sym (unit_entry_is night u lt))
        (subst (λ e. IsMatchable (unit_entry night u) e) (sym (position_entry_is night (partner_in night u x.0) below)) pair))

    once : (v : ℕ) → v < position_total night → count_below (length (unit_entries night)) (λ u. is_in_rest [] u && (place_of (partners night blocks) u == v)) ≡ 1
    once v lt = ap (λ n. count_below n (λ u. is_in_rest [] u && (place_of (partners night blocks) u == v))) units
        ∙ count_below-same (unit_total night) _ (λ u. true && (u == first)) (λ u below. ap (λ t. t && (place_of (partners night blocks) u == v))
        (ap not (get_or_past [] u false (omega arith))) ∙ same_test _ _ _ _ (to u below) (back u))
        ∙ one_counted (unit_total night) first (λ u. true) first_in
      where
        of : (b : Block) × In b blocks × (has_position night (shape_of b) v ≡ true)
        of = holder (λ b. has_position night (shape_of b) v) blocks (omega (arith, covers.positions v lt))

        c : Block
        c = of.0

        fits : IsBlockButId night c
        fits = each_one (IsBlockButId night) blocks c each of.1

        goes : HasPosition night (shape_of c) v
        goes = has_position_from night c v of.2

        first : ℕ
        first = unit_from night (shape_of c) + (v - position_from night (shape_of c))

        first_has : HasUnit night (shape_of c) first
        first_has = record { from = omega arith; to = omega (arith, goes.from, goes.to) }

        first_in : first < unit_total night
        first_in = unit_in night (shape_of c) first fits.shape.within first_has

        back : (u : ℕ) → u ≡ first → place_of (partners night blocks) u ≡ v
        back u e =
            let x = held_by night blocks first c each covers of.1 (unit_to night c first first_has) in
            ap (place_of (partners night blocks)) e ∙ x.place ∙ omega (arith, goes.from)

        to : (u : ℕ) → u < unit_total night → place_of (partners night blocks) u ≡ v → u ≡ first
        to u below e =
            let x = holding night blocks u each covers below in
            let b = x.0 in
            let there : partner_in night u b ≡ v = sym x.1.place ∙ e in
            let b_has : has_position night (shape_of b) v ≡ true = subst (λ w. has_position night (shape_of b) w ≡ true) there
            (position_to night b (partner_in night u b) (partner_there night u b x.1.has)) in
            let same : b ≡ c = one_holder (λ y. has_position night (shape_of y) v) blocks b c (omega (arith, covers.positions v lt)) x.1.there of.1 b_has of.2 in
            let from : unit_from night (shape_of b) ≡ unit_from night (shape_of c) = ap (λ y. unit_from night (shape_of y)) same in
            let to_it : position_from night (shape_of b) ≡ position_from night (shape_of c) = ap (λ y. position_from night (shape_of y)) same in
            omega (arith, there, from, to_it, x.1.has.from, goes.from)

-- a list that gives each unit a position, and is a matching of the whole
pub record HasMatching (night : Night) : Type 0 where
  pub place : List ℕ
  pub is : IsMatching (unit_entries night) (position_entries night) place

pub plan_matching : (night : Night) (blocks : List Block) → IsFeasible night blocks → HasMatching night
plan_matching night blocks h = record { place = partners night blocks; is = matched night blocks (but_ids night blocks h.each) h.covers }
