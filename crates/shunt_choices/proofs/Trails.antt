-- Paths stay paths when a block comes or goes, and they have no more blocks than there are units.
use Rattle.std.specs.Prelude.{not, ◌==◌, map, cond, All, slice_index_or, Some}
use Rattle.std.specs.List.{range_with_len}
use Rattle.std.proofs.Common.{◌≡◌, ℕ, ◌+◌, ◌-◌, ◌<◌, ◌≤◌, Bool, true, false, List, [], ◌∷◌, ◌++◌, length, take, get_or, refl, sym, ap, subst, ◌∙◌, arith, ℤ}
use Rattle.std.proofs.lemmas.Bool.{true≢false, not-true}
use Rattle.std.proofs.lemmas.Bool.Decides.{nat_tests}
use Rattle.std.proofs.lemmas.List.{length-append, get_or_append_left, take_more}
use Rattle.std.proofs.Math.Seq.{get_or-append_seam}
use Rattle.std.proofs.lemmas.List.Elements.{All-append, All-cons, All-nil}
use Rattle.std.proofs.lemmas.List.Quantifiers.{position-Some}
use Rattle.std.proofs.lemmas.List.FromFn.{get_or-map-range_with_len, length-map-range_with_len}
use Rattle.shunt_instance.specs.defs.Instance.{Night, unit_total, position_total}
use Rattle.shunt_blocks.specs.declared.records.Block.{Block}
use Rattle.shunt_blocks.specs.defs.Shapes.{shape_of, unit_from, position_from, IsInRange, HasUnit, HasPosition, begins_at}
use Rattle.shunt_blocks.specs.defs.Lists.{has_unit, has_position, times_unit, times_position, ShareNothing}
use Rattle.shunt_choices.specs.defs.EntryRuns.{filled}
use Rattle.shunt_choices.specs.defs.Paths.{Masks, masks_of, Trail, IsTrailOf, next_of}
use Rattle.shunt_choices.proofs.Given.{PlaceLaws, FewerLaw}
use Rattle.shunt_choices.proofs.Masks.{unit_more, position_more, units_pushed, positions_pushed, units_popped, positions_popped}
use Rattle.shunt_blocks.proofs.Shapes.{has_from, has_position_from}
use Rattle.shunt_choices.specs.defs.Free.{AreMasksOf}

-- ---- a block more

-- a list of counts has false only if the count is 0
pub not_taken : (count : ℕ → ℕ) (total i : ℕ) (d : Bool) → i < total → slice_index_or (map (λ k. not (count k == 0)) (range_with_len 0 total)) i d ≡ false → count i ≡ 0
not_taken count total i d lt e =
    let at = get_or-map-range_with_len (λ k. not (count k == 0)) 0 total i i d lt (omega arith) in
    none (count i) (sym at ∙ e)
  where
    none : (n : ℕ) → not (n == 0) ≡ false → n ≡ 0
    none n h = grind (arith, nat_tests)

pub few_more : (times now : ℕ) (has : Bool) → now ≡ times + cond has 1 0 → times ≤ 1 → (has ≡ true → times ≡ 0) → now ≤ 1
few_more times now true e few free = omega (arith, e, free refl)
few_more times now false e few free = omega (arith, e, few)

pub pushed : (numbered : PlaceLaws) (night : Night) (t : Trail) (b : Block) → IsTrailOf night t → IsInRange night b
    → ((u : ℕ) → HasUnit night (shape_of b) u → slice_index_or t.covered.units u true ≡ false)
    → ((v : ℕ) → HasPosition night (shape_of b) v → slice_index_or t.covered.places v true ≡ false)
    → IsTrailOf night (record t { blocks = t.blocks ++ b ∷ []; covered = masks_of night (t.blocks ++ b ∷ []) })
pushed numbered night t b is in_range units places = record {
  each = All-append (IsInRange night) t.blocks (b ∷ []) is.each (All-cons (IsInRange night) b [] in_range (All-nil (IsInRange night)));
  apart = record {
    units = λ u. few_more (times_unit night t.blocks u) _ (has_unit night (shape_of b) u) (unit_more night t.blocks b u) (is.apart.units u)
        (λ e. free_unit u (has_from night b u e));
    positions = λ v. few_more (times_position night t.blocks v) _ (has_position night (shape_of b) v) (position_more night t.blocks b v) (is.apart.positions v)
        (λ e. free_position v (has_position_from night b v e));
  };
  covered = refl;
}
  where
    free_unit : (u : ℕ) → HasUnit night (shape_of b) u → times_unit night t.blocks u ≡ 0
    free_unit u has = not_taken (times_unit night t.blocks) (unit_total night) u true (numbered.unit_in night (shape_of b) u in_range.within.runs has)
        (subst (λ m. slice_index_or m.units u true ≡ false) is.covered (units u has))

    free_position : (v : ℕ) → HasPosition night (shape_of b) v → times_position night t.blocks v ≡ 0
    free_position v has = not_taken (times_position night t.blocks) (position_total night) v true (numbered.position_in night (shape_of b) v in_range.within.runs has)
        (subst (λ m. slice_index_or m.places v true ≡ false) is.covered (places v has))

-- ---- a block less

pub front_apart : (night : Night) (blocks : List Block) (b : Block) → ShareNothing night (blocks ++ b ∷ []) → ShareNothing night blocks
front_apart night blocks b apart = record {
  units = λ u. omega (arith, unit_more night blocks b u, apart.units u);
  positions = λ v. omega (arith, position_more night blocks b v, apart.positions v);
}

pub length_units : (night : Night) (blocks : List Block) → length (masks_of night blocks).units ≡ unit_total night
length_units night blocks = length-map-range_with_len (λ u. not (times_unit night blocks u == 0)) 0 (unit_total night)

pub length_places : (night : Night) (blocks : List Block) → length (masks_of night blocks).places ≡ position_total night
length_places night blocks = length-map-range_with_len (λ v. not (times_position night blocks v == 0)) 0 (position_total night)

-- ---- room

pub room : (fewer : FewerLaw) (night : Night) (t : Trail) (u : ℕ) → IsTrailOf night t → next_of t.covered ≡ Some u → length t.blocks < unit_total night
room fewer night t u is next =
    let found = position-Some (λ c. not c) (masks_of night t.blocks).units u false (subst (λ m. next_of m ≡ Some u) is.covered next) in
    let lt : u < unit_total night = omega (arith, found.0, length_units night t.blocks) in
    fewer night t.blocks u (λ k d below. (is.each k d below).within) is.apart lt (not_taken (times_unit night t.blocks) (unit_total night) u false lt (off _ found.1))
  where
    off : (b : Bool) → not b ≡ true → b ≡ false
    off true e = absurd (true≢false (sym e))
    off false e = refl

-- ---- the masks that the code makes

pub unit_end : (numbered : PlaceLaws) (night : Night) (b : Block) → IsInRange night b → unit_from night (shape_of b) + b.n ≤ unit_total night
unit_end numbered night b is = let r = is.within.runs in omega (
  arith,
  numbered.unit_in night (shape_of b) (unit_from night (shape_of b) + (b.n - 1)) r
      (record { from = omega arith; to = omega (arith, r.n) }),
  r.n,
)

pub position_end : (numbered : PlaceLaws) (night : Night) (b : Block) → IsInRange night b → position_from night (shape_of b) + b.n ≤ position_total night
position_end numbered night b is = let r = is.within.runs in omega (
  arith,
  numbered.position_in night (shape_of b) (position_from night (shape_of b) + (b.n - 1)) r
      (record { from = omega arith; to = omega (arith, r.n) }),
  r.n,
)

both_masks : (m : Masks) (units places : List Bool) → m.units ≡ units → m.places ≡ places → m ≡ record { units = units; places = places }
both_masks m units places e f = ap (λ x. record { units = x; places = m.places }) e ∙ ap (λ y. record { units = units; places = y }) f

pub covered_pushed : (numbered : PlaceLaws) (night : Night) (blocks : List Block) (b : Block) (old m : Masks) → old ≡ masks_of night blocks → IsInRange night b
    → m.units ≡ filled old.units (unit_from night (shape_of b)) b.n true
    → m.places ≡ filled old.places (position_from night (shape_of b)) b.n true
    → m ≡ masks_of night (blocks ++ b ∷ [])
covered_pushed numbered night blocks b old m is in_range units places = both_masks m _ _
    (units ∙ ap (λ c. filled c.units (unit_from night (shape_of b)) b.n true) is ∙ units_pushed night blocks b (unit_end numbered night b in_range))
    (places ∙ ap (λ c. filled c.places (position_from night (shape_of b)) b.n true) is ∙ positions_pushed night blocks b (position_end numbered night b in_range))

pub covered_next : (numbered : PlaceLaws) (night : Night) (blocks : List Block) (k : ℕ) (d : Block) (old m : Masks) → old ≡ masks_of night (take k blocks)
    → All (IsInRange night) blocks → k < length blocks
    → m.units ≡ filled old.units (unit_from night (shape_of (get_or blocks k d))) (get_or blocks k d).n true
    → m.places ≡ filled old.places (position_from night (shape_of (get_or blocks k d))) (get_or blocks k d).n true
    → m ≡ masks_of night (take (k + 1) blocks)
covered_next numbered night blocks k d old m is all lt units places =
    covered_pushed numbered night (take k blocks) (get_or blocks k d) old m is (all k d lt) units places ∙ ap (masks_of night) (sym (take_more blocks k d lt))

pub last_in_range : (night : Night) (t : Trail) (front : List Block) (b : Block) → IsTrailOf night t → t.blocks ≡ front ++ b ∷ [] → IsInRange night b
last_in_range night t front b is e = subst (λ x. IsInRange night x) (get_or-append_seam front b [] b)
    (subst (λ bs. All (IsInRange night) bs) e is.each (length front) b (omega (arith, length-append front (b ∷ []))))

pub popped : (numbered : PlaceLaws) (night : Night) (t : Trail) (front : List Block) (b : Block) (m : Masks) → IsTrailOf night t → t.blocks ≡ front ++ b ∷ []
    → m.units ≡ filled t.covered.units (unit_from night (shape_of b)) b.n false
    → m.places ≡ filled t.covered.places (position_from night (shape_of b)) b.n false
    → IsTrailOf night (record { blocks = front; covered = m; pins = t.pins })
popped numbered night t front b m is e units places =
    let in_range = last_in_range night t front b is e in
    let apart = subst (λ bs. ShareNothing night bs) e is.apart in
    record {
      each = (λ k d lt. subst (λ x. IsInRange night x) (get_or_append_left front (b ∷ []) d k lt)
          (subst (λ bs. All (IsInRange night) bs) e is.each k d (omega (arith, lt, length-append front (b ∷ [])))));
      apart = front_apart night front b apart;
      covered = both_masks m _ _
          (units ∙ ap (λ c. filled c.units (unit_from night (shape_of b)) b.n false) (is.covered ∙ ap (masks_of night) e)
          ∙ units_popped night front b apart (unit_end numbered night b in_range))
          (places ∙ ap (λ c. filled c.places (position_from night (shape_of b)) b.n false) (is.covered ∙ ap (masks_of night) e)
          ∙ positions_popped night front b apart (position_end numbered night b in_range));
    }

-- ---- blocks of one unit

-- the next unit isn't covered
pub next_free : (night : Night) (b : Block) (covered : Masks) → b.n ≡ 1 → next_of covered ≡ Some (begins_at night b) → (u : ℕ) → HasUnit night (shape_of b) u
    → slice_index_or covered.units u true ≡ false
next_free night b covered one next u has =
    let same : begins_at night b ≡ u = omega (arith, one, has.from, has.to) in
    subst (λ v. slice_index_or covered.units v true ≡ false) same (not-true _ (position-Some (λ c. not c) covered.units (begins_at night b) true next).1)

pub only_position : (night : Night) (b : Block) (covered : Masks) → b.n ≡ 1 → slice_index_or covered.places (position_from night (shape_of b)) true ≡ false → (v : ℕ)
    → HasPosition night (shape_of b) v → slice_index_or covered.places v true ≡ false
only_position night b covered one free v has =
    let same : position_from night (shape_of b) ≡ v = omega (arith, one, has.from, has.to) in
    subst (λ w. slice_index_or covered.places w true ≡ false) same free

pub units_long : (night : Night) (t : Trail) (covered : Masks) (cs : List Bool) → cs ≡ covered.units → covered ≡ t.covered → IsTrailOf night t
    → cs ≡ (masks_of night t.blocks).units
units_long night t covered cs e ec of = e ∙ ap (λ (m : Masks). m.units) (ec ∙ of.covered)

pub places_long : (night : Night) (t : Trail) (covered : Masks) (cs : List Bool) → cs ≡ covered.places → covered ≡ t.covered → IsTrailOf night t
    → cs ≡ (masks_of night t.blocks).places
places_long night t covered cs e ec of = e ∙ ap (λ (m : Masks). m.places) (ec ∙ of.covered)

pub as_many_units : (night : Night) (path : List Block) (cs : List Bool) (zs ys : List ℤ) → cs ≡ (masks_of night path).units → zs ≡ ys → length ys ≡ unit_total night
    → length cs ≡ length zs
as_many_units night path cs zs ys e ez en = ap length e ∙ length_units night path ∙ sym en ∙ sym (ap length ez)

pub as_many_places : (night : Night) (path : List Block) (cs : List Bool) (zs ys : List ℤ) → cs ≡ (masks_of night path).places → zs ≡ ys → length ys ≡ position_total night
    → length cs ≡ length zs
as_many_places night path cs zs ys e ez en = ap length e ∙ length_places night path ∙ sym en ∙ sym (ap length ez)

pub masks_fit : (night : Night) (path : Trail) (covered : Masks) → covered ≡ path.covered → IsTrailOf night path → AreMasksOf night covered
masks_fit night path covered e of = subst (AreMasksOf night) (sym (e ∙ of.covered)) (record { units = length_units night path.blocks; places = length_places night path.blocks })
