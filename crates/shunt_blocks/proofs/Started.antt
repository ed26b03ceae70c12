-- Usable pins and the rest as unparked one-unit blocks, by a matching of the rest, are a feasible plan that keeps the pins.
use Rattle.std.specs.Prelude.{All, ◌==◌, ◌&&◌, cond, None}
use Rattle.std.specs.List.{cons_option}
use Rattle.std.proofs.Common.{◌≡◌, ⊎_elim, inl, inr, ℕ, zero, suc, ◌+◌, ◌<◌, ◌≤◌, Bool, true, false, List, [], ◌∷◌, ◌++◌, length, get_or, refl, sym, ap, subst, ◌∙◌, arith}
use Rattle.std.proofs.lemmas.Bool.{cases_lt, true≢false}
use Rattle.std.proofs.lemmas.Bool.Decides.{nat_tests}
use Rattle.std.proofs.lemmas.List.{length-map}
use Rattle.std.proofs.lemmas.List.Elements.{All-append, All-cons, All-nil}
use Rattle.std.proofs.lemmas.List.Sums.{sum_by-append}
use Rattle.shunt_lists.proofs.CountsBelow.{count_below-same, count_below-none}
use Rattle.shunt_lists.specs.defs.Below.{count_below}
use Rattle.shunt_lists.proofs.Members.{in_left, in_cases, in_place}
use Rattle.shunt_lists.specs.defs.Members.{In}
use Rattle.shunt_stays.specs.defs.Run.{GoesThrough}
use Rattle.shunt_instance.specs.defs.Instance.{Night, IsInstance, IsOrderedNight, units_of, positions_of, unit_total, position_total}
use Rattle.shunt_instance.specs.defs.Matching.{entry_at, is_in_rest, IsMatchable, place_of, IsMatchingOfRest, unit_entries, position_entries}
use Rattle.shunt_instance.proofs.Orders.{opened}
use Rattle.shunt_instance.proofs.Facts.{unit_at_is, position_at_is, unit_entry_is, position_entry_is}
use Rattle.shunt_blocks.specs.declared.records.Block.{Block}
use Rattle.shunt_blocks.specs.defs.Shapes.{shape_of, unit_from, position_from, position_entry, IsPair}
use Rattle.shunt_blocks.specs.defs.Blocks.{IsBlockButId}
use Rattle.shunt_blocks.specs.defs.Stays.{stay_with}
use Rattle.shunt_blocks.specs.defs.Lists.{has_unit, has_position, times_unit, times_position, units_taken, positions_taken, Covers, track_lengths, stays_of, IsFeasible, placed_from, placed}
use Rattle.shunt_blocks.specs.defs.Pins.{AreUsable, Keeps, single, singles_below, singles, single_at}
use Rattle.shunt_blocks.proofs.StaysOf.{placed_runs, in_placed}
use Rattle.shunt_blocks.proofs.Feasible.{placed_feasible}
use Rattle.shunt_blocks.proofs.OpeningCosts.{rest_units, rest_positions}
use Rattle.shunt_blocks.proofs.Shapes.{but_ids}

-- ---- a matching of what the pins leave

pub record IsRestMatched (night : Night) (pins : List Block) (place : List ℕ) : Type 0 where
  given : (u : ℕ) → u < unit_total night → (times_unit night pins u == 0) ≡ true → (place_of place u < position_total night)
      × ((times_position night pins (place_of place u) == 0) ≡ true)
  pair : (u : ℕ) → u < unit_total night → (times_unit night pins u == 0) ≡ true → IsPair night u (place_of place u)
  once : (v : ℕ) → v < position_total night → (times_position night pins v == 0) ≡ true
      → count_below (unit_total night) (λ u. (times_unit night pins u == 0) && (place_of place u == v)) ≡ 1

pub rest_matched : (night : Night) (pins : List Block) (place : List ℕ) → IsMatchingOfRest (unit_entries night) (position_entries night) (units_taken night pins)
    (positions_taken night pins) place → IsRestMatched night pins place
rest_matched night pins place m = record { given = given; pair = pair; once = once }
  where
    units : length (unit_entries night) ≡ unit_total night
    units = length-map (units_of night.arrive) _

    positions : length (position_entries night) ≡ position_total night
    positions = length-map (positions_of night.depart) _

    given : (u : ℕ) → u < unit_total night → (times_unit night pins u == 0) ≡ true
        → (place_of place u < position_total night) × ((times_position night pins (place_of place u) == 0) ≡ true)
    given u lt free =
        let at = m.given u (record { there = omega (arith, lt, units); left = rest_units night pins u lt ∙ free }) in
        let within : place_of place u < position_total night = omega (arith, at.there, positions) in
        (within, sym (rest_positions night pins (place_of place u) within) ∙ at.left)

    pair : (u : ℕ) → u < unit_total night → (times_unit night pins u == 0) ≡ true → IsPair night u (place_of place u)
    pair u lt free =
        let serves = m.serves u (record { there = omega (arith, lt, units); left = rest_units night pins u lt ∙ free }) in
        subst (λ e. IsMatchable e (position_entry night (place_of place u))) (unit_entry_is night u lt)
        (subst (λ e. IsMatchable (entry_at (unit_entries night) u) e) (position_entry_is night (place_of place u) (given u lt free).0) serves)

    once : (v : ℕ) → v < position_total night → (times_position night pins v == 0) ≡ true
        → count_below (unit_total night) (λ u. (times_unit night pins u == 0) && (place_of place u == v)) ≡ 1
    once v lt free =
        count_below-same (unit_total night) _ _ (λ u in_night. ap (λ t. t && (place_of place u == v)) (sym (rest_units night pins u in_night)))
        ∙ ap (λ n. count_below n (λ u. is_in_rest (units_taken night pins) u && (place_of place u == v))) (sym units)
        ∙ m.once v (record { there = omega (arith, lt, positions); left = rest_positions night pins v lt ∙ free })

-- ---- one single

single_from : (night : Night) (u v : ℕ) → IsOrderedNight night → u < unit_total night → unit_from night (shape_of (single night u v)) ≡ u
single_from night u v h lt = let x = unit_at_is night u h lt in omega (arith, x.number, x.placed)

single_to : (night : Night) (u v : ℕ) → IsOrderedNight night → v < position_total night → position_from night (shape_of (single night u v)) ≡ v
single_to night u v h lt = let y = position_at_is night v h lt in omega (arith, y.number, y.placed)

single_fits : (night : Night) (u v : ℕ) → IsOrderedNight night → u < unit_total night → v < position_total night → IsPair night u v → IsBlockButId night (single night u v)
single_fits night u v h lu lv pair =
    let x = unit_at_is night u h lu in
    let y = position_at_is night v h lv in
    let s = shape_of (single night u v) in
    record {
      shape = record {
        within = record { arr = x.train; dep = y.train; p = x.placed; n = omega arith; q = y.placed; units = omega (arith, x.place); positions = omega (arith, y.place) };
        pairs = λ k lt.
            let from : u ≡ unit_from night s + k = omega (arith, single_from night u v h lu, lt) in
            let to : v ≡ position_from night s + k = omega (arith, single_to night u v h lv, lt) in
            subst (λ (a : ℕ). IsPair night a (position_from night s + k)) from (subst (λ (b : ℕ). IsPair night u b) to pair);
      };
      option = tt;
    }

single_has : (night : Night) (u v w : ℕ) → IsOrderedNight night → u < unit_total night → has_unit night (shape_of (single night u v)) w ≡ (u == w)
single_has night u v w h lt = let at = single_from night u v h lt in grind (arith, nat_tests, at)

single_goes : (night : Night) (u v w : ℕ) → IsOrderedNight night → v < position_total night → has_position night (shape_of (single night u v)) w ≡ (v == w)
single_goes night u v w h lt = let at = single_to night u v h lt in grind (arith, nat_tests, at)

-- ---- all singles

pub singles_fit : (night : Night) (pins : List Block) (place : List ℕ) (n : ℕ) → IsOrderedNight night → IsRestMatched night pins place → n ≤ unit_total night
    → All (IsBlockButId night) (singles_below night pins place n)
singles_fit night pins place zero h m le = All-nil (IsBlockButId night)
singles_fit night pins place (suc n) h m le = All-append (IsBlockButId night) (singles_below night pins place n) (single_at night pins place n)
    (singles_fit night pins place n h m (omega (arith, le))) (at (times_unit night pins n == 0) refl)
  where
    at : (t : Bool) → (times_unit night pins n == 0) ≡ t → All (IsBlockButId night) (cond t (single night n (place_of place n) ∷ []) [])
    at true e = All-cons (IsBlockButId night) (single night n (place_of place n)) []
        (single_fits night n (place_of place n) h (omega (arith, le)) (m.given n (omega (arith, le)) e).0 (m.pair n (omega (arith, le)) e)) (All-nil (IsBlockButId night))
    at false e = All-nil (IsBlockButId night)

singles_units : (night : Night) (pins : List Block) (place : List ℕ) (n w : ℕ) → IsOrderedNight night → n ≤ unit_total night
    → times_unit night (singles_below night pins place n) w ≡ count_below n (λ k. (times_unit night pins k == 0) && (k == w))
singles_units night pins place zero w h le = refl
singles_units night pins place (suc n) w h le = omega (
  arith,
  sum_by-append (λ b. cond (has_unit night (shape_of b) w) 1 0) (singles_below night pins place n)
      (single_at night pins place n),
  singles_units night pins place n w h (omega (arith, le)),
  at (times_unit night pins n == 0),
)
  where
    at : (t : Bool) → times_unit night (cond t (single night n (place_of place n) ∷ []) []) w ≡ cond (t && (n == w)) 1 0
    at true = let one : cond (has_unit night (shape_of (single night n (place_of place n))) w) 1 0
        ≡ cond (n == w) 1 0 = ap {B = ℕ} (λ t. cond t 1 0) (single_has night n (place_of place n) w h (omega (arith, le))) in omega (arith, one)
    at false = refl

singles_positions : (night : Night) (pins : List Block) (place : List ℕ) (n w : ℕ) → IsOrderedNight night → IsRestMatched night pins place → n ≤ unit_total night
    → times_position night (singles_below night pins place n) w ≡ count_below n (λ k. (times_unit night pins k == 0) && (place_of place k == w))
singles_positions night pins place zero w h m le = refl
singles_positions night pins place (suc n) w h m le = omega (
  arith,
  sum_by-append (λ b. cond (has_position night (shape_of b) w) 1 0) (singles_below night pins place n)
      (single_at night pins place n),
  singles_positions night pins place n w h m (omega (arith, le)),
  at (times_unit night pins n == 0) refl,
)
  where
    at : (t : Bool) → (times_unit night pins n == 0) ≡ t → times_position night (cond t (single night n (place_of place n) ∷ []) []) w ≡ cond (t && (place_of place n == w)) 1 0
    at true e = let one : cond (has_position night (shape_of (single night n (place_of place n))) w) 1 0
        ≡ cond (place_of place n == w) 1 0 = ap {B = ℕ} (λ t. cond t 1 0) (single_goes night n (place_of place n) w h (m.given n (omega (arith, le)) e).0) in omega (arith, one)
    at false e = refl

-- ---- counts

unequal : (t : Bool) (k w : ℕ) → (k ≡ w → ⊥) → (t && (k == w)) ≡ false
unequal true k w ne = at (k == w) refl
  where
    at : (s : Bool) → (k == w) ≡ s → (k == w) ≡ false
    at true e = let same : k ≡ w = grind (arith, nat_tests, e) in absurd (ne same)
    at false e = e
unequal false k w ne = refl

pub one_counted : (n w : ℕ) (test : ℕ → Bool) → w < n → count_below n (λ k. test k && (k == w)) ≡ cond (test w) 1 0
one_counted zero w test lt = absurd (omega (arith, lt))
one_counted (suc n) w test lt = ⊎_elim
    (λ less.
    let none : cond (test n && (n == w)) 1 0 ≡ 0 = ap {B = ℕ} (λ t. cond t 1 0) (unequal (test n) n w (λ e. omega (arith, e, less))) in
    omega (arith, none, one_counted n w test less))
    (λ ge.
    let same : w ≡ n = omega (arith, ge, lt) in
    let here : cond (test n && (n == w)) 1 0 ≡ cond (test w) 1 0 = ap {B = ℕ} (λ t. cond t 1 0) (at (test n) refl same) in
    omega (arith, here, count_below-none n (λ k. test k && (k == w)) (λ k below. unequal (test k) k w (λ e. omega (arith, e, below, same)))))
    (cases_lt w n)
  where
    at : (t : Bool) → test n ≡ t → w ≡ n → (t && (n == w)) ≡ test w
    at true e same = let is : (n == w) ≡ true = grind (arith, nat_tests, same) in is ∙ sym e ∙ ap test (sym same)
    at false e same = sym e ∙ ap test (sym same)

-- ---- the plan

unparked_stays : (night : Night) (k : ℕ) (blocks : List Block) → ((b : Block) → In b blocks → b.park ≡ None) → stays_of night (placed_from k blocks) ≡ []
unparked_stays night k [] none = refl
unparked_stays night k (b ∷ blocks) none =
    ap (λ o. cons_option (stay_with night (record b { id = k }) o) (stays_of night (placed_from (k + 1) blocks))) (none b (inl refl))
    ∙ unparked_stays night (k + 1) blocks (λ c there. none c (inr there))

same_stays : (night : Night) (k : ℕ) (pins others : List Block) → ((b : Block) → In b others → b.park ≡ None)
    → stays_of night (placed_from k (pins ++ others)) ≡ stays_of night (placed_from k pins)
same_stays night k [] others none = unparked_stays night k others none
same_stays night k (b ∷ pins) others none = ap (λ stays. cons_option (stay_with night (record b { id = k }) b.park) stays) (same_stays night (k + 1) pins others none)

singles_unparked : (night : Night) (pins : List Block) (place : List ℕ) (n : ℕ) (b : Block) → In b (singles_below night pins place n) → b.park ≡ None
singles_unparked night pins place zero b there = absurd there
singles_unparked night pins place (suc n) b there = ⊎_elim
    (λ before. singles_unparked night pins place n b before)
    (λ here. at (times_unit night pins n == 0) here)
    (in_cases (singles_below night pins place n) (single_at night pins place n) b there)
  where
    at : (t : Bool) → In b (cond t (single night n (place_of place n) ∷ []) []) → b.park ≡ None
    at true (inl e) = ap (λ (x : Block). x.park) e
    at true (inr never) = elim never [ ]
    at false never = absurd never

pub covered : (night : Night) (pins : List Block) (place : List ℕ) → IsOrderedNight night → AreUsable night pins → IsRestMatched night pins place
    → Covers night (pins ++ singles night pins place)
covered night pins place h usable m = record { units = units; positions = positions }
  where
    free_unit : ℕ → Bool
    free_unit u = times_unit night pins u == 0

    total : (times count : ℕ) → times ≤ 1 → count ≡ cond (times == 0) 1 0 → times + count ≡ 1
    total zero count few e = omega (arith, e)
    total (suc times) count few e = let is : (suc times == 0) ≡ false = grind (arith, nat_tests) in let none : count ≡ 0 = e
        ∙ ap {B = ℕ} (λ t. cond t 1 0) is in omega (arith, few, none)

    units : (u : ℕ) → u < unit_total night → times_unit night (pins ++ singles night pins place) u ≡ 1
    units u lt =
        sum_by-append (λ b. cond (has_unit night (shape_of b) u) 1 0) pins (singles night pins place)
        ∙ total (times_unit night pins u) _ (usable.apart.units u) (singles_units night pins place (unit_total night) u h (omega arith)
        ∙ one_counted (unit_total night) u (λ k. times_unit night pins k == 0) lt)

    given_elsewhere : (v k : ℕ) → k < unit_total night → (times_position night pins v == 0) ≡ false → ((times_unit night pins k == 0) && (place_of place k == v)) ≡ false
    given_elsewhere v k lt pinned = at (times_unit night pins k == 0) refl
      where
        at : (t : Bool) → (times_unit night pins k == 0) ≡ t → (t && (place_of place k == v)) ≡ false
        at true e = unequal true (place_of place k) v (λ same. true≢false (sym (m.given k lt e).1 ∙ ap (λ w. times_position night pins w == 0) same ∙ pinned))
        at false e = refl

    positions : (v : ℕ) → v < position_total night → times_position night (pins ++ singles night pins place) v ≡ 1
    positions v lt =
        sum_by-append (λ b. cond (has_position night (shape_of b) v) 1 0) pins (singles night pins place)
        ∙ total (times_position night pins v) _ (usable.apart.positions v) (singles_positions night pins place (unit_total night) v h m (omega arith)
        ∙ at (times_position night pins v == 0) refl)
      where
        at : (t : Bool) → (times_position night pins v == 0) ≡ t → count_below (unit_total night) (λ k. (times_unit night pins k == 0) && (place_of place k == v)) ≡ cond t 1 0
        at true e = m.once v lt e
        at false e = count_below-none (unit_total night) _ (λ k below. given_elsewhere v k below e)

pub opening_feasible : (night : Night) (pins : List Block) (place : List ℕ) → IsInstance night → AreUsable night pins
    → IsMatchingOfRest (unit_entries night) (position_entries night) (units_taken night pins) (positions_taken night pins) place
    → IsFeasible night (placed (pins ++ singles night pins place))
opening_feasible night pins place is usable matching =
    let h = opened night is in
    let m = rest_matched night pins place matching in
    placed_feasible night (pins ++ singles night pins place) is
    (All-append (IsBlockButId night) pins (singles night pins place) (but_ids night pins usable.each) (singles_fit night pins place (unit_total night) h m (omega arith)))
    (covered night pins place h usable m)
    (subst (GoesThrough (track_lengths night.station)) (sym (same_stays night 1 pins (singles night pins place) (singles_unparked night pins place (unit_total night))))
    ((placed_runs night pins is usable.in_range usable.apart).0 usable.through))

pub opening_keeps : (pins others : List Block) → Keeps (placed (pins ++ others)) pins
opening_keeps pins others k d lt =
    let pin = get_or pins k d in
    let kept = in_placed 1 (pins ++ others) pin (in_left pins others pin (in_place pins k d lt)) in
    record { block = kept.0; there = kept.1; same = kept.2 }
