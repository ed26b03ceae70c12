-- Pins have no finding but of bare units and positions exactly when they are usable.
use Rattle.std.proofs.Common.{◌≡◌, ⊎_elim, ◌↔◌, ℕ, ◌+◌, ◌<◌, ◌≤◌, Bool, false, cond, List, [], ◌∷◌, get_or, refl, subst, arith, inl, inr}
use Rattle.std.specs.Prelude.{◌==◌, ◌||◌, not, nat_le, nat_lt}
use Rattle.std.specs.List.{count_by}
use Rattle.std.proofs.lemmas.Bool.{cases_lt, and_parts, leb-true, ltb-true, false_from_ne_true, true≢false, not-true, not_from_false}
use Rattle.std.proofs.lemmas.Bool.Decides.{nat_tests}
use Rattle.std.proofs.lemmas.List.Sums.{sum_by-cons}
use Rattle.shunt_lists.proofs.Members.{in_place, filter_from, filter_to}
use Rattle.shunt_lists.specs.defs.Members.{In}
use Rattle.shunt_instance.specs.defs.Instance.{Night, IsInstance, unit_total, position_total}
use Rattle.shunt_blocks.specs.declared.records.Block.{Block}
use Rattle.shunt_blocks.specs.declared.records.Shape.{Shape}
use Rattle.shunt_blocks.specs.defs.Shapes.{shape_of, unit_from, position_from, AreRunsWithin, HasUnit, HasPosition}
use Rattle.shunt_blocks.specs.defs.Lists.{has_unit, has_position, times_unit, times_position, AreInRange}
use Rattle.shunt_blocks.specs.defs.Pins.{AreUsable}
use Rattle.shunt_audit.specs.declared.types.Finding.{Finding}
use Rattle.shunt_audit.specs.declared.types.Finding.TheVariants.{UnitBare, UnitTwice, PlaceBare, PlaceTwice, WrongType, TooSoon, NoRouteIn, NoRouteOut, Crossing, TooLong, StatedCost}
use Rattle.shunt_audit.specs.defs.Findings.{kind_of, IsFinding}
use Rattle.shunt_audit.specs.defs.Listed.{findings_in}
use Rattle.shunt_audit.specs.defs.Pins.{is_bare, pin_findings}
use Rattle.shunt_audit.proofs.BlockStays.{in_range, BlockLaws}
use Rattle.shunt_audit.proofs.Exactly.{listed_from, listed_to}
use Rattle.shunt_audit.proofs.Feasible.{block_of, runs, sound_later, no_member}
use Rattle.shunt_lists.proofs.Tests.{flag_zero as zero_of}

later_kind : (k : ℕ) → 5 ≤ k → (k == 1 || k == 3) ≡ false
later_kind k le = grind (arith, nat_tests)

-- none is counted
none_counted : {X : Type 0} (t : X → Bool) (xs : List X) → ((x : X) → In x xs → t x ≡ false) → count_by t xs ≡ 0
none_counted t [] h = refl
none_counted t (x ∷ xs) h = let rest = none_counted t xs (λ y i. h y (inr i)) in let first = zero_of (t x) (h x (inl refl)) in omega (arith, sum_by-cons (λ y. cond (t y) 1 0) x xs)

not_twice : (n : ℕ) → (2 ≤ n → ⊥) → n ≤ 1
not_twice n h = ⊎_elim (λ lt. omega arith) (λ le. absurd (h le)) (cases_lt n 2)

-- the units and positions of a shape are numbered in the night
pub record PlaceLaws : Type 0 where
  pub unit_in : (night : Night) (s : Shape) (u : ℕ) → AreRunsWithin night s → HasUnit night s u → u < unit_total night
  pub position_in : (night : Night) (s : Shape) (v : ℕ) → AreRunsWithin night s → HasPosition night s v → v < position_total night

module _ (laws : BlockLaws) (places : PlaceLaws) (night : Night) (pins : List Block) (n : IsInstance night) (h : AreInRange night pins) where
  past_units : (u : ℕ) → unit_total night ≤ u → times_unit night pins u ≡ 0
  past_units u past = none_counted (λ b. has_unit night (shape_of b) u) pins (λ b i. false_from_ne_true (has_unit night (shape_of b) u) (λ t.
      let p = and_parts (nat_le (unit_from night (shape_of b)) u) (nat_lt u (unit_from night (shape_of b) + b.n)) t in
      let lt = places.unit_in night (shape_of b) u (in_range night pins b h i).within.runs
      (record { from = leb-true (unit_from night (shape_of b)) u p.0; to = ltb-true u (unit_from night (shape_of b) + b.n) p.1 }) in
      absurd (omega arith)))

  past_positions : (v : ℕ) → position_total night ≤ v → times_position night pins v ≡ 0
  past_positions v past = none_counted (λ b. has_position night (shape_of b) v) pins (λ b i. false_from_ne_true (has_position night (shape_of b) v) (λ t.
      let p = and_parts (nat_le (position_from night (shape_of b)) v) (nat_lt v (position_from night (shape_of b) + b.n)) t in
      let lt = places.position_in night (shape_of b) v (in_range night pins b h i).within.runs
      (record { from = leb-true (position_from night (shape_of b)) v p.0; to = ltb-true v (position_from night (shape_of b) + b.n) p.1 }) in
      absurd (omega arith)))

  usable_from : ((f : Finding) → is_bare f ≡ false → IsFinding night pins f → ⊥) → AreUsable night pins
  usable_from none =
      let later : (f : Finding) → 5 ≤ kind_of f → IsFinding night pins f → ⊥ = λ f le x. none f (later_kind (kind_of f) le) x in
      record {
        in_range = h;
        each = λ k d lt. block_of laws night pins n h later (get_or pins k d) (in_place pins k d lt) (h.each k d lt);
        apart = record {
          units = λ u. ⊎_elim (λ lt. not_twice (times_unit night pins u) (λ twice. none (UnitTwice u) refl (lt, twice))) (λ past. omega (arith, past_units u past))
              (cases_lt u (unit_total night));
          positions = λ v. ⊎_elim (λ lt. not_twice (times_position night pins v) (λ twice. none (PlaceTwice v) refl (lt, twice))) (λ past. omega (arith, past_positions v past))
              (cases_lt v (position_total night));
        };
        through = runs laws night pins n h later;
      }

  usable_none : AreUsable night pins → (f : Finding) → is_bare f ≡ false → IsFinding night pins f → ⊥
  usable_none p (UnitBare u) e x = true≢false e
  usable_none p (UnitTwice u) e x = absurd (let most = p.apart.units u in let twice = x.1 in omega arith)
  usable_none p (PlaceBare v) e x = true≢false e
  usable_none p (PlaceTwice v) e x = absurd (let most = p.apart.positions v in let twice = x.1 in omega arith)
  usable_none p (WrongType id) e x = sound_later laws night pins n h p.each p.through (WrongType id) (omega arith) x
  usable_none p (TooSoon id) e x = sound_later laws night pins n h p.each p.through (TooSoon id) (omega arith) x
  usable_none p (NoRouteIn id) e x = sound_later laws night pins n h p.each p.through (NoRouteIn id) (omega arith) x
  usable_none p (NoRouteOut id) e x = sound_later laws night pins n h p.each p.through (NoRouteOut id) (omega arith) x
  usable_none p (Crossing i j) e x = sound_later laws night pins n h p.each p.through (Crossing i j) (omega arith) x
  usable_none p (TooLong id load) e x = sound_later laws night pins n h p.each p.through (TooLong id load) (omega arith) x
  usable_none p (StatedCost stated real) e x = x

pub none_where_usable : (laws : BlockLaws) (places : PlaceLaws) (night : Night) (pins : List Block) → IsInstance night → AreInRange night pins
    → (pin_findings night pins ≡ []) ↔ AreUsable night pins
none_where_usable laws places night pins n h = (
  λ e. usable_from laws places night pins n h (λ f bare x. subst (λ (l : List Finding). In f l) e
      (filter_to (λ g. not (is_bare g)) (findings_in night pins) f (listed_to night pins f x) (not_from_false (is_bare f) bare))),
  λ p. no_member (pin_findings night pins) (λ f i. let r = filter_from (λ g. not (is_bare g)) (findings_in night pins) f i in usable_none laws places night pins n h p f
      (not-true (is_bare f) r.1) (listed_from night pins f r.0)),
)
