-- Duals that hold: from tests of ways to park, of tracks, shapes and units to all of them.
use Rattle.std.specs.Prelude.{IsTrue, ◌↔◌, true, false, ◌≤ℤ◌, ◌<ℤ◌, Option, Some, None, All, slice_index_or, slice_get}
use Rattle.std.specs.List.{AllByRecursion}
use Rattle.std.proofs.Common.{◌≡◌, ⊎_elim, ℕ, ◌+◌, ◌*◌, ◌<◌, ◌≤◌, Bool, List, [], ◌∷◌, length, get_or, ℤ, pos, ◌+ℤ◌, refl, sym, ap, subst, ◌∙◌, arith}
use Rattle.std.proofs.lemmas.Int.{ints}
use Rattle.std.proofs.lemmas.Bool.{cases_lt, true≢false}
use Rattle.std.proofs.lemmas.List.Elements.{All-cons, All-nil, All-head}
use Rattle.shunt_lists.specs.defs.Members.{In}
use Rattle.shunt_lists.proofs.Members.{all_in, all_from}
use Rattle.shunt_base.specs.declared.ids.Side.{Side}
use Rattle.shunt_base.specs.declared.ids.Side.TheVariants.{A, B}
use Rattle.shunt_base.specs.declared.ids.TrackId.{TrackId}
use Rattle.shunt_base.specs.declared.duals.Price.{Price}
use Rattle.shunt_base.specs.declared.duals.Duals.{Duals}
use Rattle.shunt_base.specs.declared.duals.Case.{Case}
use Rattle.shunt_instance.specs.defs.Instance.{Night, unit_total, first_unit}
use Rattle.shunt_instance.specs.defs.Words.{train_at}
use Rattle.shunt_blocks.specs.declared.records.Shape.{Shape}
use Rattle.shunt_blocks.specs.declared.records.Park.{Park}
use Rattle.shunt_blocks.specs.defs.Blocks.{IsOption}
use Rattle.shunt_blocks.specs.defs.Costs.{cost_with}
use Rattle.shunt_choices.specs.defs.Paths.{Masks}
use Rattle.shunt_choices.specs.defs.Choices.{IsFreeShape}
use Rattle.shunt_blocks.specs.defs.Shapes.{unit_from}
use Rattle.shunt_blocks.specs.defs.Stays.{shape_length}
use Rattle.shunt_prices.specs.defs.Limits.{case_at}
use Rattle.shunt_prices.specs.defs.Prices.{track_length, price_part_with}
use Rattle.shunt_prices.specs.defs.Cases.{IsFreeBlock, duals_over, weight_with, HasRoom}
use Rattle.shunt_dual.specs.declared.feasibility.Asked.{Asked}
use Rattle.shunt_dual.specs.declared.feasibility.Asked.TheVariants.{Every, BesideStacks}
use Rattle.shunt_dual.specs.defs.Weighed.{case_of, IsAsked, ParkHolds, SideHolds, TrackHolds, TracksHold, ShapeHolds, UnitHolds, CaseHolds}
use Rattle.shunt_prices.proofs.Counts.{got, no_part}

-- ---- tests

module _ (asked : Asked) (night : Night) (s : Shape) (sum : ℤ) (part : ℕ) (track : TrackId) where
  pub side_is : (side_in : Side) (a b : Bool) → IsTrue a ↔ ParkHolds asked night s sum part (record { track = track; side_in = side_in; side_out = A }) → a ≡ true
      → IsTrue b ↔ ParkHolds asked night s sum part (record { track = track; side_in = side_in; side_out = B }) → IsTrue b ↔ SideHolds asked night s sum part track side_in
  side_is side_in a b ha e hb = (λ t. record { holds = each t }, λ h. hb.1 (h.holds B))
    where
      each : IsTrue b → (o : Side) → ParkHolds asked night s sum part (record { track = track; side_in = side_in; side_out = o })
      each t A = ha.0 e
      each t B = hb.0 t

  pub from_track : TrackHolds asked night s sum part track → shape_length night s ≤ track_length night track.0 → (side_in : Side) → SideHolds asked night s sum part track side_in
  from_track h le side_in = record { holds = λ o. h.holds (record { track = track; side_in = side_in; side_out = o }) refl le }

  pub track_is : (a b : Bool) → IsTrue a ↔ SideHolds asked night s sum part track A → a ≡ true → IsTrue b ↔ SideHolds asked night s sum part track B
      → shape_length night s ≤ track_length night track.0 → IsTrue b ↔ TrackHolds asked night s sum part track
  track_is a b ha e hb le = (
    λ t. record {
      holds = λ k same room. subst (λ (w : TrackId). ParkHolds asked night s sum part
          (record { track = w; side_in = k.side_in; side_out = k.side_out })) (sym same) ((each t k.side_in).holds k.side_out);
    },
    λ h. hb.1 (from_track h le B),
  )
    where
      each : IsTrue b → (side : Side) → SideHolds asked night s sum part track side
      each t A = ha.0 e
      each t B = hb.0 t

  pub too_short : track_length night track.0 < shape_length night s → IsTrue true ↔ TrackHolds asked night s sum part track
  too_short lt = (λ t. record { holds = λ k same le. absurd (omega arith) }, λ h. refl)

-- ---- tracks

module _ (asked : Asked) (night : Night) (prices : List Price) (s : Shape) (sum : ℤ) (t : ℕ) (parts : List ℕ)
    (are : (k : Park) → k.track.0 < 60 → get_or parts k.track.0 0 ≡ price_part_with night prices s (Some k)) (few : t < 60) where
  part_is : (k : Park) → k.track.0 ≡ t → get_or parts t 0 ≡ price_part_with night prices s (Some k)
  part_is k e = subst (λ (w : ℕ). get_or parts w 0 ≡ price_part_with night prices s (Some k)) e (are k (omega arith))

  pub one_track : (n : ℕ) → t < n → TracksHold asked night prices s sum n → TrackHolds asked night s sum (get_or parts t 0) (record { 0 = t })
  one_track n lt h = record {
    holds = λ k same le.
        let e : k.track.0 ≡ t = ap (λ (w : TrackId). w.0) same in
        subst (λ (p : ℕ). ParkHolds asked night s sum p k) (sym (part_is k e)) (h.holds k (omega arith)
        (subst (λ (w : ℕ). shape_length night s ≤ track_length night w) (sym e) le));
  }

  pub more_tracks : TracksHold asked night prices s sum t → TrackHolds asked night s sum (get_or parts t 0) (record { 0 = t }) → TracksHold asked night prices s sum (t + 1)
  more_tracks h now = record {
    holds = λ k lt le.
        ⊎_elim
        (λ (less : k.track.0 < t). h.holds k less le)
        (λ (past : t ≤ k.track.0).
        let e : k.track.0 ≡ t = omega arith in
        subst (λ (p : ℕ). ParkHolds asked night s sum p k) (part_is k e) (now.holds k (ap (λ (w : ℕ). record { 0 = w }) e)
        (subst (λ (w : ℕ). shape_length night s ≤ track_length night w) e le)))
        (cases_lt k.track.0 t);
  }

pub no_tracks : (asked : Asked) (night : Night) (prices : List Price) (s : Shape) (sum : ℤ) → TracksHold asked night prices s sum 0
no_tracks asked night prices s sum = record { holds = λ k lt. absurd (omega arith) }

-- ---- shapes

pub shape_is : (asked : Asked) (night : Night) (c : Case) (s : Shape) (sum : ℤ) (tracks : ℕ) (b : Bool) → tracks ≡ length night.station.tracks → sum ≡ duals_over night c.duals s
    → sum ≤ℤ (pos (1000 * cost_with night s None) +ℤ c.multiplier) → IsTrue b ↔ TracksHold asked night c.duals.prices s sum tracks → IsTrue b ↔ ShapeHolds asked night c s
shape_is asked night c s sum tracks b et is le hb = (
  λ t. record { holds = each t },
  λ h. hb.1 (record { holds = λ k lt room own parkable. omega (arith, ints, is, h.holds (Some k) own parkable room) }),
)
  where
    each : IsTrue b → (park : Option Park) → IsAsked asked park → IsOption night s park → HasRoom night s park → duals_over night c.duals s ≤ℤ weight_with night c s park
    each t None own option room = omega (arith, ints, is, le, no_part night c.duals.prices s)
    each t (Some k) own option room = omega (arith, ints, is, (hb.0 t).holds k (omega (arith, option.track, et)) room own option)

-- unparked is always asked
unparked_asked : (asked : Asked) → IsAsked asked None
unparked_asked Every = tt
unparked_asked BesideStacks = refl

pub too_light : (asked : Asked) (night : Night) (c : Case) (s : Shape) (sum : ℤ) → sum ≡ duals_over night c.duals s → (pos (1000 * cost_with night s None) +ℤ c.multiplier) <ℤ sum
    → IsTrue false ↔ ShapeHolds asked night c s
too_light asked night c s sum is lt = (
  λ (t : false ≡ true). cc,
  λ h. absurd (let le = h.holds None (unparked_asked asked) tt tt in omega
      (arith, ints, is, lt, le, no_part night c.duals.prices s)),
)

-- ---- units

module _ (asked : Asked) (night : Night) (covered : Masks) (c : Case) (u : ℕ) where
  pub is_covered : slice_index_or covered.units u true ≡ true → IsTrue true ↔ UnitHolds asked night covered c u
  is_covered e = (
    λ t. record {
      holds = λ s free. absurd (true≢false (sym e ∙ free.units u
          (record { from = omega (arith, free.first); to = omega (arith, free.first, free.shape.within.n) })));
    },
    λ h. refl,
  )

  module _ (shapes : List Shape) (members : (s : Shape) → In s shapes ↔ IsFreeShape night covered u s) where
    pub unit_is : AllByRecursion (ShapeHolds asked night c) shapes → UnitHolds asked night covered c u
    unit_is all = record { holds = λ s free. all_in (ShapeHolds asked night c) shapes s all ((members s).1 free) }

    pub unit_each : UnitHolds asked night covered c u → AllByRecursion (ShapeHolds asked night c) shapes
    unit_each h = all_from (ShapeHolds asked night c) shapes (λ s i. h.holds s ((members s).0 i))

-- ---- cases

pub unit_of : (asked : Asked) (night : Night) (covered : Masks) (c : Case) → CaseHolds asked night covered c → (u : ℕ) → UnitHolds asked night covered c u
unit_of Every night covered c h u = record {
  holds = λ s free. record {
    holds = λ park own option room. h.holds s park (record {
      shape = record { shape = free.shape; first = refl; units = free.units; positions = free.positions };
      option = option;
    }) room;
  };
}
unit_of BesideStacks night covered c h u = record {
  holds = λ s free. record {
    holds = λ park own option room. h.holds s park (record { shape = record { shape = free.shape; first = refl; units = free.units; positions = free.positions }; option = option })
        own room;
  };
}

module _ (night : Night) (covered : Masks) (c : Case) (n : ℕ) (le : unit_total night ≤ n)
    (rooms : (a : ℕ) → a < length night.arrive → first_unit night a + length (train_at night.arrive a).units ≤ unit_total night) where
  units_each : (asked : Asked) → ((u : ℕ) → u < n → UnitHolds asked night covered c u) → (s : Shape) (park : Option Park) → IsFreeBlock night covered s park → IsAsked asked park
      → HasRoom night s park → duals_over night c.duals s ≤ℤ weight_with night c s park
  units_each asked units s park free own room =
      let r = free.shape.shape.within in
      ((units (unit_from night s) (omega (arith, rooms s.arr.0 r.arr, r.units, r.p, r.n, le))).holds s free.shape).holds park own free.option room

  pub case_is : (asked : Asked) → ((u : ℕ) → u < n → UnitHolds asked night covered c u) → CaseHolds asked night covered c
  case_is Every units = record { holds = λ s park free room. units_each Every units s park free tt room }
  case_is BesideStacks units = record { holds = λ s park free own room. units_each BesideStacks units s park free own room }

-- a case holds where its duals do with its multiplier, whatever its greatest number
module _ (night : Night) (covered : Masks) (c d : Case) (me : c.multiplier ≡ d.multiplier) (de : c.duals ≡ d.duals) where
  weighs : (s : Shape) (park : Option Park) → duals_over night c.duals s ≤ℤ weight_with night c s park → duals_over night d.duals s ≤ℤ weight_with night d s park
  weighs s park h = subst (λ (m : ℤ). duals_over night d.duals s ≤ℤ weight_with night (case_of m d.duals) s park) me
      (subst (λ (x : Duals). duals_over night x s ≤ℤ weight_with night (case_of c.multiplier x) s park) de h)

  pub retold : (asked : Asked) → CaseHolds asked night covered c → CaseHolds asked night covered d
  retold Every h = record { holds = λ s park free room. weighs s park (h.holds s park free room) }
  retold BesideStacks h = record { holds = λ s park free own room. weighs s park (h.holds s park free own room) }

pub only_case : (P : Case → Type 0) (c : Case) (b : Bool) → IsTrue b ↔ P c → IsTrue b ↔ All P (c ∷ [])
only_case P c b is = (λ t. All-cons P c [] (is.0 t) (All-nil P), λ h. is.1 (All-head P c [] h))

-- a case that was got, with its multiplier as it was passed on
pub case_back : (asked : Asked) (night : Night) (covered : Masks) (cases : List Case) (k : ℕ) (c : Case) (m : ℤ) → slice_get cases k ≡ Some c → m ≡ c.multiplier
    → CaseHolds asked night covered (case_of m c.duals) → CaseHolds asked night covered (case_at cases k)
case_back asked night covered cases k c m e same h = subst (CaseHolds asked night covered) (sym (got cases k c e)) (retold night covered (case_of m c.duals) c same refl asked h)

pub case_on : (asked : Asked) (night : Night) (covered : Masks) (cases : List Case) (k : ℕ) (c : Case) (m : ℤ) → slice_get cases k ≡ Some c → m ≡ c.multiplier → k < length cases
    → All (CaseHolds asked night covered) cases → CaseHolds asked night covered (case_of m c.duals)
case_on asked night covered cases k c m e same lt all = retold night covered c (case_of m c.duals) (sym same) refl asked
    (subst (CaseHolds asked night covered) (got cases k c e) (all k _ lt))
