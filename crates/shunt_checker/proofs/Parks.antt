-- Ways to park: from side to side, and from track to track.
use Rattle.std.specs.Prelude.{IsTrue, ◌↔◌, true, false, Bool, Option, Some, None, ◌≤ℤ◌, ◌<ℤ◌}
use Rattle.std.proofs.Common.{◌≡◌, inl, inr, ℕ, ◌*◌, ◌<◌, ◌≤◌, List, length, get_or, ℤ, pos, ◌+ℤ◌, refl, sym, ap, subst, ◌∙◌, arith}
use Rattle.std.proofs.lemmas.Int.{ints}
use Rattle.shunt_base.specs.declared.ids.Side.{Side}
use Rattle.shunt_base.specs.declared.ids.Side.TheVariants.{A, B}
use Rattle.shunt_base.specs.declared.ids.TrackId.{TrackId}
use Rattle.shunt_base.specs.declared.duals.Price.{Price}
use Rattle.shunt_base.specs.declared.duals.Case.{Case}
use Rattle.shunt_instance.specs.defs.Instance.{Night}
use Rattle.shunt_blocks.specs.declared.records.Shape.{Shape}
use Rattle.shunt_blocks.specs.declared.records.Park.{Park}
use Rattle.shunt_blocks.specs.defs.Shapes.{unit_from}
use Rattle.shunt_blocks.specs.defs.Costs.{cost_with}
use Rattle.shunt_blocks.specs.defs.Stays.{shape_length}
use Rattle.shunt_blocks.proofs.Made.{made_park}
use Rattle.shunt_choices.specs.defs.Choices.{Choice as PathChoice, ParkBefore, OptionBefore, LaterBefore}
use Rattle.shunt_prices.specs.defs.Prices.{track_length, price_part_with}
use Rattle.shunt_prices.specs.defs.Cases.{weight_with, duals_over}
use Rattle.shunt_proof.specs.declared.records.Version.{Version}
use Rattle.shunt_checker.specs.defs.Firsts.{Finds}
use Rattle.shunt_checker.specs.defs.Lights.{IsLightPark, IsLightBy, IsLightOn, IsLightParked, IsLight, IsLightShape, offered}
use Rattle.shunt_checker.specs.defs.NodeFaults.{EarlierChoice}
use Rattle.shunt_checker.proofs.Versioned.{unparked_asked}
use Rattle.shunt_prices.proofs.Counts.{no_part}

parked_as : (t : TrackId) (a : Side) (k : Park) → k.track ≡ t → k.side_in ≡ a → k ≡ made_park t a k.side_out
parked_as t a k et ea = ap (λ (w : TrackId). made_park w k.side_in k.side_out) et ∙ ap (λ (w : Side). made_park t w k.side_out) ea

not_before : (k l : Park) → k.track ≡ l.track → k.side_in ≡ B → l.side_in ≡ A → ParkBefore k l → ⊥
not_before k l same b a (inl less) = let e : k.track.0 ≡ l.track.0 = ap (λ (w : TrackId). w.0) same in omega (arith, e, less)
not_before k l same b a (inr (_, inl (first, second))) = let e : A ≡ B = sym first ∙ b in cc
not_before k l same b a (inr (_, inr (sides, _))) = let e : B ≡ A = sym b ∙ (sides ∙ a) in cc

module _ (version : Version) (night : Night) (s : Shape) (sum : ℤ) (part : ℕ) (track : TrackId) where
  pub neither : (side_in : Side) (a b : Bool) → IsTrue a ↔ IsLightPark version night s sum part (made_park track side_in A) → a ≡ false
      → IsTrue b ↔ IsLightPark version night s sum part (made_park track side_in B) → b ≡ false → Finds (IsLightBy version night s sum part track side_in) ParkBefore None
  neither side_in a b ha ea hb eb k h = by k.side_out (subst (IsLightPark version night s sum part) (parked_as track side_in k h.on h.by) h.light)
    where
      by : (o : Side) → IsLightPark version night s sum part (made_park track side_in o) → ⊥
      by A l = let t : a ≡ true = ha.1 l in cc
      by B l = let t : b ≡ true = hb.1 l in cc

  pub too_short : track_length night track.0 < shape_length night s → Finds (IsLightOn version night s sum part track) ParkBefore None
  too_short lt k h = let room = h.room in omega (arith, room, lt)

  by_side : (k : Park) → IsLightOn version night s sum part track k → (side : Side) → k.side_in ≡ side → IsLightBy version night s sum part track side k
  by_side k h side e = record { on = h.on; by = e; light = h.light }

  module _ (room : shape_length night s ≤ track_length night track.0) where
    on_it : (side : Side) (k : Park) → IsLightBy version night s sum part track side k → IsLightOn version night s sum part track k
    on_it side k h = record { on = h.on; room = room; light = h.light }

    pub by_first : (k : Park) → Finds (IsLightBy version night s sum part track A) ParkBefore (Some k) → Finds (IsLightOn version night s sum part track) ParkBefore (Some k)
    by_first k f = record { is = on_it A k f.is; first = λ l h before. by l h before l.side_in refl }
      where
        by : (l : Park) → IsLightOn version night s sum part track l → ParkBefore l k → (side : Side) → l.side_in ≡ side → ⊥
        by l h before A e = f.first l (by_side l h A e) before
        by l h before B e = not_before l k (h.on ∙ sym f.is.on) e f.is.by before

    neither_side : Finds (IsLightBy version night s sum part track A) ParkBefore None → Finds (IsLightBy version night s sum part track B) ParkBefore None
        → (k : Park) → IsLightOn version night s sum part track k → (side : Side) → k.side_in ≡ side → ⊥
    neither_side none f k h A e = none k (by_side k h A e)
    neither_side none f k h B e = f k (by_side k h B e)

    pub by_second : (r : Option Park) → Finds (IsLightBy version night s sum part track A) ParkBefore None → Finds (IsLightBy version night s sum part track B) ParkBefore r
        → Finds (IsLightOn version night s sum part track) ParkBefore r
    by_second None none f = λ k h. neither_side none f k h k.side_in refl
    by_second (Some k) none f = record { is = on_it B k f.is; first = λ l h before. by l h before l.side_in refl }
      where
        by : (l : Park) → IsLightOn version night s sum part track l → ParkBefore l k → (side : Side) → l.side_in ≡ side → ⊥
        by l h before A e = none l (by_side l h A e)
        by l h before B e = f.first l (by_side l h B e) before

-- ---- tracks

abbrev pub track_of : Park → ℕ
track_of k = k.track.0

pub tracks_rise : (k l : Park) → ParkBefore k l → k.track.0 ≤ l.track.0
tracks_rise k l (inl less) = omega (arith, less)
tracks_rise k l (inr (same, _)) = let e : k.track.0 ≡ l.track.0 = ap (λ (w : TrackId). w.0) same in omega (arith, e)

module _ (version : Version) (night : Night) (prices : List Price) (s : Shape) (sum : ℤ) (t : ℕ) (parts : List ℕ)
    (are : (k : Park) → k.track.0 < 60 → get_or parts k.track.0 0 ≡ price_part_with night prices s (Some k)) (few : t < 60) (there : t < length night.station.tracks) where
  part_is : (k : Park) → k.track.0 ≡ t → get_or parts t 0 ≡ price_part_with night prices s (Some k)
  part_is k e = subst (λ (w : ℕ). get_or parts w 0 ≡ price_part_with night prices s (Some k)) e (are k (omega (arith, e, few)))

  pub here_on : (k : Park) → IsLightParked version night prices s sum k → k.track.0 ≡ t → IsLightOn version night s sum (get_or parts t 0) (record { 0 = t }) k
  here_on k h e = record {
    on = ap (λ (w : ℕ). record { 0 = w }) e;
    room = subst (λ (w : ℕ). shape_length night s ≤ track_length night w) e h.room;
    light = subst (λ (p : ℕ). IsLightPark version night s sum p k) (sym (part_is k e)) h.light;
  }

  pub back_from : (k : Park) → IsLightOn version night s sum (get_or parts t 0) (record { 0 = t }) k → IsLightParked version night prices s sum k
  back_from k h =
      let e : k.track.0 ≡ t = ap (λ (w : TrackId). w.0) h.on in
      record {
        track = omega (arith, e, there);
        room = subst (λ (w : ℕ). shape_length night s ≤ track_length night w) (sym e) h.room;
        light = subst (λ (p : ℕ). IsLightPark version night s sum p k) (part_is k e) h.light;
      }

-- ---- options of a shape

-- a shape doesn't come before itself
pub not_later : (s t : Shape) → s ≡ t → LaterBefore s t → ⊥
not_later s t e (inl less) = let n : s.n ≡ t.n = ap (λ (w : Shape). w.n) e in omega (arith, n, less)
not_later s t e (inr (_, inl less)) = let d : s.dep.0 ≡ t.dep.0 = ap (λ (w : Shape). w.dep.0) e in omega (arith, d, less)
not_later s t e (inr (_, inr (_, less))) = let q : s.q ≡ t.q = ap (λ (w : Shape). w.q) e in omega (arith, q, less)

-- of one shape, the earlier choice has the earlier option
pub by_option : (night : Night) (c d : PathChoice) → c.shape ≡ d.shape → EarlierChoice night c d → OptionBefore c.option d.option
by_option night c d same (inl less) = absurd (let e : unit_from night c.shape ≡ unit_from night d.shape = ap (λ (w : Shape). unit_from night w) same in omega (arith, e, less))
by_option night c d same (inr (_, inl later)) = absurd (not_later c.shape d.shape same later)
by_option night c d same (inr (_, inr (_, before))) = before

not_unparked : (o : Option Park) → OptionBefore o None → ⊥
not_unparked o never = never

module _ (version : Version) (night : Night) (case : Case) (s : Shape) (sum : ℤ) (is : sum ≡ duals_over night case.duals s) where
  abbrev offer : Option Park → PathChoice
  offer o = record { shape = s; option = o }

  unparked_weight : weight_with night case s None ≡ pos (1000 * cost_with night s None) +ℤ case.multiplier
  unparked_weight = let none = no_part night case.duals.prices s in ap (λ (n : ℕ). pos n +ℤ case.multiplier) (omega (arith, none))

  pub unparked_light : (pos (1000 * cost_with night s None) +ℤ case.multiplier) <ℤ sum → Finds (IsLightShape version night case s) (EarlierChoice night) (Some (offer None))
  unparked_light lt = record {
    is = record { same = refl; holds = record { option = tt; room = tt; asked = unparked_asked version; light = let w = unparked_weight in omega (arith, ints, w, is, lt) } };
    first = λ c h before. not_unparked c.option (by_option night c (offer None) h.same before);
  }

  -- a light option that isn't unparked is one that is parked
  parked_one : sum ≤ℤ (pos (1000 * cost_with night s None) +ℤ case.multiplier) → (o : Option Park) → IsLight version night case (offer o)
      → (k : Park) × (o ≡ Some k) × IsLightParked version night case.duals.prices s sum k
  parked_one le None h = absurd (let w = unparked_weight in let lt = h.light in omega (arith, ints, w, is, le, lt))
  parked_one le (Some k) h = (
    k,
    refl,
    record {
      track = h.option.track;
      room = h.room;
      light = record { parkable = h.option; asked = h.asked; light = let lt = h.light in omega (arith, ints, is, lt) };
    },
  )

  light_parked : (k : Park) → IsLightParked version night case.duals.prices s sum k → IsLightShape version night case s (offer (Some k))
  light_parked k h = record {
    same = refl;
    holds = record {
      option = h.light.parkable;
      room = h.room;
      asked = h.light.asked;
      light = let lt = h.light.light in omega
          (arith, ints, is, lt);
    };
  }

  of_shape : (c : PathChoice) → IsLightShape version night case s c → IsLight version night case (offer c.option)
  of_shape c h = subst (λ (w : Shape). IsLight version night case (record { shape = w; option = c.option })) h.same h.holds

  pub none_light : sum ≤ℤ (pos (1000 * cost_with night s None) +ℤ case.multiplier) → Finds (IsLightParked version night case.duals.prices s sum) ParkBefore None
      → Finds (IsLightShape version night case s) (EarlierChoice night) None
  none_light le none c h = let p = parked_one le c.option (of_shape c h) in none p.0 p.2

  pub parked_first : sum ≤ℤ (pos (1000 * cost_with night s None) +ℤ case.multiplier) → (k : Park) → Finds (IsLightParked version night case.duals.prices s sum) ParkBefore (Some k)
      → Finds (IsLightShape version night case s) (EarlierChoice night) (Some (offer (Some k)))
  parked_first le k f = record {
    is = light_parked k f.is;
    first = λ c h before.
        let p = parked_one le c.option (of_shape c h) in
        f.first p.0 p.2 (subst (λ (o : Option Park). OptionBefore o (Some k)) p.1 (by_option night c (offer (Some k)) h.same before));
  }

  pub light_among : sum ≤ℤ (pos (1000 * cost_with night s None) +ℤ case.multiplier) → (r : Option Park) → Finds (IsLightParked version night case.duals.prices s sum) ParkBefore r
      → Finds (IsLightShape version night case s) (EarlierChoice night) (offered s r)
  light_among le None f = none_light le f
  light_among le (Some k) f = parked_first le k f
