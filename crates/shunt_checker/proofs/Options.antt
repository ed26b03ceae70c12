-- Options of one shape by their numbers.
use Rattle.std.specs.Prelude.{Option, Some, None}
use Rattle.std.proofs.Common.{◌≡◌, ⊎_elim, inl, inr, ℕ, ◌+◌, ◌*◌, ◌<◌, ◌≤◌, length, refl, ap, subst, arith}
use Rattle.std.proofs.lemmas.Bool.{cases_lt}
use Rattle.shunt_base.specs.declared.ids.Side.{Side}
use Rattle.shunt_base.specs.declared.ids.Side.TheVariants.{A, B}
use Rattle.shunt_base.specs.declared.ids.TrackId.{TrackId}
use Rattle.shunt_instance.specs.declared.records.Station.{Station}
use Rattle.shunt_instance.specs.defs.Instance.{Night}
use Rattle.shunt_blocks.specs.declared.records.Shape.{Shape}
use Rattle.shunt_blocks.specs.declared.records.Park.{Park}
use Rattle.shunt_blocks.specs.defs.Shapes.{IsOnTrack}
use Rattle.shunt_blocks.specs.defs.Blocks.{IsOption}
use Rattle.shunt_choices.specs.defs.Choices.{Choice as PathChoice, OptionBefore}
use Rattle.shunt_checker.specs.defs.Firsts.{Finds, HoldsNotBelow}
use Rattle.shunt_checker.specs.defs.Searches.{IsOneOfShape}
use Rattle.shunt_checker.specs.defs.NodeFaults.{EarlierChoice}
use Rattle.shunt_checker.specs.defs.Lows.{offer_of}
use Rattle.shunt_checker.specs.defs.Misses.{side_number, option_number}
use Rattle.shunt_checker.proofs.Parks.{by_option}
use Rattle.shunt_checker.proofs.Listed.{park_from as park_is}

small : (s : Side) → side_number s ≤ 1
small A = omega arith
small B = omega arith

side_is : (s t : Side) → side_number s ≡ side_number t → s ≡ t
side_is A A e = refl
side_is A B e = absurd (omega (arith, e))
side_is B A e = absurd (omega (arith, e))
side_is B B e = refl

pub numbers_rise : (o p : Option Park) → OptionBefore o p → option_number o < option_number p
numbers_rise o None never = absurd never
numbers_rise None (Some l) t = omega arith
numbers_rise (Some k) (Some l) (inl less) = omega (arith, less, small k.side_in, small k.side_out)
numbers_rise (Some k) (Some l) (inr (same, inl (a, b))) =
    let e : k.track.0 ≡ l.track.0 = ap (λ (w : TrackId). w.0) same in
    let first : side_number k.side_in ≡ 0 = ap side_number a in
    let second : side_number l.side_in ≡ 1 = ap side_number b in
    omega (arith, e, first, second, small k.side_out)
numbers_rise (Some k) (Some l) (inr (same, inr (sides, (a, b)))) =
    let e : k.track.0 ≡ l.track.0 = ap (λ (w : TrackId). w.0) same in
    let s : side_number k.side_in ≡ side_number l.side_in = ap side_number sides in
    let first : side_number k.side_out ≡ 0 = ap side_number a in
    let second : side_number l.side_out ≡ 1 = ap side_number b in
    omega (arith, e, s, first, second)

pub one_option : (o p : Option Park) → option_number o ≡ option_number p → o ≡ p
one_option None None e = refl
one_option None (Some l) e = absurd (omega (arith, e))
one_option (Some k) None e = absurd (omega (arith, e))
one_option (Some k) (Some l) e =
    let ki = small k.side_in in
    let ko = small k.side_out in
    let li = small l.side_in in
    let lo = small l.side_out in
    ap (λ (w : Park). Some w) (park_is k l (omega (arith, e, ki, ko, li, lo)) (side_is k.side_in l.side_in (omega (arith, e, ki, ko, li, lo)))
    (side_is k.side_out l.side_out (omega (arith, e, ki, ko, li, lo))))

pub number_within : (night : Night) (s : Shape) (o : Option Park) → IsOption night s o → option_number o < 4 * length night.station.tracks + 1
number_within night s None h = omega arith
number_within night s (Some k) h = let track = h.track in omega (arith, track, small k.side_in, small k.side_out)

pub on_track_by : (station : Station) (o : Option Park) (n : ℕ) → option_number o ≡ n → n < 4 * length station.tracks + 1 → IsOnTrack station o
on_track_by station None n e lt = tt
on_track_by station (Some k) n e lt = omega (arith, e, lt)

abbrev pub number_of : PathChoice → ℕ
number_of c = option_number c.option

module _ (night : Night) (Holds : PathChoice → Type 0) (s : Shape) (n : ℕ) (o : Option Park) (at : option_number o ≡ n) where
  here : (c : PathChoice) → IsOneOfShape Holds s c → number_of c ≡ n → Holds (offer_of s o)
  here c h e = subst (λ (p : Option Park). Holds (offer_of s p)) (one_option c.option o (omega (arith, e, at))) (subst (λ (t : Shape). Holds (offer_of t c.option)) h.same h.holds)

  pub option_passed : HoldsNotBelow (IsOneOfShape Holds s) number_of n → (Holds (offer_of s o) → ⊥) → HoldsNotBelow (IsOneOfShape Holds s) number_of (n + 1)
  option_passed below never c h lt = ⊎_elim (λ less. below c h less) (λ past. never (here c h (omega (arith, lt, past)))) (cases_lt (number_of c) n)

  pub option_found : HoldsNotBelow (IsOneOfShape Holds s) number_of n → Holds (offer_of s o) → Finds (IsOneOfShape Holds s) (EarlierChoice night) (Some (offer_of s o))
  option_found below holds = record {
    is = record { same = refl; holds = holds };
    first = λ c h before.
        let earlier = by_option night c (offer_of s o) h.same before in
        let lt = numbers_rise c.option o earlier in
        below c h (omega (arith, lt, at));
  }
