-- The options of a shape and the choices for a unit: exactly those, in their order, each once.
use Rattle.std.specs.Prelude.{◌↔◌, ◌≢◌, is_some, IfSome, AllPairs, Option, Some, None}
use Rattle.std.specs.List.{range_with_len}
use Rattle.std.proofs.Common.{◌≡◌, inl, inr, ℕ, ◌<◌, true, List, [], ◌∷◌, map, length, get_or, refl, sym, ap, subst, ◌∙◌, arith}
use Rattle.std.proofs.lemmas.Bool.{true≢false}
use Rattle.shunt_base.specs.defs.Sides.{same_side}
use Rattle.shunt_lists.proofs.Members.{in_map, of_map, filter_from, filter_to, of_flat, in_flat}
use Rattle.shunt_lists.specs.defs.Members.{In, AreDistinct}
use Rattle.shunt_base.specs.declared.ids.Side.{Side}
use Rattle.shunt_base.specs.declared.ids.Side.TheVariants.{A, B}
use Rattle.shunt_instance.specs.defs.Instance.{Night, IsInstance, unit_total}
use Rattle.shunt_blocks.specs.declared.records.Shape.{Shape}
use Rattle.shunt_blocks.specs.declared.records.Park.{Park}
use Rattle.shunt_choices.specs.defs.Paths.{Masks}
use Rattle.shunt_blocks.specs.defs.Ways.{park_way_in, park_way_out, permits_units}
use Rattle.shunt_blocks.specs.defs.Blocks.{IsOption, IsParkable, can_park, is_option}
use Rattle.shunt_blocks.proofs.Made.{parked}
use Rattle.shunt_choices.specs.defs.Choices.{ShapeBefore, ParkBefore, OptionBefore, Choice, ChoiceBefore, IsChoice, parks_on, parks_below, candidates, options_of, shapes_of, choices_with, choices_of}
use Rattle.shunt_choices.proofs.Given.{PlaceLaws}
use Rattle.shunt_lists.proofs.Ranges.{range_in, in_range}
use Rattle.shunt_choices.proofs.Ordered.{Follows, all_pairs, follows_map, follows_filter, follows_flat, follows_range}
use Rattle.shunt_choices.proofs.Chosen.{shapes_are, shapes_follow}
use Rattle.shunt_lists.proofs.Tests.{all_three as three_true, from_three}

-- ---- tracks with sides

in_four : (t : ℕ) (a b : Side) → In (parked t a b) (parks_on t)
in_four t A A = inl refl
in_four t A B = inr (inl refl)
in_four t B A = inr (inr (inl refl))
in_four t B B = inr (inr (inr (inl refl)))

on_its_track : (t : ℕ) (k : Park) → In k (parks_on t) → k.track.0 ≡ t
on_its_track t k (inl e) = ap (λ (k : Park). k.track.0) e
on_its_track t k (inr (inl e)) = ap (λ (k : Park). k.track.0) e
on_its_track t k (inr (inr (inl e))) = ap (λ (k : Park). k.track.0) e
on_its_track t k (inr (inr (inr (inl e)))) = ap (λ (k : Park). k.track.0) e
on_its_track t k (inr (inr (inr (inr never)))) = elim never [ ]

after_aa : (t : ℕ) (k : Park) → In k (parked t A B ∷ parked t B A ∷ parked t B B ∷ []) → ParkBefore (parked t A A) k
after_aa t k (inl e) = subst (ParkBefore (parked t A A)) (sym e) (inr (refl, inr (refl, (refl, refl))))
after_aa t k (inr (inl e)) = subst (ParkBefore (parked t A A)) (sym e) (inr (refl, inl (refl, refl)))
after_aa t k (inr (inr (inl e))) = subst (ParkBefore (parked t A A)) (sym e) (inr (refl, inl (refl, refl)))
after_aa t k (inr (inr (inr never))) = elim never [ ]

after_ab : (t : ℕ) (k : Park) → In k (parked t B A ∷ parked t B B ∷ []) → ParkBefore (parked t A B) k
after_ab t k (inl e) = subst (ParkBefore (parked t A B)) (sym e) (inr (refl, inl (refl, refl)))
after_ab t k (inr (inl e)) = subst (ParkBefore (parked t A B)) (sym e) (inr (refl, inl (refl, refl)))
after_ab t k (inr (inr never)) = elim never [ ]

after_ba : (t : ℕ) (k : Park) → In k (parked t B B ∷ []) → ParkBefore (parked t B A) k
after_ba t k (inl e) = subst (ParkBefore (parked t B A)) (sym e) (inr (refl, inr (refl, (refl, refl))))
after_ba t k (inr never) = elim never [ ]

four_follow : (t : ℕ) → Follows ParkBefore (parks_on t)
four_follow t = (after_aa t, (after_ab t, (after_ba t, ((λ k i. absurd i), tt))))

parks_follow : (n : ℕ) → Follows ParkBefore (parks_below n)
parks_follow n =
    follows_flat (λ t r. t < r) ParkBefore parks_on (range_with_len 0 n) (follows_range 0 n) (λ t i. four_follow t)
    (λ t r i j lt a b k l. inl (omega (arith, on_its_track t a k, on_its_track r b l)))

-- ---- options

parkable : (night : Night) (s : Shape) (k : Park) → k.track.0 < length night.station.tracks → can_park night s k ≡ true → IsParkable night s k
parkable night s k lt t =
    let three = three_true (is_some (park_way_in night s k)) (is_some (park_way_out night s.dep k)) (permits_units night s k.track) t in
    record { track = lt; permitted = three.2; way_in = three.0; way_out = three.1 }

can_be : (night : Night) (s : Shape) (k : Park) → IsParkable night s k → can_park night s k ≡ true
can_be night s k h = from_three (is_some (park_way_in night s k)) (is_some (park_way_out night s.dep k)) (permits_units night s k.track) h.way_in h.way_out h.permitted

low_track : (n : ℕ) (k : Park) → In k (parks_below n) → k.track.0 < n
low_track n k i =
    let row = of_flat parks_on (range_with_len 0 n) k i in
    omega (arith, on_its_track row.0 k row.2, (range_in 0 n row.0 row.1).1)

in_parks : (n : ℕ) (k : Park) → k.track.0 < n → In k (parks_below n)
in_parks n k lt = in_flat parks_on (range_with_len 0 n) k.track.0 k (in_range 0 n k.track.0 (omega arith) (omega arith)) (in_four k.track.0 k.side_in k.side_out)

abbrev some : Park → Option Park
some k = Some k

some_is_low : (n : ℕ) (o : Option Park) → In o (map some (parks_below n)) → IfSome o (λ k. k.track.0 < n)
some_is_low n o i = let m = of_map some (parks_below n) o i in subst (λ (o : Option Park). IfSome o (λ k. k.track.0 < n)) (sym m.2) (low_track n m.0 m.1)

is_low : (n : ℕ) (o : Option Park) → In o (candidates n) → IfSome o (λ k. k.track.0 < n)
is_low n o (inl e) = subst (λ (o : Option Park). IfSome o (λ k. k.track.0 < n)) (sym e) tt
is_low n o (inr i) = some_is_low n o i

from_test : (night : Night) (s : Shape) (o : Option Park) → IfSome o (λ k. k.track.0 < length night.station.tracks) → is_option night s o ≡ true → IsOption night s o
unfolding is_option
from_test night s None low t = tt
from_test night s (Some k) low t = parkable night s k low t

to_test : (night : Night) (s : Shape) (o : Option Park) → IsOption night s o → is_option night s o ≡ true
unfolding is_option
to_test night s None h = refl
to_test night s (Some k) h = can_be night s k h

is_candidate : (night : Night) (s : Shape) (o : Option Park) → IsOption night s o → In o (candidates (length night.station.tracks))
is_candidate night s None h = inl refl
is_candidate night s (Some k) h = inr (in_map some (parks_below (length night.station.tracks)) k (in_parks (length night.station.tracks) k h.track))

of_options : (night : Night) (s : Shape) (o : Option Park) → In o (options_of night s) → IsOption night s o
unfolding options_of
of_options night s o i =
    let passed = filter_from (is_option night s) (candidates (length night.station.tracks)) o i in
    from_test night s o (is_low (length night.station.tracks) o passed.0) passed.1

in_options : (night : Night) (s : Shape) (o : Option Park) → IsOption night s o → In o (options_of night s)
unfolding options_of
in_options night s o h = filter_to (is_option night s) (candidates (length night.station.tracks)) o (is_candidate night s o h) (to_test night s o h)

pub options_are : (night : Night) (s : Shape) (o : Option Park) → In o (options_of night s) ↔ IsOption night s o
options_are night s o = (of_options night s o, in_options night s o)

candidates_follow : (n : ℕ) → Follows OptionBefore (candidates n)
candidates_follow n = (
  λ o i. let m = of_map some (parks_below n) o i in subst (OptionBefore None) (sym m.2) tt,
  follows_map ParkBefore OptionBefore some (parks_below n) (λ k l i j before. before) (parks_follow n),
)

options_follow : (night : Night) (s : Shape) → Follows OptionBefore (options_of night s)
unfolding options_of
options_follow night s = follows_filter OptionBefore (is_option night s) (candidates (length night.station.tracks)) (candidates_follow (length night.station.tracks))

pub options_rise : (night : Night) (s : Shape) → AllPairs OptionBefore (options_of night s)
options_rise night s = all_pairs OptionBefore (options_of night s) (options_follow night s)

pub shapes_rise : (night : Night) (covered : Masks) (u : ℕ) → IsInstance night → AllPairs ShapeBefore (shapes_of night covered u)
unfolding IsInstance
shapes_rise night covered u h = all_pairs ShapeBefore (shapes_of night covered u) (shapes_follow night covered u h)

-- ---- choices

abbrev with_option : Shape → Option Park → Choice
with_option s o = record { shape = s; option = o }

choice_shape : (night : Night) (s : Shape) (c : Choice) → In c (choices_with night s) → c.shape ≡ s
choice_shape night s c i = ap (λ (c : Choice). c.shape) (of_map (with_option s) (options_of night s) c i).2

of_choices : (places : PlaceLaws) (night : Night) (covered : Masks) (u : ℕ) (c : Choice) → IsInstance night → u < unit_total night → In c (choices_of night covered u)
    → IsChoice night covered u c
of_choices places night covered u c h lu i =
    let row = of_flat (choices_with night) (shapes_of night covered u) c i in
    let cell = of_map (with_option row.0) (options_of night row.0) c row.2 in
    subst (IsChoice night covered u) (sym cell.2) (record { shape = (shapes_are places night covered u row.0 h lu).0 row.1; option = of_options night row.0 cell.0 cell.1 })

in_choices : (places : PlaceLaws) (night : Night) (covered : Masks) (u : ℕ) (c : Choice) → IsInstance night → u < unit_total night → IsChoice night covered u c
    → In c (choices_of night covered u)
in_choices places night covered u c h lu f =
    in_flat (choices_with night) (shapes_of night covered u) c.shape c ((shapes_are places night covered u c.shape h lu).1 f.shape)
    (in_map (with_option c.shape) (options_of night c.shape) c.option (in_options night c.shape c.option f.option))

pub choices_are : (places : PlaceLaws) (night : Night) (covered : Masks) (u : ℕ) (c : Choice) → IsInstance night → u < unit_total night
    → In c (choices_of night covered u) ↔ IsChoice night covered u c
choices_are places night covered u c h lu = (of_choices places night covered u c h lu, in_choices places night covered u c h lu)

shapes_in_order : (night : Night) (covered : Masks) (u : ℕ) → IsInstance night → Follows ShapeBefore (shapes_of night covered u)
unfolding IsInstance
shapes_in_order night covered u h = shapes_follow night covered u h

pub choices_rise : (night : Night) (covered : Masks) (u : ℕ) → IsInstance night → AllPairs ChoiceBefore (choices_of night covered u)
choices_rise night covered u h = all_pairs ChoiceBefore (choices_of night covered u)
    (follows_flat ShapeBefore ChoiceBefore (choices_with night) (shapes_of night covered u) (shapes_in_order night covered u h)
    (λ s i. follows_map OptionBefore ChoiceBefore (with_option s) (options_of night s) (λ o p j k before. inr (refl, before)) (options_follow night s))
    (λ s t i j before a b k l. inl (subst (λ (x : Shape). ShapeBefore x b.shape) (sym (choice_shape night s a k)) (subst (ShapeBefore s) (sym (choice_shape night t b l)) before))))

-- ---- none comes before itself

a_not_b : A ≢ B
a_not_b e = true≢false (ap (same_side A) e)

shape_apart : (s : Shape) → ShapeBefore s s → ⊥
shape_apart s (inl lt) = omega (arith, lt)
shape_apart s (inr (e, inl lt)) = omega (arith, lt)
shape_apart s (inr (e, inr (f, inl lt))) = omega (arith, lt)
shape_apart s (inr (e, inr (f, inr (g, inl lt)))) = omega (arith, lt)
shape_apart s (inr (e, inr (f, inr (g, inr (h, lt))))) = omega (arith, lt)

park_apart : (k : Park) → ParkBefore k k → ⊥
park_apart k (inl lt) = omega (arith, lt)
park_apart k (inr (e, inl (a, b))) = a_not_b (sym a ∙ b)
park_apart k (inr (e, inr (f, (a, b)))) = a_not_b (sym a ∙ b)

option_apart : (o : Option Park) → OptionBefore o o → ⊥
option_apart None h = h
option_apart (Some k) h = park_apart k h

choice_apart : (c : Choice) → ChoiceBefore c c → ⊥
choice_apart c (inl h) = shape_apart c.shape h
choice_apart c (inr (e, h)) = option_apart c.option h

once : {X : Type 0} (R : X → X → Type 0) (xs : List X) → ((x : X) → R x x → ⊥) → AllPairs R xs → AreDistinct xs
once R xs apart rise i j d before within e = apart _ (subst (R (get_or xs i d)) (sym e) (rise i j d before within))

pub choices_once : (night : Night) (covered : Masks) (u : ℕ) → IsInstance night → AreDistinct (choices_of night covered u)
choices_once night covered u h = once ChoiceBefore (choices_of night covered u) choice_apart (choices_rise night covered u h)
