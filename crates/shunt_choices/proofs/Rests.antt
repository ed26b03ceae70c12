-- What the iterators of shapes and options still give, one step on.
use Rattle.std.specs.Prelude.{nat_le, filter, IfSome, Option, Some, None}
use Rattle.std.specs.List.{flat_map, range_with_len}
use Rattle.std.proofs.Common.{◌≡◌, ℕ, zero, suc, ◌+◌, ◌-◌, ◌*◌, ◌/◌, ◌%◌, ◌<◌, ◌≤◌, true, false, List, [], ◌∷◌, ◌++◌, map, length, get_or, drop, refl, sym, ap, ◌∙◌, arith}
use Rattle.std.proofs.lemmas.List.{drop_more, drop_all, get_or-map, length-map}
use Rattle.shunt_lists.proofs.Members.{filter_yes, filter_no}
use Rattle.shunt_base.specs.declared.ids.Side.TheVariants.{A, B}
use Rattle.shunt_instance.specs.defs.Instance.{Night, position_total}
use Rattle.shunt_blocks.specs.declared.records.Shape.{Shape}
use Rattle.shunt_blocks.specs.declared.records.Park.{Park}
use Rattle.shunt_choices.specs.defs.Choices.{shape_at, parks_on, parks_below, candidates}
use Rattle.shunt_choices.specs.defs.Cursors.{row_left, rows_left, shapes_left, options_left, side_numbered, candidate}
use Rattle.shunt_blocks.specs.defs.Blocks.{is_option}
use Rattle.shunt_blocks.proofs.Made.{parked, same_park}
use Rattle.shunt_lists.proofs.Tests.{one_left as one_more}

-- ---- shapes

row_gives : (night : Night) (u : ℕ) (reach : List ℕ) (n v many : ℕ) → nat_le n (get_or reach v 0) ≡ true
    → row_left night u reach n v (suc many) ≡ shape_at night u n v ∷ row_left night u reach n (v + 1) many
row_gives night u reach n v many t = ap (map (shape_at night u n)) (filter_yes (λ w. nat_le n (get_or reach w 0)) v (range_with_len (v + 1) many) t)

row_skips : (night : Night) (u : ℕ) (reach : List ℕ) (n v many : ℕ) → nat_le n (get_or reach v 0) ≡ false
    → row_left night u reach n v (suc many) ≡ row_left night u reach n (v + 1) many
row_skips night u reach n v many t = ap (map (shape_at night u n)) (filter_no (λ w. nat_le n (get_or reach w 0)) v (range_with_len (v + 1) many) t)

pub gives : (night : Night) (u : ℕ) (reach : List ℕ) (most n v : ℕ) → v < position_total night → nat_le n (get_or reach v 0) ≡ true
    → shapes_left night u reach most n v ≡ shape_at night u n v ∷ shapes_left night u reach most n (v + 1)
unfolding shapes_left
gives night u reach most n v lt t =
    ap (λ (k : ℕ). row_left night u reach n v k ++ rows_left night u reach (n + 1) (most - n)) (one_more v (position_total night) lt)
    ∙ ap (λ (r : List Shape). r ++ rows_left night u reach (n + 1) (most - n)) (row_gives night u reach n v (position_total night - (v + 1)) t)

pub skips : (night : Night) (u : ℕ) (reach : List ℕ) (most n v : ℕ) → v < position_total night → nat_le n (get_or reach v 0) ≡ false
    → shapes_left night u reach most n v ≡ shapes_left night u reach most n (v + 1)
unfolding shapes_left
skips night u reach most n v lt t =
    ap (λ (k : ℕ). row_left night u reach n v k ++ rows_left night u reach (n + 1) (most - n)) (one_more v (position_total night) lt)
    ∙ ap (λ (r : List Shape). r ++ rows_left night u reach (n + 1) (most - n)) (row_skips night u reach n v (position_total night - (v + 1)) t)

whole : (total : ℕ) → total - 0 ≡ total
whole total = omega arith

none_left : (v total : ℕ) → total ≤ v → total - v ≡ 0
none_left v total le = omega arith

pub turns : (night : Night) (u : ℕ) (reach : List ℕ) (most n v : ℕ) → position_total night ≤ v → n < most
    → shapes_left night u reach most n v ≡ shapes_left night u reach most (n + 1) 0
unfolding shapes_left
turns night u reach most n v le lt =
    ap (λ (k : ℕ). row_left night u reach n v k ++ rows_left night u reach (n + 1) (most - n)) (none_left v (position_total night) le)
    ∙ ap (rows_left night u reach (n + 1)) (one_more n most lt)
    ∙ ap (λ (k : ℕ). row_left night u reach (n + 1) 0 k ++ rows_left night u reach (n + 1 + 1) (most - (n + 1))) (sym (whole (position_total night)))

pub ends : (night : Night) (u : ℕ) (reach : List ℕ) (most n v : ℕ) → position_total night ≤ v → most ≤ n → shapes_left night u reach most n v ≡ []
unfolding shapes_left
ends night u reach most n v le done =
    ap (λ (k : ℕ). row_left night u reach n v k ++ rows_left night u reach (n + 1) (most - n)) (none_left v (position_total night) le)
    ∙ ap (rows_left night u reach (n + 1)) (none_left n most done)

-- ---- options

abbrev some : Park → Option Park
some k = Some k

abbrev park_of : ℕ → ℕ → Park
park_of t i = parked (t + i / 4) (side_numbered (i / 2 % 2)) (side_numbered (i % 2))

park_at : (t n i : ℕ) (d : Park) → i < 4 * n → get_or (flat_map parks_on (range_with_len t n)) i d ≡ park_of t i
park_at t zero i d lt = absurd (omega arith)
park_at t (suc n) zero d lt = same_park t (t + 0 / 4) A A A A (omega arith) refl refl
park_at t (suc n) (suc zero) d lt = same_park t (t + 1 / 4) A A B B (omega arith) refl refl
park_at t (suc n) (suc (suc zero)) d lt = same_park t (t + 2 / 4) B B A A (omega arith) refl refl
park_at t (suc n) (suc (suc (suc zero))) d lt = same_park t (t + 3 / 4) B B B B (omega arith) refl refl
park_at t (suc n) (suc (suc (suc (suc i)))) d lt =
    park_at (t + 1) n i d (omega arith)
    ∙ same_park (t + 1 + i / 4) (t + suc (suc (suc (suc i))) / 4) (side_numbered (i / 2 % 2)) (side_numbered (suc (suc (suc (suc i))) / 2 % 2)) (side_numbered (i % 2))
    (side_numbered (suc (suc (suc (suc i))) % 2)) (omega arith) (ap side_numbered (omega arith)) (ap side_numbered (omega arith))

parks_many : (t n : ℕ) → length (flat_map parks_on (range_with_len t n)) ≡ 4 * n
parks_many t zero = refl
parks_many t (suc n) = omega (arith, parks_many (t + 1) n)

many : (n : ℕ) → length (candidates n) ≡ 4 * n + 1
many n = omega (arith, parks_many 0 n, length-map (parks_below n) some)

some_alike : (k l : Park) → k ≡ l → some k ≡ some l
some_alike k l e = cc

at_number : (n at : ℕ) → at < 4 * n + 1 → get_or (candidates n) at None ≡ candidate at
unfolding candidate
at_number n zero lt = refl
at_number n (suc pair) lt =
    get_or-map some (parks_below n) pair (parked 0 A A) None (omega (arith, parks_many 0 n))
    ∙ some_alike _ (park_of 0 pair) (park_at 0 n pair (parked 0 A A) (omega arith))
    ∙ some_alike (park_of 0 pair) (parked (pair / 4) (side_numbered (pair / 2 % 2)) (side_numbered (pair % 2)))
    (same_park (0 + pair / 4) (pair / 4) (side_numbered (pair / 2 % 2)) (side_numbered (pair / 2 % 2)) (side_numbered (pair % 2)) (side_numbered (pair % 2))
    (omega arith) refl refl)

pub on_track : (n at : ℕ) → at < 4 * n + 1 → IfSome (candidate at) (λ k. k.track.0 < n)
unfolding candidate
on_track n zero lt = tt
on_track n (suc pair) lt = let low : pair / 4 < n = omega arith in low

one_on : (night : Night) (at : ℕ) → at < 4 * length night.station.tracks + 1 → drop at (candidates (length night.station.tracks))
    ≡ candidate at ∷ drop (at + 1) (candidates (length night.station.tracks))
one_on night at lt =
    let n = length night.station.tracks in
    drop_more (candidates n) at None (omega (arith, many n)) ∙ ap (λ (o : Option Park). o ∷ drop (at + 1) (candidates n)) (at_number n at lt)

pub option_given : (night : Night) (s : Shape) (at : ℕ) → at < 4 * length night.station.tracks + 1 → is_option night s (candidate at) ≡ true
    → options_left night s at ≡ candidate at ∷ options_left night s (at + 1)
unfolding options_left
option_given night s at lt t = ap (filter (is_option night s)) (one_on night at lt)
    ∙ filter_yes (is_option night s) (candidate at) (drop (at + 1) (candidates (length night.station.tracks))) t

pub option_skipped : (night : Night) (s : Shape) (at : ℕ) → at < 4 * length night.station.tracks + 1 → is_option night s (candidate at) ≡ false
    → options_left night s at ≡ options_left night s (at + 1)
unfolding options_left
option_skipped night s at lt t = ap (filter (is_option night s)) (one_on night at lt)
    ∙ filter_no (is_option night s) (candidate at) (drop (at + 1) (candidates (length night.station.tracks))) t

pub options_end : (night : Night) (s : Shape) (at : ℕ) → 4 * length night.station.tracks + 1 ≤ at → options_left night s at ≡ []
unfolding options_left
options_end night s at le = ap (filter (is_option night s)) (drop_all at (candidates (length night.station.tracks)) (omega (arith, many (length night.station.tracks))))
