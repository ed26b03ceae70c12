-- How far free runs go, and the shapes that a table of their lengths gives.
use Rattle.std.specs.Prelude.{◌&&◌, nat_le, filter}
use Rattle.std.specs.List.{flat_map, range_with_len}
use Rattle.std.proofs.Common.{◌≡◌, ⊎_elim, ℕ, zero, suc, ◌+◌, ◌-◌, ◌<◌, ◌≤◌, Bool, true, false, List, [], ◌∷◌, ◌++◌, map, length, get_or, slice_set, refl, sym, ap, subst, ◌∙◌, arith}
use Rattle.std.proofs.lemmas.Bool.{cases_lt, cases_eq, cases_Bool, true≢false, le-leb, lt-leb, false_from_ne_true}
use Rattle.std.proofs.lemmas.List.{get_or-set_same, get_or-set_other}
use Rattle.shunt_lists.proofs.TestsBelow.{each_passes, all_pass}
use Rattle.shunt_lists.specs.defs.Below.{all_below}
use Rattle.shunt_lists.proofs.Members.{filter_yes, filter_no}
use Rattle.shunt_instance.specs.defs.Instance.{Night, position_total}
use Rattle.shunt_blocks.specs.declared.records.Shape.{Shape}
use Rattle.shunt_choices.specs.defs.Paths.{Masks}
use Rattle.shunt_choices.specs.defs.Free.{is_free_pair, is_free_run, has_units, has_positions}
use Rattle.shunt_choices.specs.defs.Choices.{shape_at, shapes_of_length, shapes_of}
use Rattle.shunt_choices.specs.defs.Cursors.{row_left, rows_left, shapes_left}

-- ---- the run from a unit and a position

fails_at : (n k : ℕ) (test : ℕ → Bool) → k < n → test k ≡ false → all_below n test ≡ false
fails_at n k test lt no' = false_from_ne_true (all_below n test) (λ all. true≢false (sym (each_passes n test all k lt) ∙ no'))

all_three : (a b c : Bool) → (a && b) ≡ true → c ≡ true → (a && b && c) ≡ true
all_three true true true e f = refl
all_three true true false e f = f
all_three true false c e f = e
all_three false b c e f = e

not_third : (a b c : Bool) → c ≡ false → (a && b && c) ≡ false
not_third true true c e = e
not_third true false c e = refl
not_third false b c e = refl

not_two : (a b c : Bool) → (a && b) ≡ false → (a && b && c) ≡ false
not_two true true c e = absurd (true≢false e)
not_two true false c e = refl
not_two false b c e = refl

inside : (night : Night) (covered : Masks) (u v n room k : ℕ) → nat_le n room ≡ (has_units night u n && has_positions night v n) → k ≤ room
    → all_below k (λ k. is_free_pair night covered (u + k) (v + k)) ≡ true → n ≤ k → is_free_run night covered u n v ≡ true
unfolding is_free_run
inside night covered u v n room k fits within all le =
    all_three (has_units night u n) (has_positions night v n) _ (sym fits ∙ le-leb n room (omega arith))
    (all_pass n _ (λ j lt. each_passes k (λ k. is_free_pair night covered (u + k) (v + k)) all j (omega arith)))

blocked : (night : Night) (covered : Masks) (u v n k : ℕ) → is_free_pair night covered (u + k) (v + k) ≡ false → k < n → is_free_run night covered u n v ≡ false
unfolding is_free_run
blocked night covered u v n k no' lt = not_third (has_units night u n) (has_positions night v n) _ (fails_at n k (λ k. is_free_pair night covered (u + k) (v + k)) lt no')

outside : (night : Night) (covered : Masks) (u v n room : ℕ) → nat_le n room ≡ (has_units night u n && has_positions night v n) → room < n → is_free_run night covered u n v ≡ false
unfolding is_free_run
outside night covered u v n room fits lt = not_two (has_units night u n) (has_positions night v n) _ (sym fits ∙ lt-leb n room lt)

-- the first pair that isn't free ends it
pub stops : (night : Night) (covered : Masks) (u v room k : ℕ) → ((n : ℕ) → nat_le n room ≡ (has_units night u n && has_positions night v n)) → k < room
    → all_below k (λ k. is_free_pair night covered (u + k) (v + k)) ≡ true → is_free_pair night covered (u + k) (v + k) ≡ false → (n : ℕ)
    → nat_le n k ≡ is_free_run night covered u n v
stops night covered u v room k fits lt all no' n =
    ⊎_elim
    (λ more. lt-leb n k more ∙ sym (blocked night covered u v n k no' more))
    (λ le. le-leb n k le ∙ sym (inside night covered u v n room k (fits n) (omega arith) all le))
    (cases_lt k n)

-- or the end of a train
pub goes_on : (night : Night) (covered : Masks) (u v room : ℕ) → ((n : ℕ) → nat_le n room ≡ (has_units night u n && has_positions night v n))
    → all_below room (λ k. is_free_pair night covered (u + k) (v + k)) ≡ true → (n : ℕ) → nat_le n room ≡ is_free_run night covered u n v
goes_on night covered u v room fits all n =
    ⊎_elim
    (λ more. lt-leb n room more ∙ sym (outside night covered u v n room (fits n) more))
    (λ le. le-leb n room le ∙ sym (inside night covered u v n room room (fits n) (omega arith) all le))
    (cases_lt room n)

-- where the first pair isn't free there is none
pub starts_blocked : (night : Night) (covered : Masks) (u v : ℕ) → is_free_pair night covered u v ≡ false → (n : ℕ) → 1 ≤ n → nat_le n 0 ≡ is_free_run night covered u n v
starts_blocked night covered u v no' n some =
    let here : u ≡ u + 0 = omega arith in
    let there : v ≡ v + 0 = omega arith in
    lt-leb n 0 some ∙ sym (blocked night covered u v n 0 (subst (λ (a : ℕ). is_free_pair night covered a (v + 0) ≡ false) here
    (subst (λ (b : ℕ). is_free_pair night covered u b ≡ false) there no')) some)

-- ---- the table of these lengths

pub table_more : (tells : ℕ → ℕ → Bool) (reach : List ℕ) (i x : ℕ) → i < length reach → ((n v : ℕ) → 1 ≤ n → v < i → nat_le n (get_or reach v 0) ≡ tells n v)
    → ((n : ℕ) → 1 ≤ n → nat_le n x ≡ tells n i) → (n v : ℕ) → 1 ≤ n → v < i + 1 → nat_le n (get_or (slice_set reach i x) v 0) ≡ tells n v
table_more tells reach i x within before here n v some lt =
    ⊎_elim
    (λ less. ap (nat_le n) (get_or-set_other reach i v x 0 (λ e. absurd (omega arith))) ∙ before n v some less)
    (λ le. let e : i ≡ v = omega arith in subst (λ (w : ℕ). nat_le n (get_or (slice_set reach i x) w 0) ≡ tells n w) e
    (ap (nat_le n) (get_or-set_same reach i x 0 within) ∙ here n some))
    (cases_lt v i)

pub table_small : (most : ℕ) (reach : List ℕ) (i x : ℕ) → i < length reach → ((v : ℕ) → get_or reach v 0 ≤ most) → x ≤ most → (v : ℕ) → get_or (slice_set reach i x) v 0 ≤ most
table_small most reach i x within before small v =
    ⊎_elim
    (λ e. subst (λ (w : ℕ). get_or (slice_set reach i x) w 0 ≤ most) e (subst (λ (y : ℕ). y ≤ most) (sym (get_or-set_same reach i x 0 within)) small))
    (λ ne. subst (λ (y : ℕ). y ≤ most) (sym (get_or-set_other reach i v x 0 (λ e. ne (sym e)))) (before v))
    (cases_eq i v)

-- the greatest number of a table
pub bound_more : (numbers : List ℕ) (i most greater : ℕ) → most ≤ greater → get_or numbers i 0 ≤ greater → ((k : ℕ) → k < i → get_or numbers k 0 ≤ most) → (k : ℕ) → k < i + 1
    → get_or numbers k 0 ≤ greater
bound_more numbers i most greater le here before k lt =
    ⊎_elim
    (λ less. omega (arith, before k less))
    (λ past. let e : i ≡ k = omega arith in subst (λ (w : ℕ). get_or numbers w 0 ≤ greater) e here)
    (cases_lt k i)

-- ---- the shapes by this table are those of the definition

filter_alike : (p q : ℕ → Bool) (a n : ℕ) → ((v : ℕ) → v < a + n → p v ≡ q v) → filter p (range_with_len a n) ≡ filter q (range_with_len a n)
filter_alike p q a zero alike = refl
filter_alike p q a (suc n) alike =
    ⊎_elim
    (λ t. filter_yes p a (range_with_len (a + 1) n) t ∙ ap (λ (xs : List ℕ). a ∷ xs) (filter_alike p q (a + 1) n (λ v lt. alike v (omega arith)))
    ∙ sym (filter_yes q a (range_with_len (a + 1) n) (sym (alike a (omega arith)) ∙ t)))
    (λ t. filter_no p a (range_with_len (a + 1) n) t ∙ filter_alike p q (a + 1) n (λ v lt. alike v (omega arith))
    ∙ sym (filter_no q a (range_with_len (a + 1) n) (sym (alike a (omega arith)) ∙ t)))
    (cases_Bool (p a))

filter_none : (p : ℕ → Bool) (xs : List ℕ) → ((v : ℕ) → p v ≡ false) → filter p xs ≡ []
filter_none p [] never = refl
filter_none p (x ∷ xs) never = filter_no p x xs (never x) ∙ filter_none p xs never

abbrev Tells : Night → Masks → ℕ → List ℕ → Type 0
Tells night covered u reach = (n v : ℕ) → 1 ≤ n → v < position_total night → nat_le n (get_or reach v 0) ≡ is_free_run night covered u n v

row_is : (night : Night) (covered : Masks) (u : ℕ) (reach : List ℕ) (n : ℕ) → 1 ≤ n → Tells night covered u reach
    → row_left night u reach n 0 (position_total night) ≡ shapes_of_length night covered u n
row_is night covered u reach n some tells = ap (map (shape_at night u n)) (filter_alike (λ w. nat_le n (get_or reach w 0)) (is_free_run night covered u n) 0 (position_total night)
    (λ v lt. tells n v some (omega arith)))

rows_are : (night : Night) (covered : Masks) (u : ℕ) (reach : List ℕ) (n many : ℕ) → 1 ≤ n → Tells night covered u reach
    → rows_left night u reach n many ≡ flat_map (shapes_of_length night covered u) (range_with_len n many)
rows_are night covered u reach n zero some tells = refl
rows_are night covered u reach n (suc many) some tells =
    ap (λ (xs : List Shape). xs ++ rows_left night u reach (n + 1) many) (row_is night covered u reach n some tells)
    ∙ ap (λ (xs : List Shape). shapes_of_length night covered u n ++ xs) (rows_are night covered u reach (n + 1) many (omega arith) tells)

row_past : (night : Night) (u : ℕ) (reach : List ℕ) (most n : ℕ) → ((v : ℕ) → get_or reach v 0 ≤ most) → most < n → row_left night u reach n 0 (position_total night) ≡ []
row_past night u reach most n small past = ap (map (shape_at night u n)) (filter_none (λ w. nat_le n (get_or reach w 0)) (range_with_len 0 (position_total night))
    (λ v. lt-leb n (get_or reach v 0) (omega (arith, small v))))

rows_past : (night : Night) (u : ℕ) (reach : List ℕ) (most n many : ℕ) → ((v : ℕ) → get_or reach v 0 ≤ most) → most < n → rows_left night u reach n many ≡ []
rows_past night u reach most n zero small past = refl
rows_past night u reach most n (suc many) small past =
    ap (λ (xs : List Shape). xs ++ rows_left night u reach (n + 1) many) (row_past night u reach most n small past)
    ∙ rows_past night u reach most (n + 1) many small (omega arith)

rows_short : (night : Night) (u : ℕ) (reach : List ℕ) (most n many few : ℕ) → ((v : ℕ) → get_or reach v 0 ≤ most) → few ≤ many → most < n + few
    → rows_left night u reach n many ≡ rows_left night u reach n few
rows_short night u reach most n many zero small le past = rows_past night u reach most n many small (omega arith)
rows_short night u reach most n zero (suc few) small le past = absurd (omega arith)
rows_short night u reach most n (suc many) (suc few) small le past = ap (λ (xs : List Shape). row_left night u reach n 0 (position_total night) ++ xs)
    (rows_short night u reach most (n + 1) many few small (omega arith) (omega arith))

pub all_left : (night : Night) (covered : Masks) (u : ℕ) (reach : List ℕ) (most : ℕ) → Tells night covered u reach → ((v : ℕ) → get_or reach v 0 ≤ most) → most ≤ 8
    → shapes_left night u reach most 1 0 ≡ shapes_of night covered u
unfolding shapes_left shapes_of
all_left night covered u reach most tells small few =
    let whole : position_total night - 0 ≡ position_total night = omega arith in
    ap (λ (k : ℕ). row_left night u reach 1 0 k ++ rows_left night u reach 2 (most - 1)) whole
    ∙ ap (λ (xs : List Shape). row_left night u reach 1 0 (position_total night) ++ xs) (sym (rows_short night u reach most 2 7 (most - 1) small (omega arith) (omega arith)))
    ∙ rows_are night covered u reach 1 8 (omega arith) tells
