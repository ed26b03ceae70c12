-- The records of a case are read back.
use Rattle.std.proofs.Common.{◌≡◌, ℕ, suc, ◌+◌, ◌-◌, ◌<◌, ◌≤◌, ℤ, pos, true, false, not, List, [], ◌∷◌, ◌++◌, length, length-append, map, refl, ap, sym, subst, ◌∙◌, arith}
use Rattle.std.specs.Prelude.{Ok, Option, Some, nat_lt, codes, All, neg_ℤ, int_lt, slice_index_or}
use Rattle.std.specs.Fmt.{decimal, signed_decimal}
use Rattle.std.proofs.lemmas.Int.{ints}
use Rattle.std.proofs.lemmas.List.{length-map, append_assoc}
use Rattle.std.proofs.lemmas.Bool.{lt-ltb, and_from}
use Rattle.shunt_base.specs.declared.ids.ArrId.{ArrId}
use Rattle.shunt_base.specs.declared.ids.TrackId.{TrackId}
use Rattle.shunt_base.specs.declared.duals.PriceKind.TheVariants as counts
use Rattle.shunt_base.specs.declared.duals.Price.{Price}
use Rattle.shunt_base.specs.defs.Spelling.{IsSigned, decimal_of, signed_of}
use Rattle.shunt_rows.specs.declared.fault.RowKind.TheVariants as kinds
use Rattle.shunt_rows.specs.defs.Records.{at}
use Rattle.shunt_rows.specs.defs.Checks.{Judged, answer, must, says, found, ◌>>=◌}
use Rattle.shunt_rows.specs.defs.Fields.{is_within, fields_in}
use Rattle.shunt_rows.proofs.Answered.{holding}
use Rattle.shunt_rows.proofs.Joins.{part_ok}
use Rattle.shunt_rows.proofs.Spelled.{number_again, in_range, signed_again}
use Rattle.shunt_instance.specs.defs.Instance.{Night, IsOrderedNight, unit_total, position_total, arr_of_name}
use Rattle.shunt_plan.specs.defs.PlanRows.{arr_name, track_name}
use Rattle.shunt_plan.proofs.RoundTrip.{arr_there, track_there}
use Rattle.shunt_prices.specs.defs.Limits.{IsValue}
use Rattle.shunt_proof.specs.declared.values.Limits.{Limits}
use Rattle.shunt_proof.specs.defs.CertificateFormat.{is_value, value_in, values_in, is_lone, first_limits_in, second_limits_in, alpha_in, lone_alpha_in, beta_in, has_price, price_in, part_in}
use Rattle.shunt_proof.proofs.Parts.{each_ok, read_one}

-- ---- values

pub signed : (z : ℤ) → IsValue z → IsSigned z
signed z is = let low = is.low in let high = is.high in (omega (arith, ints, low), omega (arith, ints, high))

pub value_holds : (z : ℤ) → IsValue z → is_value z ≡ true
unfolding is_value
value_holds z is = let low = is.low in let high = is.high in and_from (not (int_lt z (neg_ℤ (pos 999999999999)))) (not (int_lt (pos 999999999999) z)) (grind (arith, ints, low))
    (grind (arith, ints, high))

-- what a field says, by what is found of it
abbrev value_by : ℕ → Option ℤ → Judged ℤ
value_by k value = do
  z ← found (pos 0) value k kinds.Number
  _ ← must (is_value z) k kinds.Limit
  says z

pub value_back : (n : ℕ) (row : List (List ℕ)) (k : ℕ) (z : ℤ) → IsValue z → at row k ≡ signed_decimal z → answer n (value_in row k) ≡ Ok z
value_back n row k z is here =
    ap (λ t. answer n (value_by k (signed_of t))) here
    ∙ ap (λ o. answer n (value_by k o)) (signed_again z (signed z is))
    ∙ (let m = value_by k (Some z) in holding n m.checks m.value (refl, (value_holds z is, tt)))

-- the field behind these
at_front : (front : List (List ℕ)) (t : List ℕ) (rest : List (List ℕ)) → slice_index_or (front ++ t ∷ rest) (length front) [] ≡ t
at_front [] t rest = refl
at_front (x ∷ front) t rest = at_front front t rest

behind_front : (front : List (List ℕ)) (t : List ℕ) (rest : List (List ℕ)) → at (front ++ t ∷ rest) (length front + 1) ≡ t
behind_front front t rest = ap (λ k. slice_index_or (front ++ t ∷ rest) k []) (let e : length front + 1 - 1 ≡ length front = omega arith in e) ∙ at_front front t rest

pub values_back : (n : ℕ) (front : List (List ℕ)) (zs : List ℤ) → All IsValue zs → answer n (values_in (front ++ map signed_decimal zs) (length front + 1) (length zs)) ≡ Ok zs
unfolding values_in
values_back n front [] all = refl
values_back n front (z ∷ zs) all =
    let row = front ++ map signed_decimal (z ∷ zs) in
    let longer = front ++ signed_decimal z ∷ [] in
    let same : longer ++ map signed_decimal zs ≡ row = append_assoc front (signed_decimal z ∷ []) (map signed_decimal zs) in
    let place : length longer + 1 ≡ length front + 1 + 1 = omega (arith, length-append front (signed_decimal z ∷ [])) in
    read_one n row (length front + 1) (length zs) z (value_back n row (length front + 1) z (all 0 z (omega arith)) (behind_front front (signed_decimal z) (map signed_decimal zs)))
    ∙ ap (λ r. each_ok (λ ys. z ∷ ys) r)
    (ap (λ k. answer n (values_in row k (length zs))) (sym place) ∙ ap (λ l. answer n (values_in l (length longer + 1) (length zs))) (sym same)
    ∙ values_back n longer zs (λ k d lt. all (suc k) d (omega arith)))

-- the fields of a record behind its word are as many as the values
size_fits : (word : List ℕ) (zs : List ℤ) → is_within (length zs + 1) (length zs + 1) (length (word ∷ map signed_decimal zs)) ≡ true
size_fits word zs =
    let same : length (word ∷ map signed_decimal zs) ≡ length zs + 1 = (let e = length-map zs signed_decimal in omega (arith, e)) in
    ap (λ k. is_within (length zs + 1) (length zs + 1) k) same ∙ in_range (length zs + 1) (length zs + 1) (length zs + 1) (omega arith) (omega arith)

-- that many fields with that many values, where a case begins where there is room
abbrev sized : Judged (Unit {0}) → List (List ℕ) → ℕ → Judged (List ℤ)
sized room row count = do
  _ ← fields_in row (count + 1) (count + 1)
  _ ← room
  values_in row 2 count

sized_back : (n : ℕ) (room : Judged (Unit {0})) (word : List ℕ) (zs : List ℤ) → answer n room ≡ Ok tt → All IsValue zs
    → answer n (sized room (word ∷ map signed_decimal zs) (length zs)) ≡ Ok zs
sized_back n room word zs free all =
    let row = word ∷ map signed_decimal zs in
    let fields = fields_in row (length zs + 1) (length zs + 1) in
    part_ok n fields (λ u. room >>= (λ v. values_in row 2 (length zs))) tt (holding n fields.checks tt (size_fits word zs, tt))
    ∙ part_ok n room (λ v. values_in row 2 (length zs)) tt free
    ∙ values_back n (word ∷ []) zs all

pub alpha_back : (n : ℕ) (night : Night) (zs : List ℤ) → length zs ≡ unit_total night → All IsValue zs → answer n (alpha_in night (codes "alpha" ∷ map signed_decimal zs)) ≡ Ok zs
unfolding alpha_in
alpha_back n night zs many all = subst (λ k. answer n (sized (says tt) (codes "alpha" ∷ map signed_decimal zs) k) ≡ Ok zs) many (sized_back n (says tt) (codes "alpha") zs refl all)

pub beta_back : (n : ℕ) (night : Night) (zs : List ℤ) → length zs ≡ position_total night → All IsValue zs → answer n (beta_in night (codes "beta" ∷ map signed_decimal zs)) ≡ Ok zs
unfolding beta_in
beta_back n night zs many all = subst (λ k. answer n (sized (says tt) (codes "beta" ∷ map signed_decimal zs) k) ≡ Ok zs) many (sized_back n (says tt) (codes "beta") zs refl all)

pub lone_alpha_back : (n : ℕ) (night : Night) (cases : ℕ) (zs : List ℤ) → cases < 8000 → length zs ≡ unit_total night → All IsValue zs
    → answer n (lone_alpha_in night cases (codes "alpha" ∷ map signed_decimal zs)) ≡ Ok zs
unfolding lone_alpha_in
lone_alpha_back n night cases zs room many all =
    let free = must (nat_lt cases 8000) 1 kinds.Limit in
    subst (λ k. answer n (sized free (codes "alpha" ∷ map signed_decimal zs) k) ≡ Ok zs) many
    (sized_back n free (codes "alpha") zs (holding n free.checks tt (lt-ltb cases 8000 room, tt)) all)

-- ---- limits

abbrev pub limits : ℕ → ℤ → Limits
limits to multiplier = record { to = to; multiplier = multiplier }

abbrev first_by : ℕ → Option ℕ → Option ℤ → Judged Limits
first_by cases to multiplier = do
  _ ← must true 1 kinds.Fields
  _ ← must (nat_lt cases 8000) 1 kinds.Limit
  t ← found 0 to 2 kinds.Number
  _ ← must (is_within 0 160 t) 2 kinds.Limit
  z ← found (pos 0) multiplier 3 kinds.Number
  _ ← must (is_value z) 3 kinds.Limit
  _ ← must (not (is_lone (limits t z))) 3 kinds.Limit
  says (limits t z)

pub first_limits_back : (n cases to : ℕ) (z : ℤ) → cases < 8000 → to ≤ 160 → IsValue z → is_lone (limits to z) ≡ false
    → answer n (first_limits_in cases (codes "case" ∷ decimal to ∷ signed_decimal z ∷ [])) ≡ Ok (limits to z)
unfolding first_limits_in is_within
first_limits_back n cases to z room le is other =
    ap (λ o. answer n (first_by cases o (signed_of (signed_decimal z)))) (number_again to (omega (arith, le)))
    ∙ ap (λ o. answer n (first_by cases (Some to) o)) (signed_again z (signed z is))
    ∙ (let m = first_by cases (Some to) (Some z) in holding n m.checks m.value (
      refl,
      (lt-ltb cases 8000 room, (refl, (in_range 0 160 to (omega arith) le, (refl, (value_holds z is, (ap not other, tt)))))),
    ))

abbrev second_by : ℕ → Option ℕ → Option ℤ → Judged Limits
second_by cases to multiplier = do
  _ ← must true 1 kinds.Fields
  _ ← must (nat_lt cases 8000) 1 kinds.Limit
  t ← found 0 to 2 kinds.Number
  _ ← must (is_within 160 160 t) 2 kinds.Limit
  z ← found (pos 0) multiplier 3 kinds.Number
  _ ← must (is_value z) 3 kinds.Limit
  says (limits t z)

pub second_limits_back : (n cases to : ℕ) (z : ℤ) → cases < 8000 → to ≡ 160 → IsValue z
    → answer n (second_limits_in cases (codes "case" ∷ decimal to ∷ signed_decimal z ∷ [])) ≡ Ok (limits to z)
unfolding second_limits_in is_within
second_limits_back n cases to z room last is =
    ap (λ o. answer n (second_by cases o (signed_of (signed_decimal z)))) (number_again to (omega (arith, last)))
    ∙ ap (λ o. answer n (second_by cases (Some to) o)) (signed_again z (signed z is))
    ∙ (let m = second_by cases (Some to) (Some z) in holding n m.checks m.value (
      refl,
      (lt-ltb cases 8000 room, (refl, (in_range 160 160 to (omega (arith, last)) (omega (arith, last)), (refl, (value_holds z is, tt))))),
    ))

-- ---- prices

abbrev price_by : List Price → Option TrackId → Option ArrId → Option ℕ → Judged Price
price_by prices track train value = do
  _ ← must true 1 kinds.Fields
  _ ← must (nat_lt (length prices) 64) 1 kinds.Limit
  t ← found (record { 0 = 0 }) track 2 kinds.Unknown
  a ← found (record { 0 = 0 }) train 3 kinds.Unknown
  _ ← must (not (has_price prices counts.Length t a)) 3 kinds.Repeat
  v ← found 0 value 4 kinds.Number
  _ ← must (is_within 0 1000000000 v) 4 kinds.Limit
  says record { kind = counts.Length; track = t; train = a; value = v }

abbrev part_by : List Price → Option TrackId → Option ArrId → Option ℕ → Option ℕ → Judged Price
part_by prices track train parts value = do
  _ ← must true 1 kinds.Fields
  _ ← must (nat_lt (length prices) 64) 1 kinds.Limit
  t ← found (record { 0 = 0 }) track 2 kinds.Unknown
  a ← found (record { 0 = 0 }) train 3 kinds.Unknown
  r ← found 0 parts 4 kinds.Number
  _ ← must (not (has_price prices (counts.Parts r) t a)) 4 kinds.Repeat
  _ ← must (is_within 1 8 r) 4 kinds.Limit
  v ← found 0 value 5 kinds.Number
  _ ← must (is_within 0 1000000000 v) 5 kinds.Limit
  says record { kind = counts.Parts r; track = t; train = a; value = v }

pub price_back : (n : ℕ) (night : Night) → IsOrderedNight night → (prices : List Price) (t : TrackId) (a : ArrId) (v : ℕ)
    → length prices < 64 → has_price prices counts.Length t a ≡ false → t.0 < length night.station.tracks → a.0 < length night.arrive → v ≤ 1000000000
    → answer n (price_in night prices (codes "price" ∷ track_name night.station t ∷ arr_name night a ∷ decimal v ∷ []))
    ≡ Ok (record { kind = counts.Length; track = t; train = a; value = v })
unfolding price_in is_within
price_back n night h prices t a v room new track train worth =
    let by = price_by prices in
    let ao = arr_of_name night (arr_name night a) in
    let vo = decimal_of (decimal v) in
    ap (λ o. answer n (by o ao vo)) (track_there night.station t h.station track)
    ∙ ap (λ o. answer n (by (Some t) o vo)) (arr_there night a h train)
    ∙ ap (λ o. answer n (by (Some t) (Some a) o)) (number_again v (omega (arith, worth)))
    ∙ (let m = by (Some t) (Some a) (Some v) in holding n m.checks m.value (
      refl,
      (lt-ltb (length prices) 64 room, (refl, (refl, (ap not new, (refl, (in_range 0 1000000000 v (omega arith) worth, tt)))))),
    ))

pub part_back : (n : ℕ) (night : Night) → IsOrderedNight night → (prices : List Price) (t : TrackId) (a : ArrId) (r v : ℕ)
    → length prices < 64 → has_price prices (counts.Parts r) t a ≡ false → t.0 < length night.station.tracks → a.0 < length night.arrive → 1 ≤ r → r ≤ 8 → v ≤ 1000000000
    → answer n (part_in night prices (codes "part" ∷ track_name night.station t ∷ arr_name night a ∷ decimal r ∷ decimal v ∷ []))
    ≡ Ok (record { kind = counts.Parts r; track = t; train = a; value = v })
unfolding part_in is_within
part_back n night h prices t a r v room new track train some few worth =
    let by = part_by prices in
    let ao = arr_of_name night (arr_name night a) in
    let ro = decimal_of (decimal r) in
    let vo = decimal_of (decimal v) in
    ap (λ o. answer n (by o ao ro vo)) (track_there night.station t h.station track)
    ∙ ap (λ o. answer n (by (Some t) o ro vo)) (arr_there night a h train)
    ∙ ap (λ o. answer n (by (Some t) (Some a) o vo)) (number_again r (omega (arith, few)))
    ∙ ap (λ o. answer n (by (Some t) (Some a) (Some r) o)) (number_again v (omega (arith, worth)))
    ∙ (let m = by (Some t) (Some a) (Some r) (Some v) in
    holding n m.checks m.value (
      refl,
      (
        lt-ltb (length prices) 64 room,
        (
          refl,
          (
            refl,
            (refl, (ap not new, (in_range 1 8 r some few, (refl, (in_range 0 1000000000 v (omega arith) worth, tt))))),
          ),
        ),
      ),
    ))
