-- Lists cut at two places.
use Rattle.std.proofs.Common.{◌≡◌, inl, inr, ℕ, zero, suc, ◌+◌, ◌-◌, ◌<◌, ◌≤◌, Bool, List, [], ◌∷◌, ◌++◌, length, take, drop, map, refl, sym, subst, ap, ◌∙◌, arith}
use Rattle.std.specs.List.{insert, remove, count_by}
use Rattle.std.proofs.lemmas.List.{take_at, length-append, length-map}
use Rattle.std.proofs.lemmas.List.Sums.{count_by-le-length}
use Rattle.shunt_lists.specs.defs.Members.{In}

pub in_front : {X : Type 0} (n : ℕ) (xs : List X) (x : X) → In x (take n xs) → In x xs
in_front zero xs x h = absurd h
in_front (suc n) [] x h = absurd h
in_front (suc n) (y ∷ xs) x (inl e) = inl e
in_front (suc n) (y ∷ xs) x (inr h) = inr (in_front n xs x h)

pub in_rest : {X : Type 0} (n : ℕ) (xs : List X) (x : X) → In x (drop n xs) → In x xs
in_rest zero xs x h = h
in_rest (suc n) [] x h = h
in_rest (suc n) (y ∷ xs) x h = inr (in_rest n xs x h)

pub in_middle : {X : Type 0} (from to : ℕ) (xs : List X) (x : X) → In x (take (to - from) (drop from xs)) → In x xs
in_middle from to xs x h = in_rest from xs x (in_front (to - from) (drop from xs) x h)

drop_none : {X : Type 0} (n : ℕ) (xs : List X) → xs ≡ [] → drop n xs ≡ []
drop_none zero xs e = e
drop_none (suc n) [] e = refl
drop_none (suc n) (x ∷ xs) e = absurd (cc)

pub dropped_twice : {X : Type 0} (from to : ℕ) (xs : List X) → from ≤ to → drop (to - from) (drop from xs) ≡ drop to xs
dropped_twice zero to xs le = let e : to - 0 ≡ to = omega arith in ap (λ n. drop n xs) e
dropped_twice (suc from) zero xs le = absurd (omega arith)
dropped_twice (suc from) (suc to) [] le = drop_none (suc to - suc from) [] refl
dropped_twice (suc from) (suc to) (x ∷ xs) le = let e : suc to - suc from ≡ to - from = omega arith in ap (λ n. drop n (drop from xs)) e ∙ dropped_twice from to xs (omega arith)

front_none : {X : Type 0} (n : ℕ) → ◌≡◌ {A = List X} [] (take n [] ++ [])
front_none zero = refl
front_none (suc n) = refl

-- a list in three
pub three : {X : Type 0} (from to : ℕ) (xs : List X) → from ≤ to → xs ≡ take from xs ++ (take (to - from) (drop from xs) ++ drop to xs)
three zero zero xs le = refl
three zero (suc to) [] le = front_none (suc to - 0)
three {X} zero (suc to) (x ∷ xs) le =
    let e : suc to - 0 ≡ suc to = omega arith in
    let f : to - 0 ≡ to = omega arith in
    ap (λ (l : List X). x ∷ l) (three zero to xs (omega arith) ∙ ap (λ n. take n xs ++ drop to xs) f) ∙ ap (λ n. take n (x ∷ xs) ++ drop to xs) (sym e)
three (suc from) zero xs le = absurd (omega arith)
three (suc from) (suc to) [] le = front_none (suc to - suc from)
three {X} (suc from) (suc to) (x ∷ xs) le = let e : suc to - suc from ≡ to - from = omega arith in ap (λ (l : List X). x ∷ l)
    (three from to xs (omega arith) ∙ ap (λ n. take from xs ++ (take n (drop from xs) ++ drop to xs)) (sym e))

-- the place to that is put into first stays where it is when from is
pub put_two : {X : Type 0} (from to : ℕ) (xs : List X) (x y : X) → from ≤ to → to ≤ length xs
    → insert (insert xs to y) from x ≡ take from xs ++ x ∷ (take (to - from) (drop from xs) ++ y ∷ drop to xs)
put_two {X} zero to xs x y le within = let e : to - 0 ≡ to = omega arith in ap (λ n. x ∷ (take n xs ++ y ∷ drop to xs)) (sym e)
put_two (suc from) zero xs x y le within = absurd (omega arith)
put_two (suc from) (suc to) [] x y le within = absurd (omega arith)
put_two {X} (suc from) (suc to) (z ∷ xs) x y le within = let e : suc to - suc from
    ≡ to - from = omega arith in ap (λ (l : List X). z ∷ l) (put_two from to xs x y (omega arith) (omega arith)
    ∙ ap (λ n. take from xs ++ x ∷ (take n (drop from xs) ++ y ∷ drop to xs)) (sym e))

pub take_two : {X : Type 0} (from to : ℕ) (xs : List X) → from < to → to < length xs
    → remove (remove xs to) from ≡ take from xs ++ (take (to - (from + 1)) (drop (from + 1) xs) ++ drop (to + 1) xs)
take_two from to [] lt within = absurd (omega arith)
take_two from zero (z ∷ xs) lt within = absurd (omega arith)
take_two zero (suc to) (z ∷ xs) lt within =
    let e : suc to - (0 + 1) ≡ to = omega arith in
    let f : suc to + 1 ≡ suc (suc to) = omega arith in
    sym (ap (λ n. take n xs ++ drop (suc to + 1) (z ∷ xs)) e ∙ ap (λ n. take to xs ++ drop n (z ∷ xs)) f)
take_two {X} (suc from) (suc to) (z ∷ xs) lt within =
    let e : suc to - (suc from + 1) ≡ to - (from + 1) = omega arith in
    let f : suc to + 1 ≡ suc (to + 1) = omega arith in
    let g : suc from + 1 ≡ suc (from + 1) = omega arith in
    ap (λ (l : List X). z ∷ l) (take_two from to xs (omega arith) (omega arith))
    ∙ sym (ap (λ n. z ∷ (take from xs ++ (take n (drop (suc from + 1) (z ∷ xs)) ++ drop (suc to + 1) (z ∷ xs)))) e
    ∙ ap (λ n. z ∷ (take from xs ++ (take (to - (from + 1)) (drop n (z ∷ xs)) ++ drop (suc to + 1) (z ∷ xs)))) g
    ∙ ap (λ n. z ∷ (take from xs ++ (take (to - (from + 1)) (drop (from + 1) xs) ++ drop n (z ∷ xs)))) f)

-- a list whose middle was written over
pub length_written : {X : Type 0} (f : X → X) (from to : ℕ) (xs : List X) → from ≤ to → length (take from xs ++ (map f (take (to - from) (drop from xs)) ++ drop to xs)) ≡ length xs
length_written f from to xs le =
    let m = take (to - from) (drop from xs) in
    omega (
      arith,
      ap length (three from to xs le),
      length-append (take from xs) (m ++ drop to xs),
      length-append m (drop to xs),
      length-append (take from xs) (map f m ++ drop to xs),
      length-append (map f m) (drop to xs),
      length-map m f,
    )

pub written : {X : Type 0} (f : X → X) (from to n : ℕ) (es now new : List X) → from ≤ to → n ≡ length es → now ≡ es → new ≡ map f (take (to - from) (drop from now))
    → take n ((take from now ++ (new ++ drop (to - from) (drop from now))) ++ drop (length (take from now ++ (new ++ drop (to - from) (drop from now)))) es) ≡ take from es
    ++ (map f (take (to - from) (drop from es)) ++ drop to es)
written f from to n es now new le len same made =
    let all : take from now ++ (new ++ drop (to - from) (drop from now)) ≡ take from es ++ (map f (take (to - from) (drop from es)) ++ drop to es) =
    ap (λ l. take from now ++ (l ++ drop (to - from) (drop from now))) made
    ∙ ap (λ l. take from l ++ (map f (take (to - from) (drop from l)) ++ drop (to - from) (drop from l))) same
    ∙ ap (λ l. take from es ++ (map f (take (to - from) (drop from es)) ++ l)) (dropped_twice from to es le) in
    take_at (take from now ++ (new ++ drop (to - from) (drop from now))) _ n (ap length all ∙ length_written f from to es le ∙ sym len) ∙ all

pub in_middle_of : {X : Type 0} (from to : ℕ) (es now : List X) (x : X) → now ≡ es → In x (take (to - from) (drop from now)) → In x es
in_middle_of from to es now x same h = in_middle from to es x (subst (λ l. In x (take (to - from) (drop from l))) same h)

pub count_middle : {X : Type 0} (p : X → Bool) (from to n : ℕ) (xs : List X) → from ≤ to → length xs ≤ n → count_by p (take (to - from) (drop from xs)) ≤ n
count_middle p from to n xs le few =
    let m = take (to - from) (drop from xs) in
    omega (arith, count_by-le-length p m, ap length (three from to xs le), length-append (take from xs) (m ++ drop to xs), length-append m (drop to xs))

pub counted_within : {X : Type 0} (p : X → Bool) (from to n : ℕ) (xs : List X) → from ≤ to → length xs + 2 ≤ 131072 → n ≡ count_by p (take (to - from) (drop from xs)) → n ≤ 131072
counted_within p from to n xs le few e = let m : count_by p (take (to - from) (drop from xs)) ≤ 131072 = count_middle p from to 131072 xs le (omega arith) in omega arith
