-- Sums over a list that gives each column once, and the least sum of costs.
use Rattle.std.proofs.Common.{◌≡◌, ◌≢◌, ⊎_elim, ℕ, zero, suc, ◌+◌, ◌*◌, ◌<◌, ◌≤◌, cond, eqb, List, [], ◌∷◌, length, set, take, refl, sym, ap, ◌∙◌, subst, arith, get_or-set_other, get_or-set_same}
use Rattle.std.specs.List.{sum_by}
use Rattle.std.proofs.lemmas.Bool.{cases_eq, cases_lt}
use Rattle.std.proofs.lemmas.List.{length-set, take_all}
use Rattle.std.proofs.lemmas.List.Sums.{sum_by-cons, sum_by_more}
use Rattle.shunt_dual.specs.defs.Tables.{at, times, total, total_from, IsPlace}
use Rattle.shunt_dual.proofs.Counts.{flag, one, none, fewer, find}

-- the sum of a function of the numbers below n
abbrev pub below : (ℕ → ℕ) → ℕ → ℕ
below f zero = 0
below f (suc n) = below f n + f n

below_zero : (f : ℕ → ℕ) (n : ℕ) → ((c : ℕ) → c < n → f c ≡ 0) → below f n ≡ 0
below_zero f zero h = refl
below_zero f (suc n) h = omega (arith, below_zero f n (λ c lt. h c (omega arith)), h n (omega arith))

below_same : (f g : ℕ → ℕ) (n : ℕ) → ((c : ℕ) → c < n → f c ≡ g c) → below f n ≡ below g n
below_same f g zero h = refl
below_same f g (suc n) h = omega (arith, below_same f g n (λ c lt. h c (omega arith)), h n (omega arith))

below_add : (f g : ℕ → ℕ) (n : ℕ) → below (λ c. f c + g c) n ≡ below f n + below g n
below_add f g zero = refl
below_add f g (suc n) = omega (arith, below_add f g n)

hit : (f : ℕ → ℕ) (x c : ℕ) → x ≡ c → flag (eqb x c) * f c ≡ f c
hit f x c e = ap (λ q. q * f c) (one c x e) ∙ omega arith

miss : (f : ℕ → ℕ) (x c : ℕ) → x ≢ c → flag (eqb x c) * f c ≡ 0
miss f x c ne = ap (λ q. q * f c) (none c x ne) ∙ omega arith

pick : (f : ℕ → ℕ) (x n : ℕ) → x < n → below (λ c. flag (eqb x c) * f c) n ≡ f x
pick f x zero lt = absurd (omega arith)
pick f x (suc n) lt = ⊎_elim
    (λ e. let before = below_zero (λ c. flag (eqb x c) * f c) n (λ c k. miss f x c (λ s. omega arith)) in
    let last : f n ≡ f x = ap f (sym e) in
    omega (arith, before, hit f x n e))
    (λ ne. omega (arith, pick f x n (omega arith), miss f x n ne))
    (cases_eq x n)

spread : (f : ℕ → ℕ) (x : ℕ) (xs : List ℕ) (c : ℕ) → times c (x ∷ xs) * f c ≡ flag (eqb x c) * f c + times c xs * f c
spread f x xs c = ap (λ q. q * f c) (sum_by-cons (λ y. cond (eqb y c) 1 0) x xs) ∙ omega arith

weighted : (f : ℕ → ℕ) (n : ℕ) (xs : List ℕ) → ((r : ℕ) → r < length xs → at xs r < n) → sum_by f xs ≡ below (λ c. times c xs * f c) n
weighted f n [] h = sym (below_zero (λ c. 0 * f c) n (λ c lt. omega arith))
weighted f n (x ∷ xs) h =
    let rest = weighted f n xs (λ r lt. h (suc r) (omega arith)) in
    let split = below_same (λ c. times c (x ∷ xs) * f c) (λ c. flag (eqb x c) * f c + times c xs * f c) n (λ c lt. spread f x xs c) in
    let two = below_add (λ c. flag (eqb x c) * f c) (λ c. times c xs * f c) n in
    omega (arith, sum_by-cons f x xs, rest, split, two, pick f x n (h 0 (omega arith)))

-- the sum over such a list is the sum over all columns
pub sum_place : (f : ℕ → ℕ) (n : ℕ) (place : List ℕ) → IsPlace n place → sum_by f place ≡ below f n
sum_place f n place p =
    weighted f n place (λ r lt. p.below r (omega (arith, p.rows)))
    ∙ below_same (λ c. times c place * f c) f n (λ c lt. ap (λ q. q * f c) (p.once c lt) ∙ omega arith)

-- a sum over rows from r on, as many as a list has
abbrev pub span : (ℕ → ℕ) → ℕ → List ℕ → ℕ
span f r [] = 0
span f r (c ∷ cs) = f r + span f (r + 1) cs

span_same : (f : ℕ → ℕ) (r : ℕ) (xs ys : List ℕ) → length xs ≡ length ys → span f r xs ≡ span f r ys
span_same f r [] [] e = refl
span_same f r [] (y ∷ ys) e = absurd (omega arith)
span_same f r (x ∷ xs) [] e = absurd (omega arith)
span_same f r (x ∷ xs) (y ∷ ys) e = omega (arith, span_same f (r + 1) xs ys (omega arith))

weak : (cost : ℕ → ℕ → ℕ) (alpha debt : ℕ → ℕ) (r : ℕ) (cs : List ℕ) → ((i : ℕ) → i < length cs → alpha (r + i) ≤ cost (r + i) (at cs i) + debt (at cs i))
    → span alpha r cs ≤ total_from cost r cs + sum_by debt cs
unfolding total_from
weak cost alpha debt r [] h = omega arith
weak cost alpha debt r (c ∷ cs) h =
    let first : alpha r ≤ cost r c + debt c = let P : ℕ → Type 0 = λ q. alpha q ≤ cost q c + debt c in subst P (omega arith) (h 0 (omega arith)) in
    let rest = weak cost alpha debt (r + 1) cs (λ i lt. let P : ℕ → Type 0 = λ q. alpha q ≤ cost q (at cs i) + debt (at cs i) in subst P (omega arith) (h (suc i) (omega arith))) in
    omega (arith, sum_by-cons debt c cs, first, rest)

tight : (cost : ℕ → ℕ → ℕ) (alpha debt : ℕ → ℕ) (r : ℕ) (cs : List ℕ) → ((i : ℕ) → i < length cs → alpha (r + i) ≡ cost (r + i) (at cs i) + debt (at cs i))
    → span alpha r cs ≡ total_from cost r cs + sum_by debt cs
unfolding total_from
tight cost alpha debt r [] h = omega arith
tight cost alpha debt r (c ∷ cs) h =
    let first : alpha r ≡ cost r c + debt c = let P : ℕ → Type 0 = λ q. alpha q ≡ cost q c + debt c in subst P (omega arith) (h 0 (omega arith)) in
    let rest = tight cost alpha debt (r + 1) cs (λ i lt. let P : ℕ → Type 0 = λ q. alpha q
    ≡ cost q (at cs i) + debt (at cs i) in subst P (omega arith) (h (suc i) (omega arith))) in
    omega (arith, sum_by-cons debt c cs, first, rest)

-- the sum of the costs, and of the debts, is that of the alphas
pub exact : (n : ℕ) (cost : ℕ → ℕ → ℕ) (alpha debt : ℕ → ℕ) (place : List ℕ) → IsPlace n place → ((r : ℕ) → r < n → alpha r ≡ cost r (at place r) + debt (at place r))
    → span alpha 0 place ≡ total cost place + below debt n
exact n cost alpha debt place p h =
    let row : (i : ℕ) → i < length place → alpha (0 + i) ≡ cost (0 + i) (at place i) + debt (at place i) =
    λ i lt. let P : ℕ → Type 0 = λ q. alpha q ≡ cost q (at place i) + debt (at place i) in subst P (omega arith) (h i (omega (arith, p.rows))) in
    omega (arith, tight cost alpha debt 0 place row, sum_place debt n place p)

pub bound : (n : ℕ) (cost : ℕ → ℕ → ℕ) (alpha debt : ℕ → ℕ) (other : List ℕ) → IsPlace n other → ((r c : ℕ) → r < n → c < n → alpha r ≤ cost r c + debt c)
    → span alpha 0 other ≤ total cost other + below debt n
bound n cost alpha debt other p h =
    let row : (i : ℕ) → i < length other → alpha (0 + i) ≤ cost (0 + i) (at other i) + debt (at other i) =
    λ i lt. let P : ℕ → Type 0 = λ q. alpha q ≤ cost q (at other i) + debt (at other i) in
    subst P (omega arith) (h i (at other i) (omega (arith, p.rows)) (p.below i (omega (arith, p.rows)))) in
    omega (arith, weak cost alpha debt 0 other row, sum_place debt n other p)

pub least : (n : ℕ) (cost : ℕ → ℕ → ℕ) (alpha debt : ℕ → ℕ) (place other : List ℕ) → IsPlace n place → IsPlace n other
    → ((r : ℕ) → r < n → alpha r ≡ cost r (at place r) + debt (at place r)) → ((r c : ℕ) → r < n → c < n → alpha r ≤ cost r c + debt c)
    → total cost place ≤ total cost other
least n cost alpha debt place other p q tight under =
    omega (arith, exact n cost alpha debt place p tight, bound n cost alpha debt other q under, span_same alpha 0 place other (p.rows ∙ sym q.rows))

-- a number that stands at one place alone
pub once : (v i : ℕ) (xs : List ℕ) → i < length xs → at xs i ≡ v → ((j : ℕ) → j < length xs → at xs j ≡ v → j ≡ i) → times v xs ≡ 1
once v i xs lt e alone =
    let ys = set xs i (v + 1) in
    let here : at ys i ≡ v + 1 = get_or-set_same xs i (v + 1) 0 lt in
    let len : length ys ≡ length xs = length-set xs i (v + 1) in
    let gone : times v ys ≡ 0 = ⊎_elim
    (λ some. let f = find v ys some in absurd (⊎_elim
    (λ s. let same : at ys f.0 ≡ at ys i = ap (at ys) s in omega (arith, f.2))
    (λ ne. ne (alone f.0 (omega (arith, f.1)) (sym (get_or-set_other xs i f.0 (v + 1) 0 ne) ∙ f.2)))
    (cases_eq f.0 i)))
    (λ le. omega arith)
    (cases_lt 0 (times v ys)) in
    omega (arith, fewer v xs i (v + 1) lt e (λ s. omega arith))

pub span_sum : (f : ℕ → ℕ) (r : ℕ) (xs cs : List ℕ) → length xs ≡ length cs → ((i : ℕ) → i < length xs → f (r + i) ≡ at xs i) → span f r cs ≡ sum_by (λ x. x) xs
span_sum f r [] [] e h = refl
span_sum f r [] (c ∷ cs) e h = absurd (omega arith)
span_sum f r (x ∷ xs) [] e h = absurd (omega arith)
span_sum f r (x ∷ xs) (c ∷ cs) e h =
    let first : f r ≡ x = ap f (omega arith) ∙ h 0 (omega arith) in
    omega (arith, sum_by-cons (λ x. x) x xs, first, span_sum f (r + 1) xs cs (omega arith) (λ i lt. ap f (omega arith) ∙ h (suc i) (omega arith)))

below_take : (xs : List ℕ) (k : ℕ) → k ≤ length xs → below (at xs) k ≡ sum_by (λ x. x) (take k xs)
below_take xs zero le = refl
below_take xs (suc k) le =
    let more = sum_by_more (λ x. x) xs k 0 (omega arith) in
    let one : sum_by (λ x. x) (take (suc k) xs) ≡ sum_by (λ x. x) (take (k + 1) xs) = let e : suc k ≡ k + 1 = omega arith in ap (λ (i : ℕ). sum_by (λ x. x) (take i xs)) e in
    omega (arith, below_take xs k (omega arith), more, one)

pub below_sum : (n : ℕ) (xs : List ℕ) → length xs ≡ n → below (at xs) n ≡ sum_by (λ x. x) xs
below_sum n xs e = below_take xs n (omega arith) ∙ ap (sum_by (λ x. x)) (take_all n xs (omega arith))

-- the cost of one row more
total_more_from : (cost : ℕ → ℕ → ℕ) (r i : ℕ) (cs : List ℕ) → i < length cs → total_from cost r (take (suc i) cs) ≡ total_from cost r (take i cs) + cost (r + i) (at cs i)
unfolding total_from
total_more_from cost r i [] lt = absurd (omega arith)
total_more_from cost r zero (c ∷ cs) lt = let e : r ≡ r + 0 = omega arith in omega (arith, ap (λ (q : ℕ). cost q c) e)
total_more_from cost r (suc i) (c ∷ cs) lt =
    let e : r + 1 + i ≡ r + suc i = omega arith in
    omega (arith, total_more_from cost (r + 1) i cs (omega arith), ap (λ (q : ℕ). cost q (at cs i)) e)

pub total_more : (cost : ℕ → ℕ → ℕ) (i : ℕ) (cs : List ℕ) → i < length cs → total cost (take (i + 1) cs) ≡ total cost (take i cs) + cost i (at cs i)
total_more cost i cs lt =
    let e : suc i ≡ i + 1 = omega arith in
    let z : 0 + i ≡ i = omega arith in
    omega (arith, ap (λ (q : ℕ). total cost (take q cs)) e, total_more_from cost 0 i cs lt, ap (λ (q : ℕ). cost q (at cs i)) z)

pub total_none : (cost : ℕ → ℕ → ℕ) (cs : List ℕ) → total cost (take 0 cs) ≡ 0
unfolding total_from
total_none cost cs = refl

-- one entry is at most the sum, and the sum of small entries is small
entry_le_from : (cost : ℕ → ℕ → ℕ) (r i : ℕ) (cs : List ℕ) → i < length cs → cost (r + i) (at cs i) ≤ total_from cost r cs
unfolding total_from
entry_le_from cost r i [] lt = absurd (omega arith)
entry_le_from cost r zero (c ∷ cs) lt = let e : r + 0 ≡ r = omega arith in omega (arith, ap (λ (q : ℕ). cost q c) e)
entry_le_from cost r (suc i) (c ∷ cs) lt =
    let e : r + suc i ≡ r + 1 + i = omega arith in
    omega (arith, entry_le_from cost (r + 1) i cs (omega arith), ap (λ (q : ℕ). cost q (at cs i)) e)

total_le_from : (cost : ℕ → ℕ → ℕ) (m r : ℕ) (cs : List ℕ) → ((i : ℕ) → i < length cs → cost (r + i) (at cs i) ≤ m) → total_from cost r cs ≤ m * length cs
unfolding total_from
total_le_from cost m r [] h = omega arith
total_le_from cost m r (c ∷ cs) h =
    let first : cost r c ≤ m = let P : ℕ → Type 0 = λ q. cost q c ≤ m in subst P (omega arith) (h 0 (omega arith)) in
    let rest = total_le_from cost m (r + 1) cs (λ i lt. let P : ℕ → Type 0 = λ q. cost q (at cs i) ≤ m in subst P (omega arith) (h (suc i) (omega arith))) in
    omega (arith, first, rest)

pub entry_le : (cost : ℕ → ℕ → ℕ) (i : ℕ) (cs : List ℕ) → i < length cs → cost i (at cs i) ≤ total cost cs
entry_le cost i cs lt = let e : 0 + i ≡ i = omega arith in omega (arith, entry_le_from cost 0 i cs lt, ap (λ (q : ℕ). cost q (at cs i)) e)

pub total_le : (cost : ℕ → ℕ → ℕ) (m : ℕ) (cs : List ℕ) → ((i : ℕ) → i < length cs → cost i (at cs i) ≤ m) → total cost cs ≤ m * length cs
total_le cost m cs h = total_le_from cost m 0 cs (λ i lt. let P : ℕ → Type 0 = λ q. cost q (at cs i) ≤ m in subst P (omega arith) (h i lt))
