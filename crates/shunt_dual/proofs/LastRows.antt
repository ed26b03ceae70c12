-- What is answered once all rows are in.
use Rattle.std.proofs.Common.{◌≡◌, ⊎_elim, ℕ, ◌+◌, ◌<◌, ◌≤◌, ℤ, pos, ◌+ℤ◌, List, [], ◌∷◌, ◌++◌, length, map, take, drop, refl, sym, ap, ◌∙◌, subst, arith}
use Rattle.std.specs.List.{sum_by}
use Rattle.std.proofs.lemmas.Int.{ints}
use Rattle.std.proofs.lemmas.List.{map_more, length-map, get_or-map, append-nil, take_all, drop_all}
use Rattle.std.proofs.lemmas.List.Sums.{sum_by-cons}
use Rattle.shunt_dual.specs.defs.Tables.{at, times, total, IsPlace, IsAssigned, minus, sum_of}
use Rattle.shunt_dual.specs.defs.Pairs.{IsPaired, AreDuals}
use Rattle.shunt_dual.proofs.Counts.{nowhere}
use Rattle.shunt_dual.proofs.Sums.{entry_le, total_le, once, exact, least, span_sum, below_sum}

pub all_placed : {n : ℕ} {place owner : List ℕ} → length place ≡ n → length owner ≡ n + 1 → times (n + 1) owner ≡ 0 → IsPaired n n n place owner → IsPlace n place
all_placed {n} {place} {owner} pl ol none p = record {
  rows = pl;
  below = λ r k. let a = p.apart r k in let le = p.placed r k in omega arith;
  once = λ c k. ⊎_elim
      (λ free. absurd (nowhere (n + 1) owner c (omega arith) none free))
      (λ s. once c (at owner c) place (omega (arith, s.0)) s.1 (λ j lt e. sym (p.owned j (omega arith)) ∙ ap (at owner) e))
      (p.back c (omega arith) (λ e. omega arith));
}

sum_pos : (xs : List ℕ) → sum_of (map pos xs) ≡ pos (sum_by (λ x. x) xs)
sum_pos [] = refl
sum_pos (x ∷ xs) = omega (arith, ints, sum_pos xs, sum_by-cons (λ y. y) x xs)

sum_minus : (xs : List ℕ) → sum_of (map minus xs) +ℤ pos (sum_by (λ x. x) xs) ≡ pos 0
sum_minus [] = refl
sum_minus (x ∷ xs) = omega (arith, ints, sum_minus xs, sum_by-cons (λ y. y) x xs)

pub assigned : (n : ℕ) (cost : ℕ → ℕ → ℕ) (alpha debt place owner : List ℕ) → length alpha ≡ n → length debt ≡ n → IsPlace n place
    → AreDuals n n 480000000001 cost alpha debt place owner
    → IsAssigned n cost place (map pos alpha) (map minus debt)
assigned n cost alpha debt place owner al dl p d =
    let a = λ (r : ℕ) (k : r < n). get_or-map pos alpha r 0 (pos 0) (omega arith) in
    let b = λ (c : ℕ) (k : c < n). get_or-map minus debt c 0 (pos 0) (omega arith) in
    record {
      is_place = p;
      alpha_len = length-map alpha pos ∙ al;
      beta_len = length-map debt minus ∙ dl;
      under = λ r c rk ck. omega (arith, ints, a r rk, b c ck, d.feasible r c rk ck);
      sums =
          let e = exact n cost (at alpha) (at debt) place p (λ r k. d.tight r k (p.below r k)) in
          omega (arith, ints, e, sum_pos alpha, sum_minus debt, span_sum (at alpha) 0 alpha place (al ∙ sym p.rows) (λ i lt. ap (at alpha) (omega arith)), below_sum n debt dl);
      alphas = λ r k. (omega (arith, ints, a r k), omega (arith, ints, a r k, d.low r k));
      betas = λ c k. (omega (arith, ints, b c k, d.small c k), omega (arith, ints, b c k));
    }

pub no_less : (n top : ℕ) (cost : ℕ → ℕ → ℕ) (alpha debt place owner other : List ℕ) → IsPlace n place → AreDuals n n top cost alpha debt place owner → IsPlace n other
    → total cost place ≤ total cost other
no_less n top cost alpha debt place owner other p d q = least n cost (at alpha) (at debt) place other p q (λ r k. d.tight r k (p.below r k)) d.feasible

pub answered : {n : ℕ} {cost : ℕ → ℕ → ℕ} {alpha debt place owner : List ℕ} (alpha_z beta_z : List ℤ) → length alpha ≡ n → length debt ≡ n → IsPlace n place
    → AreDuals n n 480000000001 cost alpha debt place owner → alpha_z ≡ map pos alpha → beta_z ≡ map minus debt → IsAssigned n cost place alpha_z beta_z
answered {n} {cost} {alpha} {debt} {place} {owner} alpha_z beta_z al dl p d ea eb =
    let P : List ℤ → Type 0 = λ a. IsAssigned n cost place a beta_z in
    let Q : List ℤ → Type 0 = λ b. IsAssigned n cost place (map pos alpha) b in
    subst P (sym ea) (subst Q (sym eb) (assigned n cost alpha debt place owner al dl p d))

-- the slice of a Vec after a call wrote to it
pub kept_whole : (len : ℕ) (new old : List ℕ) → length old ≡ len → length new ≡ len → take len (new ++ drop (length new) old) ≡ new
kept_whole len new old ol nl = ap (take len) (ap (λ (xs : List ℕ). new ++ xs) (drop_all (length new) old (omega arith)) ∙ append-nil new) ∙ take_all len new (omega arith)

pub same_paired : {n : ℕ} {place owner : List ℕ} (p o : List ℕ) → IsPaired n n n place owner → p ≡ place → o ≡ owner → IsPaired n n n p o
same_paired {n} {place} {owner} p o h ep eo =
    let P : List ℕ → Type 0 = λ xs. IsPaired n n n xs o in
    let O : List ℕ → Type 0 = λ xs. IsPaired n n n place xs in
    subst P (sym ep) (subst O (sym eo) h)

pub same_duals : {n top : ℕ} {cost : ℕ → ℕ → ℕ} {alpha debt place owner : List ℕ} (a d p o : List ℕ) → AreDuals n n top cost alpha debt place owner
    → a ≡ alpha → d ≡ debt → p ≡ place → o ≡ owner → AreDuals n n top cost a d p o
same_duals {n} {top} {cost} {alpha} {debt} {place} {owner} a d p o h ea ed ep eo =
    let A : List ℕ → Type 0 = λ xs. AreDuals n n top cost xs d p o in
    let D : List ℕ → Type 0 = λ xs. AreDuals n n top cost alpha xs p o in
    let P : List ℕ → Type 0 = λ xs. AreDuals n n top cost alpha debt xs o in
    let O : List ℕ → Type 0 = λ xs. AreDuals n n top cost alpha debt place xs in
    subst A (sym ea) (subst D (sym ed) (subst P (sym ep) (subst O (sym eo) h)))

-- one number more, below zero
pub pushed : (xs : List ℕ) (i : ℕ) (all new : List ℤ) (z : ℤ) → i < length xs → all ≡ map minus (take i xs) → new ≡ all ++ z ∷ [] → z ≡ minus (at xs i)
    → new ≡ map minus (take (i + 1) xs)
pushed xs i all new z lt ea en ez = en ∙ (ap (λ (a : List ℤ). a ++ z ∷ []) ea ∙ (ap (λ (y : ℤ). map minus (take i xs) ++ y ∷ []) ez ∙ sym (map_more minus xs i 0 lt)))

-- where some choice takes small entries alone, the least one takes no entry of the top
pub unfilled : (n : ℕ) (cost : ℕ → ℕ → ℕ) (alpha debt place owner other : List ℕ) → n ≤ 160 → IsPlace n place → AreDuals n n 480000000001 cost alpha debt place owner
    → IsPlace n other
    → ((r : ℕ) → r < n → cost r (at other r) ≤ 3000000000) → (r : ℕ) → r < n → cost r (at place r) < 480000000001
unfilled n cost alpha debt place owner other few p d q low r k =
    omega (
      arith,
      entry_le cost r place (omega (arith, p.rows)),
      no_less n 480000000001 cost alpha debt place owner other p d q,
      total_le cost 3000000000 other (λ i lt. low i (omega (arith, q.rows))),
      q.rows,
    )
