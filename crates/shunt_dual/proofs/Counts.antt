-- How often a number stands in a list, after a write.
use Rattle.std.proofs.Common.{◌≡◌, ◌≢◌, ℕ, ◌+◌, ◌*◌, ◌<◌, ◌≤◌, Bool, cond, eqb, List, [], ◌∷◌, length, set, replicate, refl, ap, ◌∙◌, arith, suc, ⊎_elim}
use Rattle.std.proofs.lemmas.Bool.{eq-eqb, ne_eqb, cases_eq}
use Rattle.std.proofs.lemmas.List.Sums.{sum_by-set, sum_by-cons, get_or-le-sum_by}
use Rattle.std.proofs.lemmas.List.{length-replicate, get_or-replicate}
use Rattle.std.proofs.lemmas.List.Folds.{sum_by-replicate}
use Rattle.shunt_dual.specs.defs.Tables.{at, times}

abbrev pub flag : Bool → ℕ
flag b = cond b 1 0

pub one : (v x : ℕ) → x ≡ v → flag (eqb x v) ≡ 1
one v x e = ap flag (eq-eqb x v e)

pub none : (v x : ℕ) → x ≢ v → flag (eqb x v) ≡ 0
none v x ne = ap flag (ne_eqb x v ne)

written : (v : ℕ) (xs : List ℕ) (i y : ℕ) → i < length xs → times v (set xs i y) + flag (eqb (at xs i) v) ≡ times v xs + flag (eqb y v)
written v xs i y lt = sum_by-set (λ x. cond (eqb x v) 1 0) xs i y 0 lt

-- one that was v is no more
pub fewer : (v : ℕ) (xs : List ℕ) (i y : ℕ) → i < length xs → at xs i ≡ v → y ≢ v → times v (set xs i y) + 1 ≡ times v xs
fewer v xs i y lt e ne = omega (arith, written v xs i y lt, one v (at xs i) e, none v y ne)

-- one that was not v is not v
pub as_many : (v : ℕ) (xs : List ℕ) (i y : ℕ) → i < length xs → at xs i ≢ v → y ≢ v → times v (set xs i y) ≡ times v xs
as_many v xs i y lt e ne = omega (arith, written v xs i y lt, none v (at xs i) e, none v y ne)

-- none is v
pub nowhere : (v : ℕ) (xs : List ℕ) (i : ℕ) → i < length xs → times v xs ≡ 0 → at xs i ≢ v
nowhere v xs i lt z e = absurd (omega (arith, get_or-le-sum_by (λ x. cond (eqb x v) 1 0) xs i 0 lt, one v (at xs i) e))

-- a list that is v but at its end
pub all_but_last : (n l : ℕ) (xs : List ℕ) → l ≡ n + 1 → xs ≡ replicate l (n + 1) → times (n + 1) (set xs n 0) ≡ n
all_but_last n l xs le e =
    let len : length xs ≡ l = ap length e ∙ length-replicate l (n + 1) in
    let there : at xs n ≡ n + 1 = ap (λ (ys : List ℕ). at ys n) e ∙ get_or-replicate l n (n + 1) 0 (omega arith) in
    let whole : times (n + 1) xs ≡ l * flag (eqb (n + 1) (n + 1)) = ap (times (n + 1)) e ∙ sum_by-replicate (λ x. cond (eqb x (n + 1)) 1 0) l (n + 1) in
    let each : l * flag (eqb (n + 1) (n + 1)) ≡ l * 1 = ap (λ q. l * q) (one (n + 1) (n + 1) refl) in
    omega (arith, fewer (n + 1) xs n 0 (omega arith) there (λ z. omega arith))

-- one is v
pub somewhere : (v : ℕ) (xs : List ℕ) (i : ℕ) → i < length xs → at xs i ≡ v → 1 ≤ times v xs
somewhere v xs i lt e = omega (arith, get_or-le-sum_by (λ x. cond (eqb x v) 1 0) xs i 0 lt, one v (at xs i) e)

-- where v stands
pub find : (v : ℕ) (xs : List ℕ) → 0 < times v xs → (i : ℕ) × (i < length xs) × (at xs i ≡ v)
find v [] lt = absurd (omega arith)
find v (x ∷ xs) lt = ⊎_elim
    (λ e. (0, omega arith, e))
    (λ ne. let r = find v xs (omega (arith, sum_by-cons (λ y. cond (eqb y v) 1 0) x xs, none v x ne)) in (suc r.0, omega (arith, r.1), r.2))
    (cases_eq x v)
