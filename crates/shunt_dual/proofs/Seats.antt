-- A new row is seated at column n, and a tree is begun there.
use Rattle.std.proofs.Common.{◌≡◌, ◌≢◌, inl, inr, ⊎_elim, ℕ, ◌+◌, ◌<◌, ◌≤◌, List, length, set, replicate, refl, sym, ap, ◌∙◌, subst, arith, get_or-set_other, get_or-set_same}
use Rattle.std.proofs.lemmas.Grind.{elements}
use Rattle.std.proofs.lemmas.Bool.{cases_eq}
use Rattle.std.proofs.lemmas.List.{get_or-replicate, length-replicate}
use Rattle.shunt_dual.proofs.Counts.{all_but_last}
use Rattle.shunt_dual.specs.defs.Tables.{at, times}
use Rattle.shunt_dual.specs.defs.Pairs.{IsPaired, AreDuals}
use Rattle.shunt_dual.specs.defs.Tree.{IsGrown}

pub seated : (n k : ℕ) (place owner : List ℕ) → length place ≡ n → length owner ≡ n + 1 → k < n → IsPaired n k n place owner
    → IsPaired n (k + 1) (n + 1) (set place k n) (set owner n k)
seated n k place owner pl ol kn p = record {
  placed = λ r lt. let o = p.placed r in grind (arith, elements);
  apart = λ r lt e. let o = p.placed r in grind (arith, elements);
  owned = λ r lt. let o = p.owned r in let a = p.apart r in grind (arith, elements);
  back = λ c le ne. let b = p.back c le in grind (arith, elements);
}

pub seated_duals : (n k top : ℕ) (cost : ℕ → ℕ → ℕ) (alpha debt place owner : List ℕ) → length place ≡ n → k < n
    → AreDuals n k top cost alpha debt place owner → AreDuals n (k + 1) top cost alpha debt (set place k n) (set owner n k)
seated_duals n k top cost alpha debt place owner pl kn d = record {
  feasible = d.feasible;
  tight = λ r lt inside. ⊎_elim
      (λ e. let here : at (set place k n) r ≡ n = ap (at (set place k n)) e ∙ get_or-set_same place k n 0 (omega arith) in absurd (omega arith))
      (λ ne. let P : ℕ → Type 0 = λ p. at alpha r ≡ cost r p + at debt p in
      let there : at (set place k n) r ≡ at place r = get_or-set_other place k r n 0 ne in
      subst P (sym there) (d.tight r (omega arith) (omega arith)))
      (cases_eq r k);
  fresh = λ c lt e. d.fresh c lt (sym (get_or-set_other owner n c k 0 (λ s. omega arith)) ∙ e);
  zero = λ r le lt. d.zero r (omega arith) lt;
  low = d.low;
  small = d.small;
}

-- the hole is the free column that was found
pub opened : {n rows end : ℕ} {place owner : List ℕ} → rows ≤ n → at owner end ≡ n + 1 → IsPaired n rows (n + 1) place owner → IsPaired n rows end place owner
opened {n} {rows} {end} {place} {owner} rn free p = record {
  placed = p.placed;
  apart = λ r lt e. let same : at owner (at place r) ≡ at owner end = ap (at owner) e in omega (arith, p.owned r lt);
  owned = p.owned;
  back = λ c le ne. p.back c le (λ e. omega arith);
}

module _ (n k top : ℕ) (cost : ℕ → ℕ → ℕ) (alpha debt place owner distance way when : List ℕ) (kn : k < n) (here : at place k ≡ n) (costs : (c : ℕ) → c < n → cost k c ≤ top)
    (p : IsPaired n (k + 1) (n + 1) place owner) (d : AreDuals n (k + 1) top cost alpha debt place owner) (none : at alpha k ≡ 0)
    (far : (c : ℕ) → c < n → at distance c ≡ cost k c + at debt c) (root : at distance n ≡ 0) (ways : (c : ℕ) → c < n → at way c ≡ k)
    (out : (c : ℕ) → c < n → at when c ≡ n + 1) (joined : at when n ≡ 0) (count : times (n + 1) when ≡ n) where
  only_n : (b : ℕ) → b ≤ n → at when b < n + 1 → b ≡ n
  only_n b le lt = ⊎_elim (λ e. e) (λ ne. absurd (omega (arith, out b (omega arith)))) (cases_eq b n)

  begins : IsGrown n (k + 1) top 1 cost alpha debt place owner distance way when
  begins = record {
    reach = λ c lt. let P : ℕ → Type 0 = λ w. (w < k + 1) × (at when (at place w) < at when c) in
        let there : at when (at place k) ≡ at when n = ap (at when) here in
        subst P (sym (ways c lt)) (omega arith, omega (arith, out c lt));
    path = λ c lt. let P : ℕ → Type 0 = λ w. at distance c + at alpha w ≡ at distance (at place w) + (cost w c + at debt c) in
        let there : at distance (at place k) ≡ at distance n = ap (at distance) here in
        subst P (sym (ways c lt)) (omega (arith, far c lt));
    done = λ r c rk lt inside.
        let at_n : at place r ≡ n = only_n (at place r) (p.placed r rk) inside in
        let same : k ≡ r = sym (p.owned k (omega arith)) ∙ (ap (at owner) (here ∙ sym at_n) ∙ p.owned r rk) in
        let there : at distance (at place k) ≡ at distance n = ap (at distance) here in
        let P : ℕ → Type 0 = λ w. at distance c + at alpha w ≤ at distance (at place w) + (cost w c + at debt c) in
        subst P same (omega (arith, far c lt));
    order = λ b c bk ck lt e. let there : at distance b ≡ at distance n = ap (at distance) (only_n b bk lt) in omega arith;
    marks = λ c le. ⊎_elim (λ e. inl (let same : at when c ≡ at when n = ap (at when) e in omega arith)) (λ ne. inr (out c (omega arith))) (cases_eq c n);
    held = λ c lt inside. absurd (omega (arith, out c lt));
    low = λ c le. ⊎_elim (λ e. let same : at distance c ≡ at distance n = ap (at distance) e in omega arith)
        (λ ne. let lt : c < n = omega arith in omega (arith, far c lt, costs c lt, d.small c lt)) (cases_eq c n);
    root = omega arith;
    count = omega arith;
  }

-- the same from what `start` says, over the row's costs and the length of the debts
pub begun : (n k top : ℕ) (cost : ℕ → ℕ → ℕ) (alpha debt place owner distance way when row : List ℕ) → k < n → at place k ≡ n → ((c : ℕ) → c < n → cost k c ≤ top)
    → IsPaired n (k + 1) (n + 1) place owner → AreDuals n (k + 1) top cost alpha debt place owner → at alpha k ≡ 0
    → length debt ≡ n → ((c : ℕ) → c < n → at distance c ≡ at row c + at debt c) → ((c : ℕ) → c < n → at row c ≡ cost k c) → at distance (length debt) ≡ 0
    → ((c : ℕ) → c < length debt → at way c ≡ k) → ((c : ℕ) → c < length debt → at when c ≡ length debt + 1) → at when (length debt) ≡ 0
    → times (length debt + 1) when ≡ length debt
    → IsGrown n (k + 1) top 1 cost alpha debt place owner distance way when
begun n k top cost alpha debt place owner distance way when row kn here costs p d none dl far value root ways out joined count =
    begins n k top cost alpha debt place owner distance way when kn here costs p d none
    (λ c lt. omega (arith, far c lt, value c lt))
    (subst (λ (m : ℕ). at distance m ≡ 0) dl root)
    (λ c lt. ways c (omega arith))
    (λ c lt. omega (arith, out c (omega arith)))
    (subst (λ (m : ℕ). at when m ≡ 0) dl joined)
    (subst (λ (m : ℕ). times (m + 1) when ≡ m) dl count)

-- column n is not free after a row is in
pub no_root : (n k : ℕ) (owner new_owner : List ℕ) → length owner ≡ n + 1 → k < n → ((c : ℕ) → c ≤ n → at new_owner c ≡ n + 1 → at (set owner n k) c ≡ n + 1)
    → at new_owner n ≢ n + 1
no_root n k owner new_owner ol kn kept e = omega (arith, kept n (omega arith) e, get_or-set_same owner n k 0 (omega arith))

-- before any row is in
pub empty_paired : (n : ℕ) (place owner : List ℕ) → owner ≡ set (replicate (n + 1) (n + 1)) n 0 → IsPaired n 0 n place owner
empty_paired n place owner e = record {
  placed = λ r lt. absurd (omega arith);
  apart = λ r lt. absurd (omega arith);
  owned = λ r lt. absurd (omega arith);
  back = λ c le ne. inl (ap (λ (xs : List ℕ). at xs c) e ∙ (get_or-set_other (replicate (n + 1) (n + 1)) n c 0 0 ne ∙ get_or-replicate (n + 1) c (n + 1) 0 (omega arith)));
}

pub empty_duals : (n top : ℕ) (cost : ℕ → ℕ → ℕ) (alpha debt place owner : List ℕ) → alpha ≡ replicate n 0 → debt ≡ replicate n 0 → AreDuals n 0 top cost alpha debt place owner
empty_duals n top cost alpha debt place owner ea ed =
    let a = λ (r : ℕ) (lt : r < n). ap (λ (xs : List ℕ). at xs r) ea ∙ get_or-replicate n r 0 0 lt in
    let d = λ (c : ℕ) (lt : c < n). ap (λ (xs : List ℕ). at xs c) ed ∙ get_or-replicate n c 0 0 lt in
    record {
      feasible = λ r c rk ck. omega (arith, a r rk);
      tight = λ r lt inside. absurd (omega arith);
      fresh = λ c lt e. d c lt;
      zero = λ r le lt. a r lt;
      low = λ r lt. omega (arith, a r lt);
      small = λ c lt. omega (arith, d c lt);
    }

pub empty_root : (n : ℕ) (owner : List ℕ) → owner ≡ set (replicate (n + 1) (n + 1)) n 0 → at owner n ≡ 0
empty_root n owner e = ap (λ (xs : List ℕ). at xs n) e ∙ get_or-set_same (replicate (n + 1) (n + 1)) n 0 0 (omega (arith, length-replicate (n + 1) (n + 1)))

pub empty_count : (n : ℕ) (owner : List ℕ) → owner ≡ set (replicate (n + 1) (n + 1)) n 0 → times (n + 1) owner ≡ n
empty_count n owner e = ap (times (n + 1)) e ∙ all_but_last n (n + 1) (replicate (n + 1) (n + 1)) refl refl
