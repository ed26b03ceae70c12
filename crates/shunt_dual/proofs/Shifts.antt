-- The duals after a row's tree has reached a free column, and after the walk back.
use Rattle.std.proofs.Common.{◌≡◌, ◌⊎◌, inl, inr, ⊎_elim, ℕ, ◌+◌, ◌-◌, ◌<◌, ◌≤◌, List, length, sym, ap, ◌∙◌, subst, arith}
use Rattle.std.proofs.lemmas.Bool.{cases_lt}
use Rattle.shunt_dual.specs.defs.Tables.{at}
use Rattle.shunt_dual.specs.defs.Pairs.{IsPaired, AreDuals}
use Rattle.shunt_dual.specs.defs.Tree.{IsGrown, IsEnd}

-- what is known once the duals were raised
pub record IsShift (n rows top t end : ℕ) (cost : ℕ → ℕ → ℕ) (alpha debt place owner distance way when new_alpha new_debt : List ℕ) : Type 0 where
  pub rows_in : rows ≤ n
  pub costs : (r c : ℕ) → r < n → c < n → cost r c ≤ top
  pub paired : IsPaired n rows (n + 1) place owner
  pub duals : AreDuals n rows top cost alpha debt place owner
  pub grown : IsGrown n rows top t cost alpha debt place owner distance way when
  pub ended : IsEnd n end owner distance when
  pub raised : (r : ℕ) → r < rows → at new_alpha r ≡ at alpha r + (at distance end - at distance (at place r))
  pub rest : (r : ℕ) → rows ≤ r → at new_alpha r ≡ at alpha r
  pub lowered : (c : ℕ) → c < n → at new_debt c ≡ at debt c + (at distance end - at distance c)

module _ (n rows top t end : ℕ) (cost : ℕ → ℕ → ℕ) (alpha debt place owner distance way when new_alpha new_debt : List ℕ)
    (h : IsShift n rows top t end cost alpha debt place owner distance way when new_alpha new_debt) where
  near : (c : ℕ) → c ≤ n → at when c < n + 1 → at distance c ≤ at distance end
  near c k lt = h.grown.order c end k (omega (arith, h.ended.within)) lt h.ended.outside

  sides : (c : ℕ) → c ≤ n → (at when c < n + 1) ⊎ (at distance end ≤ at distance c)
  sides c k = ⊎_elim (λ lt. inl (omega (arith, h.grown.count))) (λ e. inr (h.ended.least c k e)) (h.grown.marks c k)

  new_feasible : (r c : ℕ) → r < n → c < n → at new_alpha r ≤ cost r c + at new_debt c
  new_feasible r c rk k = ⊎_elim
      (λ early. ⊎_elim
      (λ inside. omega (arith, h.raised r early, h.lowered c k, h.grown.done r c early k inside, near (at place r) (h.paired.placed r early) inside))
      (λ far. omega (arith, h.raised r early, h.lowered c k, h.duals.feasible r c rk k))
      (sides (at place r) (h.paired.placed r early)))
      (λ late. omega (arith, h.rest r late, h.lowered c k, h.duals.feasible r c rk k))
      (cases_lt r rows)

  new_tight : (r : ℕ) → r < rows → at place r < n → at new_alpha r ≡ cost r (at place r) + at new_debt (at place r)
  new_tight r k inside = omega (arith, h.raised r k, h.lowered (at place r) inside, h.duals.tight r k inside)

  -- an edge of the tree
  edge : (c : ℕ) → c < n → (c ≡ end) ⊎ (at when c < n + 1) → at new_alpha (at way c) ≡ cost (at way c) c + at new_debt c
  edge c k which =
      let reach = h.grown.reach c k in
      let closer : at distance c ≤ at distance end = ⊎_elim (λ e. let same : at distance c ≡ at distance end = ap (at distance) e in omega arith)
      (λ lt. near c (omega arith) lt) which in
      let below : at when c ≤ n + 1 = ⊎_elim (λ lt. omega (arith, h.grown.count)) (λ e. omega arith) (h.grown.marks c (omega arith)) in
      let parent : at distance (at place (at way c)) ≤ at distance end = near (at place (at way c)) (h.paired.placed (at way c) reach.0) (omega (arith, reach.1)) in
      omega (arith, h.raised (at way c) reach.0, h.lowered c k, h.grown.path c k)

  new_fresh : (c : ℕ) → c < n → at owner c ≡ n + 1 → at new_debt c ≡ 0
  new_fresh c k free = ⊎_elim
      (λ lt. absurd (h.grown.held c k lt free))
      (λ far. omega (arith, h.lowered c k, h.duals.fresh c k free))
      (sides c (omega arith))

  new_low : (r : ℕ) → r < n → at new_alpha r ≤ top
  new_low r k = omega (arith, new_feasible r end k h.ended.within, new_fresh end h.ended.within h.ended.free, h.costs r end k h.ended.within)

  new_small : (c : ℕ) → c < n → at new_debt c ≤ top
  new_small c k = ⊎_elim
      (λ free. omega (arith, new_fresh c k free))
      (λ s. let inside : at place (at owner c) < n = omega (arith, s.1) in
      let there : at new_debt (at place (at owner c)) ≡ at new_debt c = ap (at new_debt) s.1 in
      omega (arith, new_tight (at owner c) s.0 inside, new_low (at owner c) (omega (arith, s.0, h.rows_in))))
      (h.paired.back c (omega arith) (λ e. omega arith))

  pub shifted : (new_place new_owner : List ℕ) → IsPaired n rows n new_place new_owner
      → ((c : ℕ) → c ≤ n → at new_owner c ≡ n + 1 → at owner c ≡ n + 1)
      → ((r : ℕ) → r < rows → (at new_place r ≡ at place r) ⊎ ((at way (at new_place r) ≡ r) × ((at new_place r ≡ end) ⊎ (at when (at new_place r) < at when end))))
      → AreDuals n rows top cost new_alpha new_debt new_place new_owner
  shifted new_place new_owner paired kept moved = record {
    feasible = new_feasible;
    tight = λ r k inside.
        let P : ℕ → Type 0 = λ p. at new_alpha r ≡ cost r p + at new_debt p in
        ⊎_elim
        (λ same. subst P (sym same) (new_tight r k (omega (arith, same))))
        (λ m. let Q : ℕ → Type 0 = λ q. at new_alpha q ≡ cost q (at new_place r) + at new_debt (at new_place r) in
        subst Q m.0 (edge (at new_place r) inside (⊎_elim (λ e. inl e) (λ lt. inr (omega (arith, h.ended.outside))) m.1)))
        (moved r k);
    fresh = λ c k e. new_fresh c k (kept c (omega arith) e);
    zero = λ r late k. h.rest r late ∙ h.duals.zero r late k;
    low = new_low;
    small = new_small;
  }

-- the same from what the calls of a row say
pub inserted : (n k top end : ℕ) (cost : ℕ → ℕ → ℕ) (alpha debt place owner distance way when new_alpha new_debt new_place new_owner : List ℕ) → k < n
    → ((r c : ℕ) → r < n → c < n → cost r c ≤ top)
    → IsPaired n (k + 1) (n + 1) place owner → AreDuals n (k + 1) top cost alpha debt place owner
    → ((t : ℕ) × IsGrown n (k + 1) top t cost alpha debt place owner distance way when) → IsEnd n end owner distance when
    → ((r : ℕ) → r < k + 1 → at new_alpha r ≡ at alpha r + (at distance end - at distance (at place r)))
    → ((r : ℕ) → k + 1 ≤ r → at new_alpha r ≡ at alpha r)
    → length debt ≡ n → ((c : ℕ) → c < length debt → at new_debt c ≡ at debt c + (at distance end - at distance c))
    → IsPaired n (k + 1) n new_place new_owner
    → ((c : ℕ) → c ≤ n → at new_owner c ≡ n + 1 → at owner c ≡ n + 1)
    → ((r : ℕ) → r < k + 1 → (at new_place r ≡ at place r) ⊎ ((at way (at new_place r) ≡ r) × ((at new_place r ≡ end) ⊎ (at when (at new_place r) < at when end))))
    → AreDuals n (k + 1) top cost new_alpha new_debt new_place new_owner
inserted n k top end cost alpha debt place owner distance way when new_alpha new_debt new_place new_owner kn costs paired duals g ended raised rest dl lowered new_paired
    kept moved =
    shifted n (k + 1) top g.0 end cost alpha debt place owner distance way when new_alpha new_debt
    (record {
      rows_in = omega arith;
      costs = costs;
      paired = paired;
      duals = duals;
      grown = g.1;
      ended = ended;
      raised = raised;
      rest = rest;
      lowered = λ c lt. lowered c (omega arith);
    })
    new_place new_owner new_paired kept moved
