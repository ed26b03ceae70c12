-- One turn of a row's tree: the nearest column outside joins it, and its owner's row is tried.
use Rattle.std.proofs.Common.{◌≡◌, ◌≢◌, ◌⊎◌, inl, inr, ⊎_elim, ℕ, ◌+◌, ◌*◌, ◌<◌, ◌≤◌, List, length, set, refl, sym, ap, ◌∙◌, subst, arith, get_or-set_other, get_or-set_same}
use Rattle.std.proofs.lemmas.Bool.{cases_eq}
use Rattle.shunt_dual.specs.defs.Tables.{at, times}
use Rattle.shunt_dual.specs.defs.Pairs.{IsPaired, AreDuals}
use Rattle.shunt_dual.specs.defs.Tree.{IsGrown, IsTriedRow}
use Rattle.shunt_dual.proofs.Counts.{fewer, somewhere, find}

-- a free column is outside the tree
pub outside : {n rows top t : ℕ} {cost : ℕ → ℕ → ℕ} {alpha debt place owner distance way when : List ℕ} → length owner ≡ n + 1 → 0 < times (n + 1) owner → at owner n ≢ n + 1
    → IsGrown n rows top t cost alpha debt place owner distance way when → (c : ℕ) × (c < length owner) × (at when c ≡ n + 1)
outside {n} {rows} {top} {t} {cost} {alpha} {debt} {place} {owner} {distance} {way} {when} ol free root g =
    let f = find (n + 1) owner free in
    let small : f.0 ≤ n = omega (arith, f.1) in
    let other : f.0 ≢ n = λ e. root (sym (ap (at owner) e) ∙ f.2) in
    let below : f.0 < n = omega arith in
    (f.0, f.1, ⊎_elim (λ lt. absurd (g.held f.0 below (omega (arith, g.count)) f.2)) (λ e. e) (g.marks f.0 small))

-- what is known of a turn: column c joins, its owner r is tried
pub record IsTurn (n rows top t c r : ℕ) (cost : ℕ → ℕ → ℕ) (alpha debt place owner distance way when new_distance new_way : List ℕ) : Type 0 where
  pub when_len : length when ≡ n + 1
  pub rows_in : rows ≤ n
  pub within : c < n
  pub join : at when c ≡ n + 1
  pub least : (b : ℕ) → b ≤ n → at when b ≡ n + 1 → at distance c ≤ at distance b
  pub owner_in : r < rows
  pub owner_of : at owner c ≡ r
  pub place_of : at place r ≡ c
  pub placed : (q : ℕ) → q < rows → at place q ≤ n
  pub owned : (q : ℕ) → q < rows → at owner (at place q) ≡ q
  pub feasible : (q : ℕ) → q < n → at alpha r ≤ cost r q + at debt q
  pub grown : IsGrown n rows top t cost alpha debt place owner distance way when
  pub each : (q : ℕ) → q < n → IsTriedRow r (at alpha r) (at distance c) (cost r q) (at debt q) (at distance q) (at way q) (at new_distance q) (at new_way q)
  pub rest : at new_distance n ≡ at distance n

module _ (n rows top t c r : ℕ) (cost : ℕ → ℕ → ℕ) (alpha debt place owner distance way when new_distance new_way : List ℕ)
    (h : IsTurn n rows top t c r cost alpha debt place owner distance way when new_distance new_way) where
  early : t ≤ n
  early = omega (arith, somewhere (n + 1) when c (omega (arith, h.within, h.when_len)) h.join, h.grown.count)

  joined : at (set when c t) c ≡ t
  joined = get_or-set_same when c t 0 (omega (arith, h.within, h.when_len))

  other : (q : ℕ) → q ≢ c → at (set when c t) q ≡ at when q
  other q ne = get_or-set_other when c q t 0 ne

  -- what joined by now was in the tree, or is c
  in_tree : (b : ℕ) → at (set when c t) b < n + 1 → (b ≡ c) ⊎ (at when b < n + 1)
  in_tree b lt = ⊎_elim (λ e. inl e) (λ ne. inr (omega (arith, other b ne))) (cases_eq b c)

  not_farther : (b : ℕ) → b ≤ n → at (set when c t) b < n + 1 → at distance b ≤ at distance c
  not_farther b k lt = ⊎_elim (λ e. let same : at distance b ≡ at distance c = ap (at distance) e in omega arith) (λ old. h.grown.order b c k (omega (arith, h.within)) old h.join)
      (in_tree b lt)

  -- columns in the tree stay as they are
  stays : (b : ℕ) → b < n → at (set when c t) b < n + 1 → (at new_distance b ≡ at distance b) × (at new_way b ≡ at way b)
  stays b k lt = ⊎_elim
      (λ s. (s.0, s.1))
      (λ f. absurd (omega (arith, f.0, f.2, h.feasible b k, not_farther b (omega arith) lt)))
      (h.each b k)

  same_dist : (b : ℕ) → b ≤ n → at (set when c t) b < n + 1 → at new_distance b ≡ at distance b
  same_dist b k lt = ⊎_elim
      (λ e. ap (at new_distance) e ∙ h.rest ∙ sym (ap (at distance) e))
      (λ ne. (stays b (omega arith) lt).0)
      (cases_eq b n)

  -- a column that was in the tree is in it
  still : (b : ℕ) → at when b < n + 1 → at (set when c t) b ≡ at when b
  still b lt = other b (λ e. let same : at when b ≡ at when c = ap (at when) e in omega (arith, h.join))

  not_nearer : (q : ℕ) → q ≤ n → at (set when c t) q ≡ n + 1 → at distance c ≤ at new_distance q
  not_nearer q k e =
      let ne : q ≢ c = λ s. let same : at (set when c t) q ≡ at (set when c t) c = ap (at (set when c t)) s in omega (arith, joined, early) in
      let old : at when q ≡ n + 1 = sym (other q ne) ∙ e in
      let inside : q ≢ n = λ s. let same : at when q ≡ at when n = ap (at when) s in omega (arith, h.grown.root) in
      let below : q < n = omega arith in
      ⊎_elim (λ s. omega (arith, s.0, h.least q k old)) (λ f. omega (arith, f.2, h.feasible q below)) (h.each q below)

  new_marks : (q : ℕ) → q ≤ n → (at (set when c t) q < t + 1) ⊎ (at (set when c t) q ≡ n + 1)
  new_marks q k = ⊎_elim
      (λ e. inl (let same : at (set when c t) q ≡ at (set when c t) c = ap (at (set when c t)) e in omega (arith, joined)))
      (λ ne. ⊎_elim (λ lt. inl (omega (arith, other q ne))) (λ e. inr (other q ne ∙ e)) (h.grown.marks q k))
      (cases_eq q c)

  -- the parent of a column whose parent is as it was
  old_parent : (q : ℕ) → q < n → at when (at place (at way q)) < n + 1
  old_parent q k = ⊎_elim (λ lt. omega (arith, (h.grown.reach q k).1, early)) (λ e. omega (arith, (h.grown.reach q k).1)) (h.grown.marks q (omega arith))

  parent_in : (q : ℕ) → q < n → at place (at way q) ≤ n
  parent_in q k = h.placed (at way q) (h.grown.reach q k).0

  parent_still : (q : ℕ) → q < n → at (set when c t) (at place (at way q)) ≡ at when (at place (at way q))
  parent_still q k = still (at place (at way q)) (old_parent q k)

  parent_before : (q : ℕ) → q < n → at when (at place (at way q)) < at (set when c t) q
  parent_before q k = ⊎_elim
      (λ e. let now : at (set when c t) q ≡ t = ap (at (set when c t)) e ∙ joined in
      ⊎_elim (λ lt. omega arith) (λ out. absurd (omega (arith, old_parent q k))) (h.grown.marks (at place (at way q)) (parent_in q k)))
      (λ ne. omega (arith, other q ne, (h.grown.reach q k).1))
      (cases_eq q c)

  -- a column that fell is outside the tree
  fell_out : (q : ℕ) → q < n → at new_distance q < at distance q → at (set when c t) q ≡ n + 1
  fell_out q k lt = ⊎_elim
      (λ lt2. let inside : at (set when c t) q < n + 1 = omega (arith, early) in absurd (omega (arith, (stays q k inside).0)))
      (λ e. e)
      (new_marks q (omega arith))

  new_reach : (q : ℕ) → q < n → (at new_way q < rows) × (at (set when c t) (at place (at new_way q)) < at (set when c t) q)
  new_reach q k =
      let P : ℕ → Type 0 = λ w. (w < rows) × (at (set when c t) (at place w) < at (set when c t) q) in
      ⊎_elim
      (λ s. subst P (sym s.1) ((h.grown.reach q k).0, omega (arith, parent_still q k, parent_before q k)))
      (λ f. let now : at (set when c t) (at place r) ≡ t = ap (at (set when c t)) h.place_of ∙ joined in
      subst P (sym f.1) (h.owner_in, omega (arith, early, fell_out q k f.0)))
      (h.each q k)

  at_c : at new_distance c ≡ at distance c
  at_c = same_dist c (omega (arith, h.within)) (omega (arith, joined, early))

  new_path : (q : ℕ) → q < n → at new_distance q + at alpha (at new_way q) ≡ at new_distance (at place (at new_way q)) + (cost (at new_way q) q + at debt q)
  new_path q k =
      let Q : ℕ → Type 0 = λ w. at new_distance q + at alpha w ≡ at new_distance (at place w) + (cost w q + at debt q) in
      ⊎_elim
      (λ s. let p : at new_distance (at place (at way q)) ≡ at distance (at place (at way q)) = same_dist (at place (at way q)) (parent_in q k)
      (omega (arith, parent_still q k, old_parent q k)) in
      subst Q (sym s.1) (omega (arith, s.0, h.grown.path q k)))
      (λ f. let there : at new_distance (at place r) ≡ at distance c = ap (at new_distance) h.place_of ∙ at_c in
      subst Q (sym f.1) (omega (arith, f.2)))
      (h.each q k)

  not_more : (q : ℕ) → q < n → at new_distance q ≤ at distance q
  not_more q k = ⊎_elim (λ s. omega (arith, s.0)) (λ f. omega (arith, f.0)) (h.each q k)

  tried : (q : ℕ) → q < n → at new_distance q + at alpha r ≤ at distance c + (cost r q + at debt q)
  tried q k = ⊎_elim (λ s. omega (arith, s.0, s.2)) (λ f. omega (arith, f.2)) (h.each q k)

  new_done : (p q : ℕ) → p < rows → q < n → at (set when c t) (at place p) < n + 1 → at new_distance q + at alpha p ≤ at new_distance (at place p) + (cost p q + at debt q)
  new_done p q kp k lt =
      let D : ℕ → Type 0 = λ w. at new_distance q + at alpha w ≤ at new_distance (at place w) + (cost w q + at debt q) in
      ⊎_elim
      (λ e. let same : r ≡ p = sym h.owner_of ∙ (sym (ap (at owner) e) ∙ h.owned p kp) in
      let there : at new_distance (at place r) ≡ at distance c = ap (at new_distance) h.place_of ∙ at_c in
      subst D same (omega (arith, tried q k)))
      (λ old. let there : at new_distance (at place p) ≡ at distance (at place p) = same_dist (at place p) (h.placed p kp) lt in
      omega (arith, not_more q k, h.grown.done p q kp k old))
      (in_tree (at place p) lt)

  new_low : (q : ℕ) → q ≤ n → at new_distance q ≤ 2 * top
  new_low q k = ⊎_elim
      (λ e. omega (arith, ap (at new_distance) e ∙ h.rest, h.grown.low n (omega arith)))
      (λ ne. let below : q < n = omega arith in ⊎_elim (λ s. omega (arith, s.0, h.grown.low q k)) (λ f. omega (arith, f.0, h.grown.low q k)) (h.each q below))
      (cases_eq q n)

  pub turned : IsGrown n rows top (t + 1) cost alpha debt place owner new_distance new_way (set when c t)
  turned = record {
    reach = new_reach;
    path = new_path;
    done = new_done;
    order = λ a b ka kb la e. omega (arith, same_dist a ka la, not_farther a ka la, not_nearer b kb e);
    marks = new_marks;
    held = λ q k lt free. ⊎_elim
        (λ e. let same : at owner q ≡ at owner c = ap (at owner) e in omega (arith, h.owner_of, h.owner_in, h.rows_in))
        (λ old. h.grown.held q k old free)
        (in_tree q lt);
    low = new_low;
    root = omega (arith, still n h.grown.root, h.grown.root);
    count = omega (arith, fewer (n + 1) when c t (omega (arith, h.within, h.when_len)) h.join (λ e. omega (arith, early)), h.grown.count);
  }

-- the owner of a column that is not free
pub owner_back : {n rows c : ℕ} {place owner : List ℕ} → IsPaired n rows (n + 1) place owner → c ≤ n → at owner c ≢ n + 1 → (at owner c < rows) × (at place (at owner c) ≡ c)
owner_back {n} {rows} {c} {place} {owner} p k taken = ⊎_elim (λ e. absurd (taken e)) (λ s. s) (p.back c k (λ e. omega arith))

pub slack : {n rows top c : ℕ} {cost : ℕ → ℕ → ℕ} {alpha debt place owner : List ℕ} (row : List ℕ) → rows ≤ n → c < n + 1 → at owner c ≢ n + 1
    → IsPaired n rows (n + 1) place owner → AreDuals n rows top cost alpha debt place owner
    → ((q : ℕ) → q < n → at row q ≡ cost (at owner c) q) → (q : ℕ) → q < n → at alpha (at owner c) ≤ at row q + at debt q
slack {c = c} {owner = owner} row rn ck taken p d value q k =
    let o = owner_back p (omega arith) taken in
    omega (arith, value q k, d.feasible (at owner c) q (omega (arith, o.0)) k)

pub turn : (n rows top t c : ℕ) (cost : ℕ → ℕ → ℕ) (alpha debt place owner distance way when new_distance new_way row : List ℕ)
    → rows ≤ n → length when ≡ n + 1 → length debt ≡ n → c < length when → at when c ≡ n + 1 → ((b : ℕ) → b < length when → at when b ≡ n + 1 → at distance c ≤ at distance b)
    → at owner c ≢ n + 1 → IsPaired n rows (n + 1) place owner → AreDuals n rows top cost alpha debt place owner
    → IsGrown n rows top t cost alpha debt place owner distance way when
    → ((q : ℕ) → q < n → at row q ≡ cost (at owner c) q)
    → ((q : ℕ) → q < length debt → IsTriedRow (at owner c) (at alpha (at owner c)) (at distance c) (at row q) (at debt q) (at distance q) (at way q) (at new_distance q)
    (at new_way q))
    → at new_distance (length debt) ≡ at distance (length debt)
    → IsGrown n rows top (t + 1) cost alpha debt place owner new_distance new_way (set when c t)
turn n rows top t c cost alpha debt place owner distance way when new_distance new_way row rn wl dl ck join least taken p d g value each rest =
    let ne : c ≢ n = λ s. let same : at when c ≡ at when n = ap (at when) s in omega (arith, g.root) in
    let o = owner_back p (omega arith) taken in
    turned n rows top t c (at owner c) cost alpha debt place owner distance way when new_distance new_way (record {
      when_len = wl;
      rows_in = rn;
      within = omega arith;
      join = join;
      least = λ b k e. least b (omega arith) e;
      owner_in = o.0;
      owner_of = refl;
      place_of = o.1;
      placed = p.placed;
      owned = p.owned;
      feasible = λ q k. d.feasible (at owner c) q (omega (arith, o.0)) k;
      grown = g;
      each = λ q k. subst (λ (w : ℕ). IsTriedRow (at owner c) (at alpha (at owner c)) (at distance c) w (at debt q) (at distance q) (at way q) (at new_distance q) (at new_way q))
          (value q k) (each q (omega arith));
      rest = subst (λ (i : ℕ). at new_distance i ≡ at distance i) dl rest;
    })
