-- Visits in the order in which they come.
use Rattle.std.specs.Prelude.{◌==◌, ◌↔◌, filter, IsPermutation}
use Rattle.std.specs.List.Sorted.{IsNonDecreasingBy}
use Rattle.std.proofs.Common.{◌≡◌, ◌⊎◌, inl, inr, ⊎_elim, ℕ, ◌+◌, ◌-◌, ◌<◌, ◌≤◌, false, Bool, List, [], ◌∷◌, ◌++◌, length, take, drop, get_or, refl, sym, ap, subst, ◌∙◌, arith}
use Rattle.std.proofs.lemmas.Bool.{cases_lt}
use Rattle.std.proofs.lemmas.Bool.Decides.{nat_tests}
use Rattle.std.proofs.lemmas.List.{take-append-drop, get_or-drop, get_or-take, length-drop, length-take}
use Rattle.std.proofs.lemmas.List.Sorted.{IsPermutation-map, IsPermutation-sym, Contains-permutation}
use Rattle.shunt_lists.specs.defs.Members.{In}
use Rattle.shunt_lists.proofs.Members.{filter_yes, filter_no, in_from, in_to, of_map, place}
use Rattle.shunt_stacks.specs.defs.Spans.{Span, AreOwn, coming_at}
use Rattle.shunt_recount.specs.declared.visits.Visit.{Visit}
use Rattle.shunt_recount.specs.defs.Visits.{span_of, spans_of, comes_at, AreSmall}
use Rattle.shunt_lists.proofs.Tests.{equal_to as same_test}

less_test : (m n : ℕ) → m < n → m == n ≡ false
less_test m n e = grind (arith, nat_tests)

more_test : (m n : ℕ) → n < m → m == n ≡ false
more_test m n e = grind (arith, nat_tests)

at : ℕ → Span → Bool
at x s = s.from == x

-- of visits before an event, at it, and behind it, in this order, those in the middle come at it
none_left : (x : ℕ) (c : List Visit) → ((v : Visit) → In v c → x < v.comes) → filter (λ (s : Span). s.from == x) (spans_of c) ≡ []
none_left x [] later = refl
none_left x (v ∷ c) later = filter_no (λ (s : Span). s.from == x) (span_of v) (spans_of c) (more_test v.comes x (later v (inl refl))) ∙ none_left x c (λ w i. later w (inr i))

middle : (x : ℕ) (b c : List Visit) → ((v : Visit) → In v b → v.comes ≡ x) → ((v : Visit) → In v c → x < v.comes) → spans_of b ≡ coming_at x (spans_of (b ++ c))
middle x [] c here later = sym (none_left x c later)
middle x (v ∷ b) c here later = ap (λ (l : List Span). span_of v ∷ l) (middle x b c (λ w i. here w (inr i)) later)
    ∙ sym (filter_yes (λ (s : Span). s.from == x) (span_of v) (spans_of (b ++ c)) (same_test v.comes x (here v (inl refl))))

in_three : (x : ℕ) (a b c : List Visit) → ((v : Visit) → In v a → v.comes < x) → ((v : Visit) → In v b → v.comes ≡ x) → ((v : Visit) → In v c → x < v.comes) →
    spans_of b ≡ coming_at x (spans_of (a ++ (b ++ c)))
in_three x [] b c before here later = middle x b c here later
in_three x (v ∷ a) b c before here later = in_three x a b c (λ w i. before w (inr i)) here later
    ∙ sym (filter_no (λ (s : Span). s.from == x) (span_of v) (spans_of (a ++ (b ++ c))) (less_test v.comes x (before v (inl refl))))

in_take : (n : ℕ) (xs : List Visit) (x : Visit) → In x (take n xs) → (k : ℕ) × (k < n) × (k < length xs) × (get_or xs k x ≡ x)
in_take n xs x i =
    let p = place (take n xs) x i in
    let long = length-take n xs in
    let lt : p.0 < n = omega (arith, p.1, long) in (
      p.0,
      lt,
      omega (arith, p.1, long),
      sym (get_or-take n xs p.0 x lt) ∙ p.2 x,
    )

in_drop : (n : ℕ) (xs : List Visit) (x : Visit) → In x (drop n xs) → (k : ℕ) × (n ≤ k) × (k < length xs) × (get_or xs k x ≡ x)
in_drop n xs x i = let p = place (drop n xs) x i in let long = length-drop n xs in (n + p.0, omega arith, omega (arith, p.1, long), sym (get_or-drop n xs p.0 x) ∙ p.2 x)

abbrev pub AreBefore : List Visit → ℕ → ℕ → Type 0
AreBefore visits n x = (k : ℕ) (d : Visit) → k < n → (get_or visits k d).comes < x

abbrev pub AreBehind : List Visit → ℕ → ℕ → Type 0
AreBehind visits n x = (k : ℕ) (d : Visit) → n ≤ k → k < length visits → x ≤ (get_or visits k d).comes

module _ (visits : List Visit) (from to x : ℕ) (bound : from ≤ length visits) (before : AreBefore visits from x) (behind : AreBehind visits from x)
    (before_next : AreBefore visits to (x + 1)) (behind_next : AreBehind visits to (x + 1)) where
  pub ordered : (d : Visit) → from ≤ to
  ordered d = ⊎_elim
      (λ (less : to < from). let a = before to d less in let b = behind_next to d (omega arith) (omega (arith, less, bound)) in absurd (omega (arith, a, b)))
      (λ le. le)
      (cases_lt to from)

  pub come_there : from ≤ to → spans_of (take (to - from) (drop from visits)) ≡ coming_at x (spans_of visits)
  come_there le = in_three x (take from visits) (take (to - from) (drop from visits)) (drop (to - from) (drop from visits))
      (λ v i. let p = in_take from visits v i in subst (λ (w : Visit). w.comes < x) p.3 (before p.0 v p.1))
      (λ v i.
      let p = in_take (to - from) (drop from visits) v i in
      let long = length-drop from visits in
      let is : get_or visits (from + p.0) v ≡ v = sym (get_or-drop from visits p.0 v) ∙ p.3 in
      let low : x ≤ v.comes = subst (λ (w : Visit). x ≤ w.comes) is (behind (from + p.0) v (omega arith) (omega (arith, p.2, long))) in
      let high : v.comes < x + 1 = subst (λ (w : Visit). w.comes < x + 1) is (before_next (from + p.0) v (omega (arith, p.1, le))) in
      omega (arith, low, high))
      (λ v i.
      let p = in_drop (to - from) (drop from visits) v i in
      let long = length-drop from visits in
      let is : get_or visits (from + p.0) v ≡ v = sym (get_or-drop from visits p.0 v) ∙ p.3 in
      let low : x + 1 ≤ v.comes = subst (λ (w : Visit). x + 1 ≤ w.comes) is (behind_next (from + p.0) v (omega (arith, p.1, le)) (omega (arith, p.2, long))) in
      omega (arith, low))
      ∙ ap (λ (l : List Visit). coming_at x (spans_of l)) (ap (λ (l : List Visit). take from visits ++ l) (take-append-drop (to - from) (drop from visits))
      ∙ take-append-drop from visits)

-- what comes at an event or behind it stands behind those that come before it
pub where_it_stands : (visits : List Visit) (n start : ℕ) (s : Span) → AreBefore visits n start → In s (spans_of visits) → start ≤ s.from →
    (k : ℕ) × (n ≤ k) × (k < length visits) × ((d : Visit) → (get_or visits k d).comes ≡ s.from)
where_it_stands visits n start s before i le =
    let h = of_map span_of visits s i in
    let p = place visits h.0 h.1 in
    let is : h.0.comes ≡ s.from = sym (ap (λ (t : Span). t.from) h.2) in (
      p.0,
      ⊎_elim
          (λ (less : p.0 < n).
          let a : h.0.comes < start = subst (λ (v : Visit). v.comes < start) (p.2 h.0) (before p.0 h.0 less) in
          absurd (omega (arith, a, is, le)))
          (λ more. more)
          (cases_lt p.0 n),
      p.1,
      λ d. ap (λ (v : Visit). v.comes) (p.2 d) ∙ is,
    )

-- ---- the same visits in another order

pub same_spans : (xs ys : List Visit) → IsPermutation xs ys → (s : Span) → In s (spans_of ys) ↔ In s (spans_of xs)
same_spans xs ys same s =
    let there = IsPermutation-map span_of xs ys same in (
      λ i. in_from (spans_of xs) s (Contains-permutation (spans_of ys) (spans_of xs) s (IsPermutation-sym (spans_of xs) (spans_of ys) there) (in_to (spans_of ys) s i)),
      λ i. in_from (spans_of ys) s (Contains-permutation (spans_of xs) (spans_of ys) s there (in_to (spans_of xs) s i)),
    )

module _ (fixed free others more : List Span) (fixed_same : (s : Span) → In s others ↔ In s fixed) (free_same : (s : Span) → In s more ↔ In s free) where
  either : (s : Span) → In s others ⊎ In s more → In s fixed ⊎ In s free
  either s (inl i) = inl ((fixed_same s).0 i)
  either s (inr i) = inr ((free_same s).0 i)

  pub same_own : AreOwn fixed free → AreOwn others more
  same_own own = record {
    spans = λ s i. own.spans s (either s i);
    entries = λ s f i j. own.entries s f (either s i) ((fixed_same f).0 j);
    leaves = λ s f i j. own.leaves s f (either s i) ((fixed_same f).0 j);
    one = λ f g i j. own.one f g ((fixed_same f).0 i) ((fixed_same g).0 j);
  }

  pub same_small : AreSmall fixed free → AreSmall others more
  same_small small = record { gains = λ s i. small.gains s (either s i); count = small.count; rises = small.rises; counts = λ s i. small.counts s (either s i); few = small.few }

pub least_is : (visits : List Visit) (n k : ℕ) (v : Visit) (s : Span) → IsNonDecreasingBy comes_at visits → n ≤ k → k < length visits → v ≡ get_or visits n v →
    ((d : Visit) → (get_or visits k d).comes ≡ s.from) → v.comes ≤ s.from
least_is visits n k v s order le lt is there =
    let a : v.comes ≡ (get_or visits n v).comes = ap (λ (w : Visit). w.comes) is in
    let b : (get_or visits n v).comes ≤ (get_or visits k v).comes = order n k v le lt in
    omega (arith, a, b, there v)
