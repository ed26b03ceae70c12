-- Lists of spans that are nested or apart, and what stands with each.
use Rattle.std.specs.Prelude.{nat_le, not, ◌&&◌, cond, filter}
use Rattle.std.proofs.Common.{◌≡◌, ◌⊎◌, ⊎_elim, inl, inr, ℕ, ◌+◌, ◌<◌, ◌≤◌, Bool, true, false, List, [], ◌∷◌, ◌++◌, ℤ, pos, ◌+ℤ◌, refl, sym, subst, ap, ◌∙◌, arith}
use Rattle.std.proofs.lemmas.Int.{ints}
use Rattle.std.proofs.lemmas.Bool.{cases_Bool, not-true, true≢false}
use Rattle.std.proofs.lemmas.Bool.Decides.{nat_tests}
use Rattle.std.proofs.lemmas.List.Sums.{sum_by-cons, sum_by-append}
use Rattle.std.proofs.lemmas.List.Filters.{sum_by-filter_both}
use Rattle.shunt_lists.specs.defs.Members.{In}
use Rattle.shunt_lists.proofs.Members.{all_in, all_from, in_cases, filter_yes, filter_no, filter_from, filter_to}
use Rattle.shunt_lists.proofs.Sums.{filter_least}
use Rattle.shunt_stacks.specs.defs.Spans.{Span, IsSpan, AreNested, AreAllNested, is_standing, load_with, gain_of_spans}
use Rattle.shunt_stacks.proofs.Sums.{sum_z-both}

-- ---- two of them

pub swap : (s t : Span) → AreNested s t → AreNested t s
swap s t (inl (inl e)) = inl (inr e)
swap s t (inl (inr e)) = inl (inl e)
swap s t (inr (inl e)) = inr (inr e)
swap s t (inr (inr e)) = inr (inl e)

pub two_of : (spans : List Span) → AreAllNested spans → (s t : Span) → In s spans → In t spans → (s ≡ t) ⊎ AreNested s t
two_of [] nested s t i j = absurd i
two_of (w ∷ spans) nested s t (inl e) (inl f) = inl (e ∙ sym f)
two_of (w ∷ spans) nested s t (inl e) (inr j) = inr (subst (λ (z : Span). AreNested z t) (sym e) (all_in (AreNested w) spans t nested.0 j))
two_of (w ∷ spans) nested s t (inr i) (inl f) = inr (swap t s (subst (λ (z : Span). AreNested z s) (sym f) (all_in (AreNested w) spans s nested.0 i)))
two_of (w ∷ spans) nested s t (inr i) (inr j) = two_of spans nested.1 s t i j

-- nested spans don't come at one event
pub apart_starts : (s t : Span) → IsSpan s → IsSpan t → s.from ≡ t.from → AreNested s t → ⊥
apart_starts s t a b e (inl (inl h)) = omega (arith, e, h, a.enters, a.stays, a.leaves)
apart_starts s t a b e (inl (inr h)) = omega (arith, e, h, b.enters, b.stays, b.leaves)
apart_starts s t a b e (inr (inl h)) = omega (arith, e, h.0, b.enters)
apart_starts s t a b e (inr (inr h)) = omega (arith, e, h.0, a.enters)

-- ---- parts of them

pub nested_filter : (p : Span → Bool) (spans : List Span) → AreAllNested spans → AreAllNested (filter p spans)
nested_filter p [] nested = tt
nested_filter p (s ∷ spans) nested = ⊎_elim
    (λ t. subst AreAllNested (sym (filter_yes p s spans t)) (
      all_from (AreNested s) (filter p spans)
          (λ u there. all_in (AreNested s) spans u nested.0 (filter_from p spans u there).0),
      nested_filter p spans nested.1,
    ))
    (λ t. subst AreAllNested (sym (filter_no p s spans t)) (nested_filter p spans nested.1))
    (cases_Bool (p s))

pub nested_append : (front back : List Span) → AreAllNested front → AreAllNested back → ((s t : Span) → In s front → In t back → AreNested s t) → AreAllNested (front ++ back)
nested_append [] back h k both = k
nested_append (s ∷ front) back h k both = (
  all_from (AreNested s) (front ++ back) (λ t there. ⊎_elim (λ l. all_in (AreNested s) front t h.0 l) (λ r. both s t (inl refl) r) (in_cases front back t there)),
  nested_append front back h.1 k (λ u t i j. both u t (inr i) j),
)

-- ---- who stands

pub stands : (s t : Span) → s.from ≤ t.from → t.from < s.past → is_standing s t ≡ true
stands s t a b = grind (arith, nat_tests)

pub not_yet : (s t : Span) → t.from < s.from → is_standing s t ≡ false
not_yet s t lt = grind (arith, nat_tests)

pub no_more : (s t : Span) → s.past ≤ t.from → is_standing s t ≡ false
no_more s t le = grind (arith, nat_tests)

abbrev share : Span → Span → ℕ
share t s = cond (is_standing s t) s.length 0

pub load_one : (s : Span) (spans : List Span) (t : Span) → load_with (s ∷ spans) t ≡ share t s + load_with spans t
load_one s spans t = sum_by-cons (λ (u : Span). cond (is_standing u t) u.length 0) s spans

pub load_parts : (front back : List Span) (t : Span) → load_with (front ++ back) t ≡ load_with front t + load_with back t
load_parts front back t = sum_by-append (λ (u : Span). cond (is_standing u t) u.length 0) front back

pub load_both : (p : Span → Bool) (spans : List Span) (t : Span) → load_with (filter p spans) t + load_with (filter (λ s. not (p s)) spans) t ≡ load_with spans t
load_both p spans t = sum_by-filter_both p (λ s. not (p s)) (λ s. refl) (λ (u : Span). cond (is_standing u t) u.length 0) spans

pub load_less : (p : Span → Bool) (spans : List Span) (t : Span) → load_with (filter p spans) t ≤ load_with spans t
load_less p spans t = filter_least (λ (u : Span). cond (is_standing u t) u.length 0) p spans

pub load_none : (spans : List Span) (t : Span) → ((s : Span) → In s spans → is_standing s t ≡ false) → load_with spans t ≡ 0
load_none [] t none = refl
load_none (s ∷ spans) t none =
    let first : share t s ≡ 0 = ap (λ (b : Bool). cond b s.length 0) (none s (inl refl)) in
    omega (arith, load_one s spans t, first, load_none spans t (λ u i. none u (inr i)))

pub load_own : (spans : List Span) (s t : Span) → In s spans → is_standing s t ≡ true → s.length ≤ load_with spans t
load_own [] s t there on = absurd there
load_own (u ∷ spans) s t (inl e) on =
    let first : share t u ≡ s.length = ap (share t) (sym e) ∙ ap (λ (b : Bool). cond b s.length 0) on in
    omega (arith, load_one u spans t, first)
load_own (u ∷ spans) s t (inr later) on = omega (arith, load_one u spans t, load_own spans s t later on)

pub share_small : (s t : Span) → share t s ≤ s.length
share_small s t = small (is_standing s t)
  where
    small : (b : Bool) → cond b s.length 0 ≤ s.length
    small true = omega arith
    small false = omega arith

-- ---- one of them, those inside it and those behind it

abbrev pub is_inside : Span → Span → Bool
is_inside s t = nat_le s.inside t.from && nat_le t.past s.until

abbrev pub is_behind : Span → Span → Bool
is_behind s t = nat_le s.past t.from

abbrev pub inner : Span → List Span → List Span
inner s spans = filter (is_inside s) spans

abbrev pub beyond : Span → List Span → List Span
beyond s spans = filter (λ t. not (is_inside s t)) spans

abbrev pub outer : Span → List Span → List Span
outer s spans = filter (is_behind s) (beyond s spans)

inside_from : (s t : Span) → is_inside s t ≡ true → (s.inside ≤ t.from) × (t.past ≤ s.until)
inside_from s t e = (grind (arith, nat_tests), grind (arith, nat_tests))

inside_to : (s t : Span) → s.inside ≤ t.from → t.past ≤ s.until → is_inside s t ≡ true
inside_to s t a b = grind (arith, nat_tests)

behind_from : (s t : Span) → is_behind s t ≡ true → s.past ≤ t.from
behind_from s t e = grind (arith, nat_tests)

behind_to : (s t : Span) → s.past ≤ t.from → is_behind s t ≡ true
behind_to s t le = grind (arith, nat_tests)

pub in_inner : (s : Span) (spans : List Span) (t : Span) → In t (inner s spans) → In t spans × (s.inside ≤ t.from) × (t.past ≤ s.until)
in_inner s spans t there = let h = filter_from (is_inside s) spans t there in let k = inside_from s t h.1 in (h.0, k.0, k.1)

pub in_outer : (s : Span) (spans : List Span) (t : Span) → In t (outer s spans) → In t spans × (s.past ≤ t.from)
in_outer s spans t there =
    let h = filter_from (is_behind s) (beyond s spans) t there in
    ((filter_from (λ u. not (is_inside s u)) spans t h.0).0, behind_from s t h.1)

pub inner_to : (s : Span) (spans : List Span) (t : Span) → In t spans → s.inside ≤ t.from → t.past ≤ s.until → In t (inner s spans)
inner_to s spans t i low high = filter_to (is_inside s) spans t i (inside_to s t low high)

pub outer_to : (s : Span) (spans : List Span) (t : Span) → In t spans → s.past ≤ t.from → IsSpan s → IsSpan t → In t (outer s spans)
outer_to s spans t i le a b =
    filter_to (is_behind s) (beyond s spans) t (filter_to (λ u. not (is_inside s u)) spans t i
    (ap not (out (is_inside s t) (λ e. let h = inside_from s t e in absurd (omega (arith, le, h.1, a.leaves, b.enters, b.stays, b.leaves)))))) (behind_to s t le)
  where
    out : (b : Bool) → (b ≡ true → ⊥) → b ≡ false
    out true never = absurd (never refl)
    out false never = refl

-- ---- a span before which none of them comes

module _ (spans : List Span) (nested : AreAllNested spans) (are : (t : Span) → In t spans → IsSpan t) (s : Span) (there : In s spans) (first : (t : Span) → In t spans
    → s.from ≤ t.from) where
  off : (b : Bool) → (b ≡ true → ⊥) → b ≡ false
  off true never = absurd (never refl)
  off false never = refl

  in_beyond : In s (beyond s spans)
  in_beyond = filter_to (λ t. not (is_inside s t)) spans s there (ap not (off (is_inside s s)
      (λ e. let h = inside_from s s e in let a = are s there in absurd (omega (arith, h.0, a.enters)))))

  -- what is neither inside nor behind is the span itself
  itself : (t : Span) → In t (filter (λ u. not (is_behind s u)) (beyond s spans)) → s ≡ t
  itself t i =
      let h = filter_from (λ u. not (is_behind s u)) (beyond s spans) t i in
      let k = filter_from (λ u. not (is_inside s u)) spans t h.0 in
      ⊎_elim (λ e. e) (λ both. absurd (never t k.0 (not-true _ h.1) (not-true _ k.1) both)) (two_of spans nested s t there k.0)
    where
      never : (t : Span) → In t spans → is_behind s t ≡ false → is_inside s t ≡ false → AreNested s t → ⊥
      never t i a b (inl (inl h)) = true≢false (sym (behind_to s t h) ∙ a)
      never t i a b (inl (inr h)) = let k = are t i in omega (arith, h, first t i, k.enters, k.stays, k.leaves)
      never t i a b (inr (inl h)) = let k = are t i in omega (arith, h.0, first t i, k.enters)
      never t i a b (inr (inr h)) = true≢false (sym (inside_to s t h.0 h.1) ∙ b)

  only_one : (l : List Span) → AreAllNested l → ((t : Span) → In t l → s ≡ t) → In s l → gain_of_spans l ≡ s.gain
  only_one [] n same i = absurd i
  only_one (t ∷ []) n same i = ap (λ (u : Span). u.gain +ℤ pos 0) (sym (same t (inl refl))) ∙ alone s.gain
    where
      alone : (z : ℤ) → z +ℤ pos 0 ≡ z
      alone z = omega (arith, ints)
  only_one (t ∷ u ∷ l) n same i =
      let a = are s there in
      absurd (apart_starts s s a a refl (subst (λ (v : Span). AreNested s v) (sym (same u (inr (inl refl)))) (subst (λ (v : Span). AreNested v u) (sym (same t (inl refl))) n.0.0)))

  -- what all gain: the span, those inside it and those behind it
  pub split : gain_of_spans spans ≡ s.gain +ℤ (gain_of_spans (inner s spans) +ℤ gain_of_spans (outer s spans))
  split =
      let rest = filter (λ u. not (is_behind s u)) (beyond s spans) in
      let own = only_one rest (nested_filter (λ u. not (is_behind s u)) (beyond s spans) (nested_filter (λ t. not (is_inside s t)) spans nested)) itself
      (filter_to (λ u. not (is_behind s u)) (beyond s spans) s in_beyond (ap not (off (is_behind s s)
      (λ e. let h = behind_from s s e in let a = are s there in absurd (omega (arith, h, a.enters, a.stays, a.leaves)))))) in
      added _ _ _ _ _ s.gain (sum_z-both (λ (t : Span). t.gain) (is_inside s) spans) (sum_z-both (λ (t : Span). t.gain) (is_behind s) (beyond s spans)) own
    where
      added : (all inside other behind left own : ℤ) → all ≡ inside +ℤ other → other ≡ behind +ℤ left → left ≡ own → all ≡ own +ℤ (inside +ℤ behind)
      added all inside other behind left own e f g = omega (arith, ints, e, f, g)

  -- those inside stand with it
  pub load_inner : (t : Span) → In t (inner s spans) → s.length + load_with (inner s spans) t ≤ load_with spans t
  load_inner t i =
      let h = in_inner s spans t i in
      let a = are s there in
      let b = are t h.0 in
      let own = load_own (beyond s spans) s t in_beyond (stands s t (first t h.0) (omega (arith, h.2, a.leaves, b.enters, b.stays, b.leaves))) in
      omega (arith, load_both (is_inside s) spans t, own)

  pub load_outer : (t : Span) → load_with (outer s spans) t ≤ load_with spans t
  load_outer t = omega (arith, load_less (is_behind s) (beyond s spans) t, load_less (λ u. not (is_inside s u)) spans t)
