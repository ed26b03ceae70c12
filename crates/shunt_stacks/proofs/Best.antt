-- The greatest gain by recursion over events is the greatest over all nests.
use Rattle.std.specs.Prelude.{◌==◌, not, nat_le, ◌&&◌, cond, map, IfSome, Option, Some, None, ◌≤ℤ◌, ◌<ℤ◌}
use Rattle.std.specs.Option.{IsSomeAnd}
use Rattle.std.specs.Int.{int_max}
use Rattle.std.proofs.Common.{◌≡◌, ◌⊎◌, ⊎_elim, inl, inr, ℕ, zero, suc, ◌+◌, ◌-◌, ◌<◌, ◌≤◌, Bool, true, false, List, [], ◌∷◌, ◌++◌, ℤ, pos, ◌+ℤ◌, refl, sym, subst, ap, ◌∙◌, arith}
use Rattle.std.proofs.lemmas.Int.{ints, clamps, by_lt_z}
use Rattle.std.proofs.lemmas.Bool.{cases_lt, cases_eq, eq-eqb, eqb-true, and_parts, and_from}
use Rattle.shunt_lists.specs.defs.Members.{In}
use Rattle.shunt_lists.proofs.Members.{all_from, in_map, of_map, in_left, in_right, in_cases, filter_from, filter_to}
use Rattle.shunt_prices.proofs.Signed.{sum_z-append}
use Rattle.shunt_stacks.specs.defs.Spans.{Span, IsSpan, AreNested, is_standing, load_with, gain_of_spans, IsNest, greater, plus, greatest_of, coming_at, best_with, best_at, best_step, best, AreOwn}
use Rattle.shunt_stacks.proofs.Sums.{sum_z-low}
use Rattle.shunt_stacks.proofs.Nests.{two_of, apart_starts, nested_filter, nested_append, stands, not_yet, no_more, load_one, load_parts, load_none, load_own, share_small, is_inside, is_behind, inner, beyond, outer, inner_to, outer_to, in_inner, in_outer, split, load_inner, load_outer}
use Rattle.shunt_lists.proofs.Tests.{le_from, no_le, yes_le}

-- ---- at least that much

abbrev pub AtLeast : Option ℤ → ℤ → Type 0
AtLeast o z = IsSomeAnd o (λ g. z ≤ℤ g)

greater_left : (a b : Option ℤ) (z : ℤ) → AtLeast a z → AtLeast (greater a b) z
greater_left None b z h = absurd h
greater_left (Some x) None z h = h
greater_left (Some x) (Some y) z h = omega (arith, ints, clamps, h)

greater_right : (a b : Option ℤ) (z : ℤ) → AtLeast b z → AtLeast (greater a b) z
greater_right None b z h = h
greater_right (Some x) None z h = absurd h
greater_right (Some x) (Some y) z h = omega (arith, ints, clamps, h)

plus_up : (a b : Option ℤ) (x y : ℤ) → AtLeast a x → AtLeast b y → AtLeast (plus a b) (x +ℤ y)
plus_up None b x y h k = absurd h
plus_up (Some g) None x y h k = absurd k
plus_up (Some g) (Some f) x y h k = omega (arith, ints, h, k)

most_up : (os : List (Option ℤ)) (o : Option ℤ) (z : ℤ) → In o os → AtLeast o z → AtLeast (greatest_of os) z
most_up [] o z i h = absurd i
most_up (p ∷ os) o z (inl e) h = greater_left p (greatest_of os) z (subst (λ (q : Option ℤ). AtLeast q z) e h)
most_up (p ∷ os) o z (inr i) h = greater_right p (greatest_of os) z (most_up os o z i h)

-- ---- what is reached

greater_down : (P : ℤ → Type 0) (a b : Option ℤ) → IfSome a P → IfSome b P → IfSome (greater a b) P
greater_down P None b h k = k
greater_down P (Some x) None h k = h
greater_down P (Some x) (Some y) h k = by_lt_z x y (λ lt. subst P (higher lt) k) (λ le. subst P (lower le) h)
  where
    higher : x <ℤ y → y ≡ int_max x y
    higher lt = omega (arith, ints, clamps, lt)

    lower : y ≤ℤ x → x ≡ int_max x y
    lower le = omega (arith, ints, clamps, le)

plus_down : (P Q R : ℤ → Type 0) (a b : Option ℤ) → IfSome a P → IfSome b Q → ((x y : ℤ) → P x → Q y → R (x +ℤ y)) → IfSome (plus a b) R
plus_down P Q R None b h k both = tt
plus_down P Q R (Some x) None h k both = tt
plus_down P Q R (Some x) (Some y) h k both = both x y h k

most_down : (P : ℤ → Type 0) (os : List (Option ℤ)) → ((o : Option ℤ) → In o os → IfSome o P) → IfSome (greatest_of os) P
most_down P [] h = tt
most_down P (o ∷ os) h = greater_down P o (greatest_of os) (h o (inl refl)) (most_down P os (λ p i. h p (inr i)))

values_down : (P : ℤ → Type 0) (value : Span → Option ℤ) (spans : List Span) → ((s : Span) → In s spans → IfSome (value s) P) → IfSome (greatest_of (map value spans)) P
values_down P value spans h = most_down P (map value spans) (λ o i. let s = of_map value spans o i in subst (λ (p : Option ℤ). IfSome p P) (sym s.2) (h s.0 s.1))

-- ---- the choice at an event

fixed_up : (fixed free : List Span) (without : Option ℤ) (value : Span → Option ℤ) (s : Span) (z : ℤ) → In s fixed → AtLeast (value s) z
    → AtLeast (best_at fixed free without value) z
fixed_up [] free without value s z i h = absurd i
fixed_up (f ∷ fixed) free without value s z i h = most_up (map value (f ∷ fixed)) (value s) z (in_map value (f ∷ fixed) s i) h

free_up : (fixed free : List Span) (without : Option ℤ) (value : Span → Option ℤ) (s : Span) (z : ℤ) → ((f : Span) → In f fixed → ⊥) → In s free → AtLeast (value s) z
    → AtLeast (best_at fixed free without value) z
free_up [] free without value s z bare i h = greater_right without (greatest_of (map value free)) z (most_up (map value free) (value s) z (in_map value free s i) h)
free_up (f ∷ fixed) free without value s z bare i h = absurd (bare f (inl refl))

none_up : (fixed free : List Span) (without : Option ℤ) (value : Span → Option ℤ) (z : ℤ) → ((f : Span) → In f fixed → ⊥) → AtLeast without z
    → AtLeast (best_at fixed free without value) z
none_up [] free without value z bare h = greater_left without (greatest_of (map value free)) z h
none_up (f ∷ fixed) free without value z bare h = absurd (bare f (inl refl))

at_down : (P : ℤ → Type 0) (fixed free : List Span) (without : Option ℤ) (value : Span → Option ℤ) → ((s : Span) → In s fixed → IfSome (value s) P)
    → (((f : Span) → In f fixed → ⊥) → IfSome without P × ((s : Span) → In s free → IfSome (value s) P)) → IfSome (best_at fixed free without value) P
at_down P [] free without value h k = let both = k (λ f i. i) in greater_down P without (greatest_of (map value free)) both.0 (values_down P value free both.1)
at_down P (f ∷ fixed) free without value h k = values_down P value (f ∷ fixed) h

-- ---- one step

step_up : (rest : ℕ → ℕ → ℕ → Option ℤ) (fixed free : List Span) (x y room : ℕ) (z : ℤ) → x < y
    → AtLeast (best_at (coming_at x fixed) (coming_at x free) (rest (x + 1) y room) (best_with rest y room)) z → AtLeast (best_step rest fixed free x y room) z
step_up rest fixed free x y room z lt h =
    subst (λ (b : Bool). AtLeast (cond b (Some (pos 0)) (best_at (coming_at x fixed) (coming_at x free) (rest (x + 1) y room) (best_with rest y room))) z) (sym (no_le y x lt)) h

step_end : (rest : ℕ → ℕ → ℕ → Option ℤ) (fixed free : List Span) (x y room : ℕ) (P : Option ℤ → Type 0) → y ≤ x → P (Some (pos 0)) → P (best_step rest fixed free x y room)
step_end rest fixed free x y room P le h =
    subst (λ (b : Bool). P (cond b (Some (pos 0)) (best_at (coming_at x fixed) (coming_at x free) (rest (x + 1) y room) (best_with rest y room)))) (sym (yes_le y x le)) h

step_down : (P : ℤ → Type 0) (rest : ℕ → ℕ → ℕ → Option ℤ) (fixed free : List Span) (x y room : ℕ) → x < y
    → IfSome (best_at (coming_at x fixed) (coming_at x free) (rest (x + 1) y room) (best_with rest y room)) P → IfSome (best_step rest fixed free x y room) P
step_down P rest fixed free x y room lt h =
    subst (λ (b : Bool). IfSome (cond b (Some (pos 0)) (best_at (coming_at x fixed) (coming_at x free) (rest (x + 1) y room) (best_with rest y room))) P) (sym (no_le y x lt)) h

with_up : (rest : ℕ → ℕ → ℕ → Option ℤ) (y room : ℕ) (s : Span) (a b : ℤ) → s.past ≤ y → s.length ≤ room → AtLeast (rest s.inside s.until (room - s.length)) a
    → AtLeast (rest s.past y room) b → AtLeast (best_with rest y room s) (s.gain +ℤ (a +ℤ b))
with_up rest y room s a b past long h k =
    let sum = plus (Some s.gain) (plus (rest s.inside s.until (room - s.length)) (rest s.past y room)) in
    subst (λ (t : Bool). AtLeast (cond t sum None) (s.gain +ℤ (a +ℤ b))) (sym (and_from (nat_le s.past y) (nat_le s.length room) (yes_le s.past y past)
    (yes_le s.length room long)))
    (plus_up (Some s.gain) (plus (rest s.inside s.until (room - s.length)) (rest s.past y room)) s.gain (a +ℤ b) (omega (arith, ints))
    (plus_up (rest s.inside s.until (room - s.length)) (rest s.past y room) a b h k))

with_down : (P Q R : ℤ → Type 0) (rest : ℕ → ℕ → ℕ → Option ℤ) (y room : ℕ) (s : Span)
    → (s.past ≤ y → s.length ≤ room → IfSome (rest s.inside s.until (room - s.length)) P × IfSome (rest s.past y room) Q)
    → (s.past ≤ y → s.length ≤ room → (a b : ℤ) → P a → Q b → R (s.gain +ℤ (a +ℤ b))) → IfSome (best_with rest y room s) R
with_down P Q R rest y room s parts both = at (nat_le s.past y && nat_le s.length room) refl
  where
    at : (t : Bool) → (nat_le s.past y && nat_le s.length room) ≡ t → IfSome (cond t
        (plus (Some s.gain) (plus (rest s.inside s.until (room - s.length)) (rest s.past y room))) None) R
    at false e = tt
    at true e =
        let f = and_parts (nat_le s.past y) (nat_le s.length room) e in
        let past = le_from s.past y f.0 in
        let long = le_from s.length room f.1 in
        let h = parts past long in
        plus_down (λ z. z ≡ s.gain) (λ z. (a : ℤ) × (b : ℤ) × P a × Q b × (z ≡ a +ℤ b)) R (Some s.gain) (plus (rest s.inside s.until (room - s.length)) (rest s.past y room)) refl
        (plus_down P Q (λ z. (a : ℤ) × (b : ℤ) × P a × Q b × (z ≡ a +ℤ b)) (rest s.inside s.until (room - s.length)) (rest s.past y room) h.0 h.1 (λ a b p q. (a, b, p, q, refl)))
        (λ g z same k. subst R (sym (ap (λ (w : ℤ). w +ℤ z) same ∙ ap (λ (w : ℤ). s.gain +ℤ w) k.4)) (both past long k.0 k.1 k.2 k.3))

-- ---- both ways

pub find_start : (x : ℕ) (spans : List Span) → ((s : Span) × In s spans × (s.from ≡ x)) ⊎ ((s : Span) → In s spans → s.from ≡ x → ⊥)
find_start x [] = inr (λ s i e. i)
find_start x (t ∷ spans) = ⊎_elim
    (λ e. inl (t, inl refl, e))
    (λ ne. ⊎_elim (λ f. inl (f.0, inr f.1, f.2)) (λ none. inr (λ s i e. ⊎_elim (λ same. ne (ap (λ (u : Span). u.from) (sym same) ∙ e)) (λ later. none s later e) i))
    (find_start x spans))
    (cases_eq t.from x)

pub in_coming : (x : ℕ) (spans : List Span) (s : Span) → In s spans → s.from ≡ x → In s (coming_at x spans)
in_coming x spans s i e = filter_to (λ (t : Span). t.from == x) spans s i (eq-eqb s.from x e)

pub of_coming : (x : ℕ) (spans : List Span) (s : Span) → In s (coming_at x spans) → In s spans × (s.from ≡ x)
of_coming x spans s i = let h = filter_from (λ (t : Span). t.from == x) spans s i in (h.0, eqb-true s.from x h.1)

module _ (fixed free : List Span) (own : AreOwn fixed free) where
  abbrev Nest : ℕ → ℕ → ℕ → List Span → Type 0
  Nest x y room spans = IsNest fixed free x y room spans

  nothing : (x y room : ℕ) → y ≤ x → Nest x y room []
  nothing x y room le = record {
    of = λ s i. absurd i;
    has = λ f i low high. absurd (omega (arith, le, low, high));
    between = λ s i. absurd i;
    nested = tt;
    fits = λ s i. absurd i;
  }

  -- ---- no nest gains more

  none_here : (x y room : ℕ) (spans : List Span) → y ≤ x → Nest x y room spans → gain_of_spans spans ≤ℤ pos 0
  none_here x y room spans le nest =
      sum_z-low (λ (s : Span). s.gain) spans (λ s i. let b = nest.between s i in let a = own.spans s (nest.of s i) in absurd
      (omega (arith, le, b.0, b.1, a.enters, a.stays, a.leaves)))

  later : (x y room : ℕ) (spans : List Span) → Nest x y room spans → ((s : Span) → In s spans → s.from ≡ x → ⊥) → Nest (x + 1) y room spans
  later x y room spans nest none = record {
    of = nest.of;
    has = λ f i low high. nest.has f i (omega (arith, low)) high;
    between = λ s i. (past_it s i, (nest.between s i).1);
    nested = nest.nested;
    fits = nest.fits;
  }
    where
      past_it : (s : Span) → In s spans → x + 1 ≤ s.from
      past_it s i = ⊎_elim (λ lt. omega (arith, lt)) (λ le. let b = nest.between s i in absurd (none s i (omega (arith, le, b.0)))) (cases_lt x s.from)

  module _ (x y room : ℕ) (spans : List Span) (nest : IsNest fixed free x y room spans) (s : Span) (there : In s spans) (here : s.from ≡ x) where
    are : (t : Span) → In t spans → IsSpan t
    are t i = own.spans t (nest.of t i)

    first : (t : Span) → In t spans → s.from ≤ t.from
    first t i = let b = nest.between t i in omega (arith, here, b.0)

    within_it : (f : Span) → In f fixed → s.inside ≤ f.from → f.from < s.until → In f (inner s spans)
    within_it f i low high =
        let b = nest.between s there in
        let a = are s there in
        let in_spans = nest.has f i (omega (arith, low, b.0, a.enters)) (omega (arith, high, b.1, a.leaves)) in
        ⊎_elim (λ e. let same = ap (λ (t : Span). t.from) e in absurd (omega (arith, same, low, a.enters)))
        (λ both. inner_to s spans f in_spans low (ends f in_spans low high both)) (two_of spans nest.nested s f there in_spans)
      where
        ends : (f : Span) → In f spans → s.inside ≤ f.from → f.from < s.until → AreNested s f → f.past ≤ s.until
        ends f i low high (inl (inl h)) = let a = are s there in absurd (omega (arith, h, high, a.leaves))
        ends f i low high (inl (inr h)) = let a = are s there in let b = are f i in absurd (omega (arith, h, low, a.enters, b.enters, b.stays, b.leaves))
        ends f i low high (inr (inl h)) = let a = are s there in let b = are f i in absurd (omega (arith, h.0, low, a.enters, b.enters))
        ends f i low high (inr (inr h)) = h.1

    inner_nest : Nest s.inside s.until (room - s.length) (inner s spans)
    inner_nest = record {
      of = λ t i. nest.of t (in_inner s spans t i).0;
      has = within_it;
      between = λ t i. let h = in_inner s spans t i in (h.1, h.2);
      nested = nested_filter (is_inside s) spans nest.nested;
      fits = λ t i. omega (arith, load_inner spans nest.nested are s there first t i, nest.fits t (in_inner s spans t i).0);
    }

    outer_nest : Nest s.past y room (outer s spans)
    outer_nest = record {
      of = λ t i. nest.of t (in_outer s spans t i).0;
      has = λ f i low high. let b = nest.between s there in let a = are s there in let in_spans = nest.has f i
          (omega (arith, low, b.0, a.enters, a.stays, a.leaves)) high in outer_to s spans f in_spans low a (are f in_spans);
      between = λ t i. let h = in_outer s spans t i in (h.1, (nest.between t h.0).1);
      nested = nested_filter (is_behind s) (beyond s spans) (nested_filter (λ t. not (is_inside s t)) spans nest.nested);
      fits = λ t i. omega (arith, load_outer spans nest.nested are s there first t, nest.fits t (in_outer s spans t i).0);
    }

    long : s.length ≤ room
    long = let a = are s there in omega (arith, nest.fits s there, load_own spans s s there (stands s s (omega arith) (omega (arith, a.enters, a.stays, a.leaves))))

    gain_up : (rest : ℕ → ℕ → ℕ → Option ℤ) → AtLeast (rest s.inside s.until (room - s.length)) (gain_of_spans (inner s spans))
        → AtLeast (rest s.past y room) (gain_of_spans (outer s spans)) → AtLeast (best_with rest y room s) (gain_of_spans spans)
    gain_up rest h k =
        subst (AtLeast (best_with rest y room s)) (sym (split spans nest.nested are s there first))
        (with_up rest y room s (gain_of_spans (inner s spans)) (gain_of_spans (outer s spans)) (nest.between s there).1 long h k)

    -- a fixed one that comes there is this one
    is_fixed : (f : Span) → In f fixed → f.from ≡ x → f ≡ s
    is_fixed f i e =
        let b = nest.between s there in
        let a = are s there in
        let in_spans = nest.has f i (omega (arith, e)) (omega (arith, e, here, b.1, a.enters, a.stays, a.leaves)) in
        ⊎_elim (λ same. same) (λ both. absurd (apart_starts f s (are f in_spans) a (e ∙ sym here) both)) (two_of spans nest.nested f s in_spans there)

    at_up : (without : Option ℤ) (value : Span → Option ℤ) (z : ℤ) → AtLeast (value s) z → AtLeast (best_at (coming_at x fixed) (coming_at x free) without value) z
    at_up without value z h = ⊎_elim
        (λ f. fixed_up (coming_at x fixed) (coming_at x free) without value s z (subst (λ (t : Span). In t (coming_at x fixed)) (is_fixed f.0 f.1 f.2)
        (in_coming x fixed f.0 f.1 f.2)) h)
        (λ bare. free_up (coming_at x fixed) (coming_at x free) without value s z (λ f i. let g = of_coming x fixed f i in bare f g.0 g.1)
        (in_coming x free s (⊎_elim (λ i. absurd (bare s i here)) (λ i. i) (nest.of s there)) here) h)
        (find_start x fixed)

  pub up : (n x y room : ℕ) (spans : List Span) → y ≤ x + n → Nest x y room spans → AtLeast (best n fixed free x y room) (gain_of_spans spans)
  up zero x y room spans le nest = none_here x y room spans (omega (arith, le)) nest
  up (suc n) x y room spans le nest = ⊎_elim
      (λ lt. ⊎_elim
      (λ s.
      let a = own.spans s.0 (nest.of s.0 s.1) in
      let b = nest.between s.0 s.1 in
      step_up (best n fixed free) fixed free x y room (gain_of_spans spans) lt
      (at_up x y room spans nest s.0 s.1 s.2 (best n fixed free (x + 1) y room) (best_with (best n fixed free) y room) (gain_of_spans spans)
      (gain_up x y room spans nest s.0 s.1 s.2 (best n fixed free)
      (up n s.0.inside s.0.until (room - s.0.length) (inner s.0 spans) (omega (arith, le, b.0, b.1, a.enters, a.leaves)) (inner_nest x y room spans nest s.0 s.1 s.2))
      (up n s.0.past y room (outer s.0 spans) (omega (arith, le, b.0, a.enters, a.stays, a.leaves)) (outer_nest x y room spans nest s.0 s.1 s.2)))))
      (λ none.
      step_up (best n fixed free) fixed free x y room (gain_of_spans spans) lt
      (none_up (coming_at x fixed) (coming_at x free) (best n fixed free (x + 1) y room) (best_with (best n fixed free) y room) (gain_of_spans spans)
      (λ f i. let g = of_coming x fixed f i in none f (nest.has f g.0 (omega (arith, g.1)) (omega (arith, g.1, lt))) g.1)
      (up n (x + 1) y room spans (omega (arith, le)) (later x y room spans nest none))))
      (find_start x spans))
      (λ ge. step_end (best n fixed free) fixed free x y room (λ o. AtLeast o (gain_of_spans spans)) ge (none_here x y room spans ge nest))
      (cases_lt x y)

  -- ---- and some nest has it

  abbrev pub Reached : ℕ → ℕ → ℕ → ℤ → Type 0
  Reached x y room g = (spans : List Span) × IsNest fixed free x y room spans × (gain_of_spans spans ≡ g)

  module _ (x y room : ℕ) (s : Span) (of : In s fixed ⊎ In s free) (here : s.from ≡ x) (past : s.past ≤ y) (long : s.length ≤ room) (alone : (f : Span) → In f fixed → f.from ≡ x
      → f ≡ s)
      (inside behind : List Span) (h : IsNest fixed free s.inside s.until (room - s.length) inside) (k : IsNest fixed free s.past y room behind) where
    a : IsSpan s
    a = own.spans s of

    inside_span : (t : Span) → In t inside → IsSpan t
    inside_span t i = own.spans t (h.of t i)

    own_first : (t : Span) → In t (s ∷ inside ++ behind) → (t ≡ s) ⊎ (In t inside ⊎ In t behind)
    own_first t (inl e) = inl e
    own_first t (inr i) = inr (in_cases inside behind t i)

    not_inside : (t : Span) → t.from < s.inside → (u : Span) → In u inside → is_standing u t ≡ false
    not_inside t lt u i = not_yet u t (omega (arith, lt, (h.between u i).0))

    gone : (t : Span) → s.past ≤ t.from → (u : Span) → In u inside → is_standing u t ≡ false
    gone t le u i = no_more u t (omega (arith, le, (h.between u i).1, a.leaves))

    not_behind : (t : Span) → t.from < s.past → (u : Span) → In u behind → is_standing u t ≡ false
    not_behind t lt u i = not_yet u t (omega (arith, lt, (k.between u i).0))

    load_of : (t : Span) → load_with (s ∷ inside ++ behind) t ≡ cond (is_standing s t) s.length 0 + (load_with inside t + load_with behind t)
    load_of t = omega (arith, load_one s (inside ++ behind) t, load_parts inside behind t)

    fits_all : (t : Span) → In t (s ∷ inside ++ behind) → load_with (s ∷ inside ++ behind) t ≤ room
    fits_all t i = ⊎_elim
        (λ e. subst (λ (u : Span). load_with (s ∷ inside ++ behind) u ≤ room) (sym e)
        (omega (
          arith,
          load_of s,
          share_small s s,
          load_none inside s (not_inside s a.enters),
          load_none behind s (not_behind s (omega (arith, a.enters, a.stays, a.leaves))),
          long,
        )))
        (λ j. ⊎_elim
        (λ l. let b = inside_span t l in let c = h.between t l in
        omega (arith, load_of t, share_small s t, h.fits t l, long, load_none behind t (not_behind t (omega (arith, c.1, b.enters, b.stays, b.leaves, a.leaves)))))
        (λ r. let c = k.between t r in
        let off : cond (is_standing s t) s.length 0 ≡ 0 = ap (λ (b : Bool). cond b s.length 0) (no_more s t c.0) in
        omega (arith, load_of t, off, k.fits t r, load_none inside t (gone t c.0)))
        j)
        (own_first t i)

    has_all : (f : Span) → In f fixed → x ≤ f.from → f.from < y → In f (s ∷ inside ++ behind)
    has_all f i low high = ⊎_elim
        (λ lt. ⊎_elim
        (λ before. absurd (own.entries s f of i (omega (arith, lt, here)) before))
        (λ from_inside. ⊎_elim
        (λ within. inr (in_left inside behind f (h.has f i from_inside within)))
        (λ from_until. ⊎_elim (λ leaving. absurd (own.leaves s f of i from_until leaving)) (λ from_past. inr (in_right inside behind f (k.has f i from_past high)))
        (cases_lt f.from s.past))
        (cases_lt f.from s.until))
        (cases_lt f.from s.inside))
        (λ le. inl (alone f i (omega (arith, le, low))))
        (cases_lt x f.from)

    joined : Nest x y room (s ∷ inside ++ behind)
    joined = record {
      of = λ t i. ⊎_elim (λ e. subst (λ (u : Span). In u fixed ⊎ In u free) (sym e) of) (λ j. ⊎_elim (λ l. h.of t l) (λ r. k.of t r) j) (own_first t i);
      has = has_all;
      between = λ t i. ⊎_elim
          (λ e. subst (λ (u : Span). (x ≤ u.from) × (u.past ≤ y)) (sym e) (omega (arith, here), past))
          (λ j. ⊎_elim
          (λ l. let c = h.between t l in (omega (arith, c.0, here, a.enters), omega (arith, c.1, past, a.leaves)))
          (λ r. let c = k.between t r in (omega (arith, c.0, here, a.enters, a.stays, a.leaves), c.1))
          j)
          (own_first t i);
      nested = (
        all_from (AreNested s) (inside ++ behind) (λ t i. ⊎_elim (λ l. let c = h.between t l in inr (inr (c.0, c.1))) (λ r. inl (inl (k.between t r).0))
            (in_cases inside behind t i)),
        nested_append inside behind h.nested k.nested (λ t u l r. inl (inl (omega (arith, (h.between t l).1, a.leaves, (k.between u r).0)))),
      );
      fits = fits_all;
    }

  earlier : (x y room : ℕ) (spans : List Span) → ((f : Span) → In f fixed → f.from ≡ x → ⊥) → Nest (x + 1) y room spans → Nest x y room spans
  earlier x y room spans bare nest = record {
    of = nest.of;
    has = λ f i low high. ⊎_elim (λ lt. nest.has f i (omega (arith, lt)) high) (λ le. absurd (bare f i (omega (arith, le, low)))) (cases_lt x f.from);
    between = λ s i. let b = nest.between s i in (omega (arith, b.0), b.1);
    nested = nest.nested;
    fits = nest.fits;
  }

  abbrev Down : ℕ → Type 0
  Down n = (x y room : ℕ) → y ≤ x + n → IfSome (best n fixed free x y room) (Reached x y room)

  skipped : (x y room : ℕ) (o : Option ℤ) → ((f : Span) → In f fixed → f.from ≡ x → ⊥) → IfSome o (Reached (x + 1) y room) → IfSome o (Reached x y room)
  skipped x y room None bare h = tt
  skipped x y room (Some g) bare h = (h.0, earlier x y room h.0 bare h.1, h.2)

  summed : (s : Span) (inside behind : List Span) (g f : ℤ) → gain_of_spans inside ≡ g → gain_of_spans behind ≡ f → gain_of_spans (s ∷ inside ++ behind) ≡ s.gain +ℤ (g +ℤ f)
  summed s inside behind g f e d = ap (λ (z : ℤ). s.gain +ℤ z) (sum_z-append (λ (t : Span). t.gain) inside behind ∙ ap (λ (z : ℤ). z +ℤ gain_of_spans behind) e
      ∙ ap (λ (z : ℤ). g +ℤ z) d)

  with_span : (n x y room : ℕ) → y ≤ x + suc n → Down n → (s : Span) → In s fixed ⊎ In s free → s.from ≡ x → ((f : Span) → In f fixed → f.from ≡ x → f ≡ s)
      → IfSome (best_with (best n fixed free) y room s) (Reached x y room)
  with_span n x y room le known s of here alone =
      let a = own.spans s of in
      with_down (Reached s.inside s.until (room - s.length)) (Reached s.past y room) (Reached x y room) (best n fixed free) y room s
      (λ past long. (
        known s.inside s.until (room - s.length) (omega (arith, le, here, past, a.enters, a.leaves)),
        known s.past y room (omega (arith, le, here, a.enters, a.stays, a.leaves)),
      ))
      (λ past long g f h k. (s ∷ h.0 ++ k.0, joined x y room s of here past long alone h.0 k.0 h.1 k.1, summed s h.0 k.0 g f h.2 k.2))

  stepped : (n x y room : ℕ) → y ≤ x + suc n → x < y → Down n → IfSome (best_step (best n fixed free) fixed free x y room) (Reached x y room)
  stepped n x y room le lt known =
      step_down (Reached x y room) (best n fixed free) fixed free x y room lt
      (at_down (Reached x y room) (coming_at x fixed) (coming_at x free) (best n fixed free (x + 1) y room) (best_with (best n fixed free) y room)
      (λ s i. let c = of_coming x fixed s i in with_span n x y room le known s (inl c.0) c.1 (λ f j e. own.one f s j c.0 (e ∙ sym c.1)))
      (λ none. (
        skipped x y room (best n fixed free (x + 1) y room) (λ f i e. none f (in_coming x fixed f i e)) (known (x + 1) y room (omega (arith, le))),
        λ s i. let c = of_coming x free s i in with_span n x y room le known s (inr c.0) c.1 (λ f j e. absurd (none f (in_coming x fixed f j e))),
      )))

  pub down : (n x y room : ℕ) → y ≤ x + n → IfSome (best n fixed free x y room) (Reached x y room)
  down zero x y room le = ([], nothing x y room (omega (arith, le)), refl)
  down (suc n) x y room le = ⊎_elim
      (λ lt. stepped n x y room le lt (λ v w r more. down n v w r more))
      (λ ge. step_end (best n fixed free) fixed free x y room (λ o. IfSome o (Reached x y room)) ge ([], nothing x y room ge, refl))
      (cases_lt x y)

  -- ---- how many events may be looked at is nothing, where they are enough

  pub one_of : (o p : Option ℤ) → IfSome o (AtLeast p) → IfSome p (AtLeast o) → o ≡ p
  one_of None None h k = refl
  one_of None (Some y) h k = absurd k
  one_of (Some x) None h k = absurd h
  one_of (Some x) (Some y) h k = ap Some (even x y h k)
    where
      even : (x y : ℤ) → x ≤ℤ y → y ≤ℤ x → x ≡ y
      even x y le ge = omega (arith, ints, le, ge)

  no_more_than : (n m x y room : ℕ) → y ≤ x + n → y ≤ x + m → IfSome (best n fixed free x y room) (AtLeast (best m fixed free x y room))
  no_more_than n m x y room le few = each (best n fixed free x y room) (down n x y room le)
    where
      each : (o : Option ℤ) → IfSome o (Reached x y room) → IfSome o (AtLeast (best m fixed free x y room))
      each None h = tt
      each (Some g) h = subst (AtLeast (best m fixed free x y room)) h.2 (up m x y room h.0 few h.1)

  pub any_number : (n m x y room : ℕ) → y ≤ x + n → y ≤ x + m → best n fixed free x y room ≡ best m fixed free x y room
  any_number n m x y room le few = one_of (best n fixed free x y room) (best m fixed free x y room) (no_more_than n m x y room le few) (no_more_than m n x y room few le)
