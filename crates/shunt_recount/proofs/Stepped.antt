-- The greatest gain over a part, by the visits that come first there.
use Rattle.std.specs.Prelude.{nat_le, ◌↔◌, ◌&&◌, ◌-◌, cond, map, Option, Some, None}
use Rattle.std.proofs.Common.{◌≡◌, ◌⊎◌, inl, inr, ⊎_elim, ℕ, zero, suc, ◌+◌, ◌<◌, ◌≤◌, Bool, false, List, [], ◌∷◌, length, drop, get_or, ℤ, pos, refl, sym, ap, ◌∙◌, arith}
use Rattle.std.proofs.lemmas.Bool.Decides.{nat_tests}
use Rattle.std.proofs.lemmas.List.{drop_more}
use Rattle.shunt_lists.specs.defs.Members.{In}
use Rattle.shunt_stacks.specs.defs.Spans.{Span, AgreeWithin, greater, plus, greatest_of, coming_at, best_with, best_at, best_step, best}
use Rattle.shunt_recount.specs.declared.moments.Stop.{Stop}
use Rattle.shunt_recount.specs.defs.Visits.{span_of, IsBest}
use Rattle.shunt_recount.specs.defs.Moments.{stop_spans}
use Rattle.shunt_stacks.proofs.Steps.{not_yet, greater_apart, nothing}

-- the greatest of a gain and those of the stops that are left
abbrev pub left_with : (Span → Option ℤ) → List Stop → ℕ → Option ℤ → Option ℤ
left_with value vs i gain = greater gain (greatest_of (map value (stop_spans (drop i vs))))

pub turned : (value : Span → Option ℤ) (vs : List Stop) (i : ℕ) (d : Stop) (gain w all : Option ℤ) → i < length vs → w ≡ value (span_of (get_or vs i d).visit)
    → left_with value vs i gain ≡ all →
    left_with value vs (i + 1) (greater gain w) ≡ all
turned value vs i d gain w all lt e h = greater_apart gain w (greatest_of (map value (stop_spans (drop (i + 1) vs))))
    ∙ (ap (λ (o : Option ℤ). greater gain (greater o (greatest_of (map value (stop_spans (drop (i + 1) vs)))))) e
    ∙ (ap (λ (l : List Stop). greater gain (greatest_of (map value (stop_spans l)))) (sym (drop_more vs i d lt)) ∙ h))

-- what the laws say of own spans, where none comes at an event, and where a fixed one does
abbrev pub NoneLaw : List Span → List Span → Type 0
NoneLaw fixed free = (n x y room : ℕ) → ((s : Span) → In s fixed ⊎ In s free → s.from ≡ x → ⊥) → x < y → y ≤ x + n → best n fixed free x y room ≡ best n fixed free (x + 1) y room

module _ (fixed free : List Span) (law : NoneLaw fixed free) (n y room : ℕ) where
  -- events at which nothing comes are passed over
  pub passed : (k x : ℕ) → x + k ≤ y → y ≤ x + n → ((s : Span) → In s fixed ⊎ In s free → x ≤ s.from → x + k ≤ s.from)
      → best n fixed free x y room ≡ best n fixed free (x + k) y room
  passed zero x le enough none = ap (λ (z : ℕ). best n fixed free z y room) (omega arith)
  passed (suc k) x le enough none =
      law n x y room (λ s i e. let h = none s i (omega (arith, e)) in absurd (omega (arith, h, e))) (omega (arith, le)) enough
      ∙ (passed k (x + 1) (omega (arith, le)) (omega (arith, enough)) (λ s i from. let h = none s i (omega (arith, from)) in omega (arith, h))
      ∙ ap (λ (z : ℕ). best n fixed free z y room) (omega arith))

  pub passed_to : (x z : ℕ) → x ≤ z → z ≤ y → y ≤ x + n → ((s : Span) → In s fixed ⊎ In s free → x ≤ s.from → z ≤ s.from) → best n fixed free x y room ≡ best n fixed free z y room
  passed_to x z le end enough none =
      passed (z - x) x (omega (arith, le, end)) enough (λ s i from. let h = none s i from in omega (arith, h, le)) ∙ ap (λ (w : ℕ). best n fixed free w y room) (omega (arith, le))

  pub none_comes : (x : ℕ) → x ≤ y → y ≤ x + n → ((s : Span) → In s fixed ⊎ In s free → x ≤ s.from → y ≤ s.from) → Some (pos 0) ≡ best n fixed free x y room
  none_comes x le enough none = nothing fixed free n y y room (omega arith) ∙ sym (passed_to x y le (omega arith) enough none)

-- the same of a part
pub part_passed : (fixed free : List Span) → NoneLaw fixed free → (start end room first : ℕ) (g : Option ℤ) → start ≤ first → first ≤ end →
    ((s : Span) → In s fixed ⊎ In s free → start ≤ s.from → first ≤ s.from) → IsBest fixed free first end room g →
    IsBest fixed free start end room g
part_passed fixed free law start end room first g le to none is n enough = is n (omega (arith, enough, le))
    ∙ sym (passed_to fixed free law n end room start first le to enough none)

pub part_empty : (fixed free : List Span) → NoneLaw fixed free → (start end room first : ℕ) → start ≤ end → end ≤ first →
    ((s : Span) → In s fixed ⊎ In s free → start ≤ s.from → first ≤ s.from) → IsBest fixed free start end room (Some (pos 0))
part_empty fixed free law start end room first le to none n enough =
    none_comes fixed free law n end room start le enough (λ s i from. let h = none s i from in omega (arith, h, to))

module _ (rest : ℕ → ℕ → ℕ → Option ℤ) (fixed free : List Span) (x y room : ℕ) (lt : x < y) where
  stepped : best_at (coming_at x fixed) (coming_at x free) (rest (x + 1) y room) (best_with rest y room) ≡ best_step rest fixed free x y room
  stepped = sym (ap (λ (t : Bool). cond t (Some (pos 0)) (best_at (coming_at x fixed) (coming_at x free) (rest (x + 1) y room) (best_with rest y room))) (not_yet x y lt))

  some_fixed : (l : List Span) → 0 < length l → greater None (greatest_of (map (best_with rest y room) l))
      ≡ best_at l (coming_at x free) (rest (x + 1) y room) (best_with rest y room)
  some_fixed [] few = absurd (omega (arith, few))
  some_fixed (f ∷ fs) few = refl

  pub by_fixed : (l : List Span) (g : Option ℤ) → l ≡ coming_at x fixed → 0 < length (coming_at x fixed) → g ≡ greater None (greatest_of (map (best_with rest y room) l)) →
      g ≡ best_step rest fixed free x y room
  by_fixed l g e few h = h ∙ (ap (λ (k : List Span). greater None (greatest_of (map (best_with rest y room) k))) e ∙ (some_fixed (coming_at x fixed) few ∙ stepped))

  no_fixed : (l : List Span) (o : Option ℤ) → length l ≡ 0 → o ≡ rest (x + 1) y room →
      greater o (greatest_of (map (best_with rest y room) (coming_at x free))) ≡ best_at l (coming_at x free) (rest (x + 1) y room) (best_with rest y room)
  no_fixed [] o e h = ap (λ (p : Option ℤ). greater p (greatest_of (map (best_with rest y room) (coming_at x free)))) h
  no_fixed (f ∷ fs) o e h = absurd (omega (arith, e))

  pub by_free : (m : List Span) (o g : Option ℤ) → m ≡ coming_at x free → length (coming_at x fixed) ≡ 0 → o ≡ rest (x + 1) y room →
      g ≡ greater o (greatest_of (map (best_with rest y room) m)) → g ≡ best_step rest fixed free x y room
  by_free m o g f none is h = h ∙ (ap (λ (k : List Span). greater o (greatest_of (map (best_with rest y room) k))) f ∙ (no_fixed (coming_at x fixed) o none is ∙ stepped))

neither : (s : Span) (y room : ℕ) → (y < s.past) ⊎ (room < s.length) → nat_le s.past y && nat_le s.length room ≡ false
neither s y room (inl more) = grind (arith, nat_tests)
neither s y room (inr long) = grind (arith, nat_tests)

pub no_room : (rest : ℕ → ℕ → ℕ → Option ℤ) (y room : ℕ) (s : Span) → (y < s.past) ⊎ (room < s.length) → None ≡ best_with rest y room s
no_room rest y room s h = sym (ap (λ (t : Bool). cond t (plus (Some s.gain) (plus (rest s.inside s.until (room - s.length)) (rest s.past y room))) None) (neither s y room h))

-- the same value over other lists with the same members
pub moved_best : (fixed free others more : List Span) (x y room : ℕ) (g : Option ℤ)
    → ((n : ℕ) → y ≤ x + n → best n others more x y room ≡ best n fixed free x y room) →
    IsBest others more x y room g → IsBest fixed free x y room g
moved_best fixed free others more x y room g same is n enough = is n enough ∙ same n enough

pub agree_all : (fixed free others more : List Span) (x y : ℕ) → ((s : Span) → In s fixed ↔ In s others) → ((s : Span) → In s free ↔ In s more)
    → AgreeWithin fixed free others more x y
agree_all fixed free others more x y fixed_same free_same = record {
  members = λ s le lt. (⊎_elim (λ i. inl ((fixed_same s).0 i)) (λ i. inr ((free_same s).0 i)), ⊎_elim (λ i. inl ((fixed_same s).1 i)) (λ i. inr ((free_same s).1 i)));
  same = λ s le lt. fixed_same s;
}
