-- The greatest gain at an event where a fixed span comes, and where none does; and over events where two lists of spans agree.
use Rattle.std.specs.Prelude.{cond, map, IfSome, Option, Some, None}
use Rattle.std.specs.Int.{int_max}
use Rattle.std.proofs.Common.{◌≡◌, ◌⊎◌, inl, inr, ℕ, suc, ◌+◌, ◌<◌, ◌≤◌, Bool, List, [], ◌∷◌, ℤ, pos, refl, sym, subst, ap, ◌∙◌, arith}
use Rattle.std.proofs.lemmas.Int.{ints, clamps}
use Rattle.shunt_lists.specs.defs.Members.{In}
use Rattle.shunt_lists.proofs.Members.{of_map}
use Rattle.shunt_stacks.specs.defs.Spans.{Span, IsNest, greater, greatest_of, coming_at, best_with, best_at, best_step, best, AreOwn, AgreeWithin}
use Rattle.shunt_stacks.proofs.Best.{AtLeast, Reached, up, down, in_coming, of_coming, one_of, any_number}
use Rattle.shunt_lists.proofs.Tests.{no_le}

-- ---- one and the same value

alone : (o : Option ℤ) → greater o None ≡ o
alone None = refl
alone (Some x) = refl

twice : (o : Option ℤ) → greater o o ≡ o
twice None = refl
twice (Some x) = ap Some (same x)
  where
    same : (z : ℤ) → int_max z z ≡ z
    same z = omega (arith, ints, clamps)

greatest_same : (o p : Option ℤ) (os : List (Option ℤ)) → p ≡ o → ((q : Option ℤ) → In q os → q ≡ o) → greatest_of (p ∷ os) ≡ o
greatest_same o p [] e h = ap (λ (r : Option ℤ). greater r None) e ∙ alone o
greatest_same o p (q ∷ os) e h =
    ap (λ (r : Option ℤ). greater r (greatest_of (q ∷ os))) e
    ∙ ap (greater o) (greatest_same o q os (h q (inl refl)) (λ r j. h r (inr j)))
    ∙ twice o

at_one : (fixed free : List Span) (without : Option ℤ) (value : Span → Option ℤ) (f : Span) → In f fixed → ((g : Span) → In g fixed → g ≡ f)
    → best_at fixed free without value ≡ value f
at_one [] free without value f j same = absurd j
at_one (g ∷ fixed) free without value f j same =
    greatest_same (value f) (value g) (map value fixed) (ap value (same g (inl refl)))
    (λ q k. let s = of_map value fixed q k in s.2 ∙ ap value (same s.0 (inr s.1)))

at_nothing : (fixed free : List Span) (without : Option ℤ) (value : Span → Option ℤ) → ((f : Span) → In f fixed → ⊥) → ((s : Span) → In s free → ⊥)
    → best_at fixed free without value ≡ without
at_nothing [] [] without value bare clear = alone without
at_nothing [] (s ∷ free) without value bare clear = absurd (clear s (inl refl))
at_nothing (f ∷ fixed) free without value bare clear = absurd (bare f (inl refl))

module _ (fixed free : List Span) (own : AreOwn fixed free) where
  pub steps : (n x y room : ℕ) → y ≤ x + n → best n fixed free x y room ≡ best_step (best n fixed free) fixed free x y room
  steps n x y room le = any_number fixed free own n (suc n) x y room le (omega (arith, le))

  opened : (n x y room : ℕ) → x < y
      → best_step (best n fixed free) fixed free x y room ≡ best_at (coming_at x fixed) (coming_at x free) (best n fixed free (x + 1) y room) (best_with (best n fixed free) y room)
  opened n x y room lt =
      ap (λ (b : Bool). cond b (Some (pos 0)) (best_at (coming_at x fixed) (coming_at x free) (best n fixed free (x + 1) y room) (best_with (best n fixed free) y room)))
      (no_le y x lt)

  pub at_fixed : (n x y room : ℕ) (f : Span) → In f fixed → f.from ≡ x → x < y → y ≤ x + n → best n fixed free x y room ≡ best_with (best n fixed free) y room f
  at_fixed n x y room f j here lt le =
      steps n x y room le
      ∙ opened n x y room lt
      ∙ at_one (coming_at x fixed) (coming_at x free) (best n fixed free (x + 1) y room) (best_with (best n fixed free) y room) f (in_coming x fixed f j here)
      (λ g k. let c = of_coming x fixed g k in own.one g f c.0 j (c.1 ∙ sym here))

  pub at_none : (n x y room : ℕ) → ((s : Span) → In s fixed ⊎ In s free → s.from ≡ x → ⊥) → x < y → y ≤ x + n → best n fixed free x y room ≡ best n fixed free (x + 1) y room
  at_none n x y room bare lt le =
      steps n x y room le
      ∙ opened n x y room lt
      ∙ at_nothing (coming_at x fixed) (coming_at x free) (best n fixed free (x + 1) y room) (best_with (best n fixed free) y room)
      (λ f k. let c = of_coming x fixed f k in bare f (inl c.0) c.1)
      (λ s k. let c = of_coming x free s k in bare s (inr c.0) c.1)

-- ---- two pairs of lists

moved : (fixed free others more : List Span) (x y room : ℕ) (spans : List Span) → AgreeWithin fixed free others more x y → IsNest fixed free x y room spans
    → IsNest others more x y room spans
moved fixed free others more x y room spans agree nest = record {
  of = λ s j. let b = nest.between s j in (agree.members s b.0 b.1).0 (nest.of s j);
  has = λ f j low high. nest.has f ((agree.same f low high).1 j) low high;
  between = nest.between;
  nested = nest.nested;
  fits = nest.fits;
}

turned : (fixed free others more : List Span) (x y : ℕ) → AgreeWithin fixed free others more x y → AgreeWithin others more fixed free x y
turned fixed free others more x y agree = record {
  members = λ s low high. let h = agree.members s low high in (h.1, h.0);
  same = λ s low high. let h = agree.same s low high in (h.1, h.0);
}

no_less : (fixed free others more : List Span) (own : AreOwn fixed free) (apart : AreOwn others more) (n x y room : ℕ) → y ≤ x + n
    → AgreeWithin fixed free others more x y → IfSome (best n fixed free x y room) (AtLeast (best n others more x y room))
no_less fixed free others more own apart n x y room le agree = each (best n fixed free x y room) (down fixed free own n x y room le)
  where
    each : (o : Option ℤ) → IfSome o (Reached fixed free own x y room) → IfSome o (AtLeast (best n others more x y room))
    each None h = tt
    each (Some g) h = subst (AtLeast (best n others more x y room)) h.2 (up others more apart n x y room h.0 le (moved fixed free others more x y room h.0 agree h.1))

pub agreeing : (fixed free others more : List Span) → AreOwn fixed free → AreOwn others more → (n x y room : ℕ) → y ≤ x + n → AgreeWithin fixed free others more x y
    → best n fixed free x y room ≡ best n others more x y room
agreeing fixed free others more own apart n x y room le agree =
    one_of fixed free own (best n fixed free x y room) (best n others more x y room)
    (no_less fixed free others more own apart n x y room le agree)
    (no_less others more fixed free apart own n x y room le (turned fixed free others more x y agree))
