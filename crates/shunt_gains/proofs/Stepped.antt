-- The greatest gain at an event, by a list one piece after another, and by the steps of the recursion.
use Rattle.std.specs.Prelude.{cond, map, Option, Some, None, nat_le, ◌&&◌}
use Rattle.std.proofs.Math.Seq.{drop-cons}
use Rattle.std.proofs.Common.{◌≡◌, ℕ, suc, ◌+◌, ◌<◌, Bool, false, List, [], ◌∷◌, length, drop, get_or, ℤ, pos, refl, sym, subst, ap, ◌∙◌, arith}
use Rattle.std.proofs.lemmas.Bool.Decides.{nat_tests}
use Rattle.shunt_stacks.specs.defs.Spans.{Span, greater, greatest_of, coming_at, sum_with, best_with, best_at, best_step}
use Rattle.shunt_gains.specs.declared.pieces.Piece.{Piece}
use Rattle.shunt_gains.specs.defs.Tables.{span_of, spans_of}
use Rattle.shunt_stacks.proofs.Steps.{not_yet, greater_apart}

one_on : (i : ℕ) → suc i ≡ i + 1
one_on i = omega arith

drop_one : (ps : List Piece) (i : ℕ) (d : Piece) → i < length ps → drop i ps ≡ get_or ps i d ∷ drop (i + 1) ps
drop_one ps i d lt = subst (λ (k : ℕ). drop i ps ≡ get_or ps i d ∷ drop k ps) (one_on i) (drop-cons ps i d lt)

-- the greatest of a gain and those of some spans
abbrev pub most_with : (Span → Option ℤ) → Option ℤ → List Span → Option ℤ
most_with value gain spans = greater gain (greatest_of (map value spans))

-- the greatest of a gain and those of the pieces that are left
abbrev pub left_with : (Span → Option ℤ) → List Piece → ℕ → Option ℤ → Option ℤ
left_with value ps i gain = greater gain (greatest_of (map value (spans_of (drop i ps))))

module _ (value : Span → Option ℤ) (ps : List Piece) where
  pub turned : (i : ℕ) (d : Piece) (gain w all : Option ℤ) → i < length ps → w ≡ value (span_of (get_or ps i d)) → left_with value ps i gain ≡ all →
      left_with value ps (i + 1) (greater gain w) ≡ all
  turned i d gain w all lt e h = greater_apart gain w (greatest_of (map value (spans_of (drop (i + 1) ps))))
      ∙ (ap (λ (o : Option ℤ). greater gain (greater o (greatest_of (map value (spans_of (drop (i + 1) ps)))))) e
      ∙ (ap (λ (qs : List Piece). greater gain (greatest_of (map value (spans_of qs)))) (sym (drop_one ps i d lt)) ∙ h))

module _ (rest : ℕ → ℕ → ℕ → Option ℤ) (fixed free : List Span) (x y room : ℕ) (lt : x < y) where
  stepped : best_at (coming_at x fixed) (coming_at x free) (rest (x + 1) y room) (best_with rest y room) ≡ best_step rest fixed free x y room
  stepped = sym (ap (λ (t : Bool). cond t (Some (pos 0)) (best_at (coming_at x fixed) (coming_at x free) (rest (x + 1) y room) (best_with rest y room))) (not_yet x y lt))

  some_fixed : (l : List Span) → 0 < length l → greater None (greatest_of (map (best_with rest y room) l))
      ≡ best_at l (coming_at x free) (rest (x + 1) y room) (best_with rest y room)
  some_fixed [] few = absurd (omega (arith, few))
  some_fixed (f ∷ fs) few = refl

  pub by_fixed : (l : List Span) (g : Option ℤ) → l ≡ coming_at x fixed → 0 < length (coming_at x fixed) → g ≡ greater None (greatest_of (map (best_with rest y room) l)) →
      g ≡ best_step rest fixed free x y room
  by_fixed l g e few h = h ∙ (ap (λ (k : List Span). greater None (greatest_of (map (best_with rest y room) k))) e ∙ (some_fixed (coming_at x fixed) few ∙ stepped))

  no_fixed : (l : List Span) (o : Option ℤ) → length l ≡ 0 → o ≡ rest (x + 1) y room →
      greater o (greatest_of (map (best_with rest y room) (coming_at x free))) ≡ best_at l (coming_at x free) (rest (x + 1) y room) (best_with rest y room)
  no_fixed [] o e h = ap (λ (p : Option ℤ). greater p (greatest_of (map (best_with rest y room) (coming_at x free)))) h
  no_fixed (f ∷ fs) o e h = absurd (omega (arith, e))

  pub by_free : (m : List Span) (o g : Option ℤ) → m ≡ coming_at x free → length (coming_at x fixed) ≡ 0 → o ≡ rest (x + 1) y room →
      g ≡ greater o (greatest_of (map (best_with rest y room) m)) → g ≡ best_step rest fixed free x y room
  by_free m o g f none is h = h ∙ (ap (λ (k : List Span). greater o (greatest_of (map (best_with rest y room) k))) f ∙ (no_fixed (coming_at x fixed) o none is ∙ stepped))

is_late : (y room : ℕ) (s : Span) → y < s.past → nat_le s.past y && nat_le s.length room ≡ false
is_late y room s late = grind (arith, nat_tests)

is_long : (y room : ℕ) (s : Span) → room < s.length → nat_le s.past y && nat_le s.length room ≡ false
is_long y room s long = grind (arith, nat_tests)

pub none_by_end : (rest : ℕ → ℕ → ℕ → Option ℤ) (y room : ℕ) (s : Span) → y < s.past → None ≡ best_with rest y room s
none_by_end rest y room s late = sym (ap (λ (t : Bool). cond t (sum_with rest y room s) None) (is_late y room s late))

pub none_by_room : (rest : ℕ → ℕ → ℕ → Option ℤ) (y room : ℕ) (s : Span) → room < s.length → None ≡ best_with rest y room s
none_by_room rest y room s long = sym (ap (λ (t : Bool). cond t (sum_with rest y room s) None) (is_long y room s long))
