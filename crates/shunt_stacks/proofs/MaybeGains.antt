-- Gains that there may be, added up, and what a span brings where it fits.
use Rattle.std.specs.Prelude.{cond, IfSome, Option, Some, None}
use Rattle.std.proofs.Common.{◌≡◌, ℕ, ◌≤◌, Bool, ℤ, pos, ◌+ℤ◌, refl, ap, arith}
use Rattle.std.proofs.lemmas.Int.{ints}
use Rattle.shunt_stacks.specs.defs.Spans.{Span, plus, best_with, sum_with}
use Rattle.shunt_stacks.proofs.Steps.{both}

pub plus_none : (o : Option ℤ) → plus o None ≡ None
plus_none None = refl
plus_none (Some x) = refl

pub plus_zero : (o : Option ℤ) → o ≡ plus (Some (pos 0)) o
plus_zero None = refl
plus_zero (Some x) = ap Some (same x)
  where
    same : (z : ℤ) → z ≡ pos 0 +ℤ z
    same z = omega (arith, ints)

pub behind_out : (o : Option ℤ) (g : ℤ) (a v : Option ℤ) → plus o (plus (Some g) (plus a v)) ≡ plus (plus o (plus (Some g) a)) v
behind_out None g a v = refl
behind_out (Some w) g None v = refl
behind_out (Some w) g (Some x) None = refl
behind_out (Some w) g (Some x) (Some y) = ap Some (same w g x y)
  where
    same : (w g x y : ℤ) → w +ℤ (g +ℤ (x +ℤ y)) ≡ (w +ℤ (g +ℤ x)) +ℤ y
    same w g x y = omega (arith, ints)

pub inside_out : (o : Option ℤ) (g : ℤ) (v b : Option ℤ) → plus o (plus (Some g) (plus v b)) ≡ plus (plus o (plus (Some g) b)) v
inside_out None g v b = refl
inside_out (Some w) g None None = refl
inside_out (Some w) g None (Some y) = refl
inside_out (Some w) g (Some x) None = refl
inside_out (Some w) g (Some x) (Some y) = ap Some (same w g x y)
  where
    same : (w g x y : ℤ) → w +ℤ (g +ℤ (x +ℤ y)) ≡ (w +ℤ (g +ℤ y)) +ℤ x
    same w g x y = omega (arith, ints)

pub each_some : {A : Type 0} (P Q : A → Type 0) (o : Option A) → IfSome o P → ((x : A) → P x → Q x) → IfSome o Q
each_some P Q None h to = tt
each_some P Q (Some x) h to = to x h

pub with_yes : (rest : ℕ → ℕ → ℕ → Option ℤ) (y room : ℕ) (s : Span) → s.past ≤ y → s.length ≤ room → best_with rest y room s ≡ sum_with rest y room s
with_yes rest y room s past long = ap (λ (t : Bool). cond t (sum_with rest y room s) None) (both s y room past long)
