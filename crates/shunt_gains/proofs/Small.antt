-- The greatest gain is small: each event that a part holds brings at most so much.
use mir.Syntax.{w64}
use mir.Val.{to_z, of_z}
use Rattle.std.specs.Prelude.{◌==◌, nat_le, ◌&&◌, IfSome, Option, Some}
use Rattle.std.proofs.Common.{◌≡◌, ◌⊎◌, inl, inr, ℕ, zero, suc, ◌+◌, ◌-◌, ◌*◌, ◌≤◌, true, List, ℤ, sym, subst, arith}
use Rattle.std.proofs.lemmas.Int.{ints}
use Rattle.std.proofs.lemmas.Bool.{and_parts}
use Rattle.shunt_lists.specs.defs.Members.{In}
use Rattle.shunt_lists.proofs.Members.{filter_from}
use Rattle.shunt_prices.specs.defs.Sums.{IsWithin}
use Rattle.shunt_stacks.specs.defs.Spans.{Span, IsSpan, plus, coming_at, best_with, best_step, best}
use Rattle.shunt_gains.specs.defs.Tables.{IsGain}
use Rattle.shunt_lists.proofs.Tests.{equal_of as same_from, le_from}
use Rattle.shunt_stacks.proofs.Small.{wider, cond_small, either_small, plus_small, at_small}

-- at most this for each event
abbrev most : ℕ → ℕ
most n = n * 1000000000000000

module _ (rest : ℕ → ℕ → ℕ → Option ℤ) (small : (x y room : ℕ) → IfSome (rest x y room) (IsWithin (most (y - x)))) where
  with_small : (x y room : ℕ) (s : Span) → IsSpan s → IsWithin 1000000000000000 s.gain → s.from ≡ x → IfSome (best_with rest y room s) (IsWithin (most (y - x)))
  with_small x y room s is own e = cond_small (most (y - x)) (nat_le s.past y && nat_le s.length room) _
      (λ t. let le = le_from s.past y (and_parts (nat_le s.past y) (nat_le s.length room) t).0 in
      plus_small 1000000000000000 (most (s.until - s.inside) + most (y - s.past)) (most (y - x)) (Some s.gain) (plus (rest s.inside s.until (room - s.length)) (rest s.past y room))
      (let a = is.enters in let b = is.stays in let c = is.leaves in omega (arith, a, b, c, le, e)) own
      (plus_small (most (s.until - s.inside)) (most (y - s.past)) (most (s.until - s.inside) + most (y - s.past)) (rest s.inside s.until (room - s.length)) (rest s.past y room)
      (omega arith)
      (small s.inside s.until (room - s.length)) (small s.past y room)))

  step_small : (fixed free : List Span) → ((s : Span) → In s fixed ⊎ In s free → IsSpan s × IsWithin 1000000000000000 s.gain) → (x y room : ℕ) →
      IfSome (best_step rest fixed free x y room) (IsWithin (most (y - x)))
  step_small fixed free own x y room = either_small (most (y - x)) (nat_le y x) _
      (λ t. at_small (most (y - x)) (coming_at x fixed) (coming_at x free) (rest (x + 1) y room) (best_with rest y room)
      (wider (most (y - (x + 1))) (most (y - x)) (rest (x + 1) y room) (omega arith) (small (x + 1) y room)) (λ s i. one x y room s (there x s i)))
    where
      there : (x : ℕ) (s : Span) → In s (coming_at x fixed) ⊎ In s (coming_at x free) → (In s fixed ⊎ In s free) × (s.from == x ≡ true)
      there x s (inl i) = let h = filter_from (λ (t : Span). t.from == x) fixed s i in (inl h.0, h.1)
      there x s (inr i) = let h = filter_from (λ (t : Span). t.from == x) free s i in (inr h.0, h.1)

      one : (x y room : ℕ) (s : Span) → (In s fixed ⊎ In s free) × (s.from == x ≡ true) → IfSome (best_with rest y room s) (IsWithin (most (y - x)))
      one x y room s h = with_small x y room s (own s h.0).0 (own s h.0).1 (same_from s.from x h.1)

pub best_small : (fixed free : List Span) → ((s : Span) → In s fixed ⊎ In s free → IsSpan s × IsWithin 1000000000000000 s.gain) → (n x y room : ℕ) →
    IfSome (best n fixed free x y room) (IsWithin (most (y - x)))
best_small fixed free own zero x y room = record { low = omega (arith, ints); high = omega (arith, ints) }
best_small fixed free own (suc n) x y room = step_small (best n fixed free) (λ a b r. best_small fixed free own n a b r) fixed free own x y room

pub gain_small : (fixed free : List Span) → ((s : Span) → In s fixed ⊎ In s free → IsSpan s × IsWithin 1000000000000000 s.gain) → (x y room : ℕ) (g : Option ℤ) → y ≤ 4000 →
    IsGain fixed free x y room g → IfSome g (IsWithin 4000000000000000000)
gain_small fixed free own x y room g few is = subst (λ (o : Option ℤ). IfSome o (IsWithin 4000000000000000000)) (sym (is y (omega arith)))
    (wider (most (y - x)) 4000000000000000000 (best y fixed free x y room) (omega (arith, few)) (best_small fixed free own y x y room))

-- the same of few events
pub gain_little : (fixed free : List Span) → ((s : Span) → In s fixed ⊎ In s free → IsSpan s × IsWithin 1000000000000000 s.gain) → (x y room : ℕ) (g : Option ℤ) → y ≤ 320 →
    IsGain fixed free x y room g → IfSome g (IsWithin 320000000000000000)
gain_little fixed free own x y room g few is = subst (λ (o : Option ℤ). IfSome o (IsWithin 320000000000000000)) (sym (is y (omega arith)))
    (wider (most (y - x)) 320000000000000000 (best y fixed free x y room) (omega (arith, few)) (best_small fixed free own y x y room))

pub seen : (z : ℤ) → IsWithin 1000000000000000 z → to_z w64 (of_z w64 z) ≡ z
seen z h = omega (arith, ints, h.low, h.high)
