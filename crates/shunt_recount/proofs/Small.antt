-- The greatest gain over a part is small: it is at most so much for each event there at which a span comes.
use mir.Syntax.{w64}
use mir.Val.{to_z, of_z}
use Rattle.std.specs.Prelude.{◌==◌, nat_le, ◌&&◌, IfSome, Option, Some}
use Rattle.std.proofs.Common.{◌≡◌, ◌⊎◌, inl, inr, ℕ, zero, suc, ◌+◌, ◌-◌, ◌*◌, ◌<◌, ◌≤◌, List, ℤ, sym, ap, subst, arith}
use Rattle.std.proofs.lemmas.Int.{ints}
use Rattle.std.proofs.lemmas.Bool.{and_parts}
use Rattle.shunt_lists.specs.defs.Members.{In}
use Rattle.shunt_lists.proofs.Members.{filter_from}
use Rattle.shunt_prices.specs.defs.Sums.{IsWithin}
use Rattle.shunt_stacks.specs.defs.Spans.{Span, AreOwn, plus, coming_at, best_with, best_step, best}
use Rattle.shunt_recount.specs.defs.Visits.{AreSmall, IsBest}
use Rattle.shunt_lists.proofs.Tests.{equal_of as same_from, le_from}
use Rattle.shunt_stacks.proofs.Small.{wider, cond_small, either_small, plus_small, at_small}

module _ (fixed free : List Span) (own : AreOwn fixed free) (small : AreSmall fixed free) where
  -- at most this over the events from x on and before y
  abbrev most : ℕ → ℕ → ℕ
  most x y = (small.count y - small.count x) * 16000000000000

  module _ (rest : ℕ → ℕ → ℕ → Option ℤ) (known : (x y room : ℕ) → IfSome (rest x y room) (IsWithin (most x y))) where
    with_small : (x y room : ℕ) (s : Span) → In s fixed ⊎ In s free → s.from ≡ x → IfSome (best_with rest y room s) (IsWithin (most x y))
    with_small x y room s i e = cond_small (most x y) (nat_le s.past y && nat_le s.length room) _
        (λ t.
        let le = le_from s.past y (and_parts (nat_le s.past y) (nat_le s.length room) t).0 in
        let is = own.spans s i in
        let a : small.count s.from < small.count s.inside = small.counts s i in
        let b : small.count s.inside ≤ small.count s.until = small.rises s.inside s.until is.stays in
        let c : small.count s.until ≤ small.count s.past = small.rises s.until s.past (let l = is.leaves in omega (arith, l)) in
        let d : small.count s.past ≤ small.count y = small.rises s.past y le in
        let f : small.count s.from ≡ small.count x = ap small.count e in
        plus_small 16000000000000 (most s.inside s.until + most s.past y) (most x y) (Some s.gain) (plus (rest s.inside s.until (room - s.length)) (rest s.past y room))
        (omega (arith, a, b, c, d, f)) (small.gains s i)
        (plus_small (most s.inside s.until) (most s.past y) (most s.inside s.until + most s.past y) (rest s.inside s.until (room - s.length)) (rest s.past y room) (omega arith)
        (known s.inside s.until (room - s.length)) (known s.past y room)))

    step_small : (x y room : ℕ) → IfSome (best_step rest fixed free x y room) (IsWithin (most x y))
    step_small x y room = either_small (most x y) (nat_le y x) _
        (λ t. at_small (most x y) (coming_at x fixed) (coming_at x free) (rest (x + 1) y room) (best_with rest y room)
        (wider (most (x + 1) y) (most x y) (rest (x + 1) y room) (let r = small.rises x (x + 1) (omega arith) in omega (arith, r)) (known (x + 1) y room)) (λ s i. one s i))
      where
        one : (s : Span) → In s (coming_at x fixed) ⊎ In s (coming_at x free) → IfSome (best_with rest y room s) (IsWithin (most x y))
        one s (inl i) = let h = filter_from (λ (t : Span). t.from == x) fixed s i in with_small x y room s (inl h.0) (same_from s.from x h.1)
        one s (inr i) = let h = filter_from (λ (t : Span). t.from == x) free s i in with_small x y room s (inr h.0) (same_from s.from x h.1)

  pub best_small : (n x y room : ℕ) → IfSome (best n fixed free x y room) (IsWithin (most x y))
  best_small zero x y room = record { low = omega (arith, ints); high = omega (arith, ints) }
  best_small (suc n) x y room = step_small (best n fixed free) (λ a b r. best_small n a b r) x y room

  pub gain_small : (x y room : ℕ) (g : Option ℤ) → IsBest fixed free x y room g → IfSome g (IsWithin 2560000000000000)
  gain_small x y room g is = subst (λ (o : Option ℤ). IfSome o (IsWithin 2560000000000000)) (sym (is y (omega arith)))
      (wider (most x y) 2560000000000000 (best y fixed free x y room) (let f = small.few y in omega (arith, f)) (best_small y x y room))

pub seen : (z : ℤ) → IsWithin 16000000000000 z → to_z w64 (of_z w64 z) ≡ z
seen z h = omega (arith, ints, h.low, h.high)

pub seen_more : (z : ℤ) → IsWithin 2560000000000000 z → to_z w64 (of_z w64 z) ≡ z
seen_more z h = omega (arith, ints, h.low, h.high)
