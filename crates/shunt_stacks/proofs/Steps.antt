-- Best sums of spans, one event on.
use Rattle.std.specs.Prelude.{nat_le, Option, Some, None, cond, ◌&&◌, ◌-◌}
use Rattle.std.proofs.Common.{ℕ, false, arith, ◌≡◌, ◌<◌, true, ◌≤◌, ℤ, refl, ap, zero, suc, Bool, List, pos, sym, ◌+◌, ◌∙◌}
use Rattle.std.proofs.lemmas.Bool.Decides.{nat_tests}
use Rattle.shunt_stacks.specs.defs.Spans.{greater, Span, coming_at, best_with, best_at, best, plus}
use Rattle.shunt_prices.proofs.Signed.{max_apart}

pub not_yet : (x y : ℕ) → x < y → nat_le y x ≡ false
not_yet x y lt = grind (arith, nat_tests)

pub gone : (x y : ℕ) → y ≤ x → nat_le y x ≡ true
gone x y le = grind (arith, nat_tests)

pub greater_apart : (a b c : Option ℤ) → greater (greater a b) c ≡ greater a (greater b c)
greater_apart None b c = refl
greater_apart (Some x) None c = refl
greater_apart (Some x) (Some y) None = refl
greater_apart (Some x) (Some y) (Some z) = ap Some (max_apart x y z)

pub nothing : (fixed free : List Span) (n x y room : ℕ) → y ≤ x → Some (pos 0) ≡ best n fixed free x y room
nothing fixed free zero x y room le = refl
nothing fixed free (suc n) x y room le =
    sym (ap (λ (t : Bool). cond t (Some (pos 0)) (best_at (coming_at x fixed) (coming_at x free) (best n fixed free (x + 1) y room) (best_with (best n fixed free) y room)))
    (gone x y le))

pub both : (s : Span) (y room : ℕ) → s.past ≤ y → s.length ≤ room → nat_le s.past y && nat_le s.length room ≡ true
both s y room le few = grind (arith, nat_tests)

pub joined : (rest : ℕ → ℕ → ℕ → Option ℤ) (y room : ℕ) (s : Span) (gain : ℤ) (inside behind r : Option ℤ) → s.past ≤ y → s.length ≤ room → gain ≡ s.gain →
    inside ≡ rest s.inside s.until (room - s.length) → behind ≡ rest s.past y room → r ≡ plus (Some gain) (plus inside behind) → r ≡ best_with rest y room s
joined rest y room s gain inside behind r le few e a b h = h
    ∙ (ap (λ (z : ℤ). plus (Some z) (plus inside behind)) e
    ∙ (ap (λ (o : Option ℤ). plus (Some s.gain) (plus o behind)) a
    ∙ (ap (λ (o : Option ℤ). plus (Some s.gain) (plus (rest s.inside s.until (room - s.length)) o)) b
    ∙ sym (ap (λ (t : Bool). cond t (plus (Some s.gain) (plus (rest s.inside s.until (room - s.length)) (rest s.past y room))) None) (both s y room le few)))))
