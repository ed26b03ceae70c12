-- What the greatest gain of visits says of a stack.
use Rattle.std.specs.Prelude.{◌↔◌, Option, Some}
use Rattle.std.proofs.Common.{◌≡◌, ℕ, ◌+◌, ◌≤◌, List, ℤ, sym, subst, ◌∙◌, arith}
use Rattle.shunt_stacks.specs.defs.Spans.{Span, best}

pub tells : (P : ℤ → Type 0) (r room : ℕ) (fixed free xs ys : List Span) (g : Option ℤ) → r ≡ room → xs ≡ fixed → ys ≡ free →
    ((n : ℕ) → 5760000 ≤ 0 + n → g ≡ best n xs ys 0 5760000 r) → ((most : ℤ) → (best 5760000 fixed free 0 5760000 room ≡ Some most) ↔ P most) → (most : ℤ)
    → (g ≡ Some most) ↔ P most
tells P r room fixed free xs ys g a e f is law most =
    let first : g ≡ best 5760000 xs ys 0 5760000 r = is 5760000 (omega arith) in
    let same : g ≡ best 5760000 fixed free 0 5760000 room = subst (λ (m : ℕ). g ≡ best 5760000 fixed free 0 5760000 m) a
    (subst (λ (zs : List Span). g ≡ best 5760000 fixed zs 0 5760000 r) f (subst (λ (zs : List Span). g ≡ best 5760000 zs ys 0 5760000 r) e first)) in
    (λ h. (law most).0 (sym same ∙ h), λ p. same ∙ (law most).1 p)
