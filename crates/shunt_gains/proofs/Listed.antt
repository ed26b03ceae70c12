-- The spans that a list has for an event.
use Rattle.std.specs.Prelude.{◌==◌, Vec, Bool, false}
use Rattle.std.proofs.Common.{◌≡◌, ℕ, ◌<◌, true, List, [], ◌∷◌, length, suc, refl, ap, get_or, sym, subst, ◌∙◌, arith}
use Rattle.std.proofs.lemmas.Bool.Decides.{nat_tests}
use Rattle.shunt_lists.specs.defs.Members.{In}
use Rattle.shunt_lists.proofs.Members.{in_place, in_map, filter_from}
use Rattle.shunt_stacks.specs.defs.Spans.{Span, coming_at}
use Rattle.shunt_gains.specs.declared.pieces.Piece.{Piece}
use Rattle.shunt_gains.specs.defs.Tables.{span_of, spans_of, spans_at, AreByEvent}
use Rattle.shunt_lists.proofs.Tests.{equal_of as same_from}
use Rattle.shunt_stacks.proofs.Best.{in_coming}

same_length : (ps : List Piece) → length (spans_of ps) ≡ length ps
same_length [] = refl
same_length (p ∷ ps) = ap suc (same_length ps)

pub some_long : (n : ℕ) (b : Bool) → b ≡ (n == 0) → b ≡ false → 0 < n
some_long n b e f = grind (arith, nat_tests)

pub none_long : (n : ℕ) (b : Bool) → b ≡ (n == 0) → b ≡ true → n ≡ 0
none_long n b e f = grind (arith, nat_tests)

pub taken : (ps : List Piece) (i : ℕ) (d : Piece) (spans : List Span) → i < length ps → spans_of ps ≡ spans → In (span_of (get_or ps i d)) spans
taken ps i d spans lt e = subst (λ (ss : List Span). In (span_of (get_or ps i d)) ss) e (in_map span_of ps (get_or ps i d) (in_place ps i d lt))

no_member : (ss : List Span) → length ss ≡ 0 → (s : Span) → In s ss → ⊥
no_member [] none s i = i
no_member (t ∷ ss) none s i = absurd (omega (arith, none))

module _ {A : Type 0} (spans : List Span) (events x : ℕ) (lists ls : List (Vec Piece A)) (by : AreByEvent spans events lists) (lt : x < events) (e : ls ≡ lists) where
  pub here : spans_at ls x ≡ coming_at x spans
  here = subst (λ (l : List (Vec Piece A)). spans_at l x ≡ coming_at x spans) (sym e) (by.each x lt)

  pub enough : x < length ls
  enough = subst (λ (l : List (Vec Piece A)). x < length l) (sym e) (let n = by.count in omega (arith, n, lt))

  pub listed : (s : Span) → In s (spans_at ls x) → In s spans × (s.from ≡ x)
  listed s i = let h = filter_from (λ (t : Span). t.from == x) spans s (subst (λ (ss : List Span). In s ss) here i) in (h.0, same_from s.from x h.1)

  pub some_there : (ps : List Piece) → spans_of ps ≡ spans_at ls x → 0 < length ps → 0 < length (coming_at x spans)
  some_there ps f few = subst (λ (ss : List Span). 0 < length ss) (f ∙ here) (let n = same_length ps in omega (arith, n, few))

  pub none_there : (ps : List Piece) → spans_of ps ≡ spans_at ls x → length ps ≡ 0 → length (coming_at x spans) ≡ 0
  none_there ps f none = subst (λ (ss : List Span). length ss ≡ 0) (f ∙ here) (let n = same_length ps in omega (arith, n, none))

  -- the first one of them
  pub first_there : (ps : List Piece) → spans_of ps ≡ spans_at ls x → 0 < length ps → (d p : Piece) → p ≡ get_or ps 0 d → In (span_of p) spans × (p.from ≡ x)
  first_there ps f few d p own = subst (λ (q : Piece). In (span_of q) spans × (q.from ≡ x)) (sym own)
      (listed (span_of (get_or ps 0 d)) (taken ps 0 d (spans_at ls x) few f))

  -- none of them
  pub bare_there : (ps : List Piece) → spans_of ps ≡ spans_at ls x → length ps ≡ 0 → (s : Span) → In s spans → s.from ≡ x → ⊥
  bare_there ps f none s i at = no_member (coming_at x spans) (none_there ps f none) s (in_coming x spans s i at)
