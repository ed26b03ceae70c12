-- Sums with stacks, listed case by case.
use Rattle.std.specs.Prelude.{All, map}
use Rattle.std.proofs.Common.{◌≡◌, ⊎_elim, ℕ, ◌+◌, ◌<◌, List, [], ◌∷◌, ◌++◌, length, get_or, ℤ, pos, ◌+ℤ◌, refl, sym, subst, ap, ◌∙◌, arith}
use Rattle.std.proofs.lemmas.Bool.{cases_lt}
use Rattle.std.proofs.lemmas.List.{length-append, get_or_append_left, get_or_push}
use Rattle.std.proofs.lemmas.List.Elements.{All-cons, All-nil, All-append}
use Rattle.shunt_base.specs.declared.duals.Case.{Case}
use Rattle.shunt_instance.specs.defs.Instance.{Night}
use Rattle.shunt_blocks.specs.declared.records.Block.{Block}
use Rattle.shunt_prices.specs.defs.Sums.{sum_z, IsWithin}
use Rattle.shunt_fillings.specs.declared.prospects.Outlook.{Outlook}
use Rattle.shunt_fillings.specs.defs.Prospects.{IsOutlook, AreOutlooks, AreSums}

pushed : {X : Type 0} (P : ℕ → X → Type 0) (d : X) (xs ys : List X) (k : ℕ) (x : X) → ys ≡ xs ++ x ∷ [] → length xs ≡ k → ((w : ℕ) → w < k → P w (get_or xs w d)) → P k x →
    (w : ℕ) → w < k + 1 → P w (get_or ys w d)
pushed {X} P d xs ys k x e long each new w lt = subst (λ (zs : List X). P w (get_or zs w d)) (sym e)
    (⊎_elim
    (λ less. subst (P w) (sym (get_or_append_left xs (x ∷ []) d w (omega (arith, less, long)))) (each w less))
    (λ more.
    let last : w ≡ k = omega (arith, more, lt) in
    subst (P w) (sym (get_or_push xs x d w (omega (arith, last, long)))) (subst (λ (v : ℕ). P v x) (sym last) new))
    (cases_lt w k))

module _ (IsSum : ℕ → ℤ → Type 0) where
  pub one_sum_more : (k : ℕ) (old new : List ℤ) (x : ℤ) → new ≡ old ++ x ∷ [] → AreSums IsSum k old → IsSum k x → IsWithin 4100000000000000000 x → AreSums IsSum (k + 1) new
  one_sum_more k old new x e are own small = record {
    long = ap length e ∙ (length-append old (x ∷ []) ∙ ap (λ (n : ℕ). n + 1) are.long);
    each = pushed IsSum (pos 0) old new k x e are.long are.each own;
    small = subst (All (IsWithin 4100000000000000000)) (sym e)
        (All-append (IsWithin 4100000000000000000) old (x ∷ []) are.small (All-cons (IsWithin 4100000000000000000) x [] small (All-nil (IsWithin 4100000000000000000))));
  }

pub one_outlook_more : (night : Night) (path : List Block) (cases : List Case) (k : ℕ) (old new : List Outlook) (x : Outlook) → new ≡ old ++ x ∷ []
    → AreOutlooks night path cases k old →
    IsOutlook night path cases k x → AreOutlooks night path cases (k + 1) new
one_outlook_more night path cases k old new x e are own = record {
  long = ap length e ∙ (length-append old (x ∷ []) ∙ ap (λ (n : ℕ). n + 1) are.long);
  each = λ j p lt. pushed (IsOutlook night path cases) p old new k x e are.long (λ w less. are.each w p less) own j lt;
}

pub total_same : {X : Type 0} (f : X → ℤ) (xs : List X) → sum_z (λ z. z) (map f xs) ≡ sum_z f xs
total_same f [] = refl
total_same f (x ∷ xs) = ap (λ z. f x +ℤ z) (total_same f xs)
