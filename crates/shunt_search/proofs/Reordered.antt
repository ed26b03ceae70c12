-- Lists whose elements differ, in another order.
use Rattle.std.specs.List.{swap}
use Rattle.std.proofs.Common.{◌≡◌, ◌⊎◌, inl, inr, ⊎_elim, ℕ, ◌<◌, List, length, get_or, refl, sym, ap, subst, ◌∙◌, arith, IsPermutation}
use Rattle.std.proofs.lemmas.Bool.{cases_eq, cases_order}
use Rattle.std.proofs.lemmas.List.Edits.{Swapped, swapped_from_swap, length-swap}
use Rattle.std.proofs.lemmas.List.Sorted.{IsPermutation-keeps, IsPermutation-map}
use Rattle.shunt_lists.specs.defs.Members.{AreDistinct}
use Rattle.shunt_stays.proofs.SortedEvents.{in_permuted, of_permuted}
use Rattle.shunt_base.specs.declared.duals.Case.{Case}
use Rattle.shunt_instance.specs.defs.Instance.{Night}
use Rattle.shunt_blocks.specs.declared.records.Block.{Block}
use Rattle.shunt_proof.specs.declared.records.Version.{Version}
use Rattle.shunt_search.specs.declared.child.Child.{Child}
use Rattle.shunt_search.specs.defs.Yards.{choice_of, choices_in, AreChildren}

-- no element stands at two places
abbrev OncePlaced : {X : Type 0} → List X → Type 0
OncePlaced {X} xs = (a b : ℕ) (d : X) → a < length xs → b < length xs → get_or xs a d ≡ get_or xs b d → a ≡ b

once : {X : Type 0} (xs : List X) → AreDistinct xs → OncePlaced xs
once xs h = λ a b d la lb e. ⊎_elim (λ same. same) (λ o. ⊎_elim (λ lt. absurd (h a b d lt lb e)) (λ lt. absurd (h b a d lt la (sym e))) o) (cases_order a b)

differ : {X : Type 0} (xs : List X) → OncePlaced xs → AreDistinct xs
differ xs h = λ a b d lt lb e. let same = h a b d (omega (arith, lt, lb)) lb e in omega (arith, same, lt)

-- what stands at k once i and j have changed places stood at m before
abbrev IsFrom : ℕ → ℕ → ℕ → ℕ → Type 0
IsFrom i j k m = ((k ≡ i) × (m ≡ j)) ⊎ (((k ≡ j) × (m ≡ i)) ⊎ ((k ≡ i → ⊥) × (k ≡ j → ⊥) × (m ≡ k)))

one_source : (i j a b m : ℕ) → IsFrom i j a m → IsFrom i j b m → a ≡ b
one_source i j a b m (inl p) (inl q) = p.0 ∙ sym q.0
one_source i j a b m (inl p) (inr (inl q)) = p.0 ∙ sym q.1 ∙ p.1 ∙ sym q.0
one_source i j a b m (inl p) (inr (inr q)) = absurd (q.1 (sym q.2 ∙ p.1))
one_source i j a b m (inr (inl p)) (inl q) = p.0 ∙ sym q.1 ∙ p.1 ∙ sym q.0
one_source i j a b m (inr (inl p)) (inr (inl q)) = p.0 ∙ sym q.0
one_source i j a b m (inr (inl p)) (inr (inr q)) = absurd (q.0 (sym q.2 ∙ p.1))
one_source i j a b m (inr (inr p)) (inl q) = absurd (p.1 (sym p.2 ∙ q.1))
one_source i j a b m (inr (inr p)) (inr (inl q)) = absurd (p.0 (sym p.2 ∙ q.1))
one_source i j a b m (inr (inr p)) (inr (inr q)) = sym p.2 ∙ q.2

source : {X : Type 0} (xs ys : List X) (i j : ℕ) (d : X) → i < length xs → j < length xs → Swapped (λ k. get_or xs k d) (λ k. get_or ys k d) i j
    → (k : ℕ) → k < length xs → (m : ℕ) × (m < length xs) × (get_or ys k d ≡ get_or xs m d) × IsFrom i j k m
source xs ys i j d li lj s k lk = ⊎_elim
    (λ e. (j, lj, ap (λ n. get_or ys n d) e ∙ s.0, inl (e, refl)))
    (λ ne. ⊎_elim (λ e. (i, li, ap (λ n. get_or ys n d) e ∙ s.1, inr (inl (e, refl)))) (λ nf. (k, lk, s.2 k ne nf, inr (inr (ne, nf, refl)))) (cases_eq k j))
    (cases_eq k i)

swapped : {X : Type 0} (xs : List X) (i j : ℕ) → i < length xs → j < length xs → OncePlaced xs → OncePlaced (swap xs i j)
swapped xs i j li lj h = λ a b d la lb e.
    let s = swapped_from_swap xs (swap xs i j) i j d li lj refl in
    let size = length-swap xs i j in
    let p = source xs (swap xs i j) i j d li lj s a (omega (arith, la, size)) in
    let q = source xs (swap xs i j) i j d li lj s b (omega (arith, lb, size)) in
    let same = h p.0 q.0 d p.1 q.1 (sym p.2 ∙ e ∙ q.2) in
    one_source i j a b p.0 p.3 (subst (λ m. IsFrom i j b m) (sym same) q.3)

distinct_permuted : {X : Type 0} (xs ys : List X) → IsPermutation xs ys → AreDistinct xs → AreDistinct ys
distinct_permuted xs ys p h = differ ys (IsPermutation-keeps xs OncePlaced (once xs h) swapped ys p)

-- the children of a path in another order
pub reordered : (version : Version) (night : Night) (path : List Block) (cases : List Case) (best : ℕ) (old new : List Child) → IsPermutation old new
    → AreChildren version night path cases best old → AreChildren version night path cases best new
reordered version night path cases best old new p h =
    let choices = IsPermutation-map (λ (c : Child). choice_of c.block) old new p in
    record {
      each = λ c i. h.each c (of_permuted old new c p i);
      others = λ k is. ⊎_elim inl (λ i. inr (in_permuted (choices_in old) (choices_in new) k choices i)) (h.others k is);
      once = distinct_permuted (choices_in old) (choices_in new) choices h.once;
    }
