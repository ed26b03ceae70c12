-- Cases that are known to hold: which they are, and that what is among them needs no second test.
use Rattle.std.specs.Prelude.{IsTrue, ◌↔◌, IfSome, IfNone, All, Bool, true, false, Option, Some, None, slice_get, ◌<ℤ◌, ◌≤ℤ◌}
use Rattle.std.specs.List.{Contains}
use Rattle.std.proofs.Common.{◌≡◌, ℕ, ◌+◌, ◌<◌, ◌≤◌, ⊎_elim, List, length, slice_index_or, sym, subst, ◌∙◌, arith}
use Rattle.std.proofs.lemmas.Int.{ints}
use Rattle.std.proofs.lemmas.Bool.{cases_lt}
use Rattle.std.proofs.lemmas.Option.{get_or_from_slice_get}
use Rattle.shunt_base.specs.declared.duals.Case.{Case}
use Rattle.shunt_instance.specs.defs.Instance.{Night}
use Rattle.shunt_choices.specs.defs.Paths.{Masks}
use Rattle.shunt_prices.specs.defs.Cases.{weight_with, duals_over}
use Rattle.shunt_proof.specs.declared.records.Version.{Version}
use Rattle.shunt_checker.specs.defs.Asked.{HoldsBy}
use Rattle.shunt_checker.specs.defs.Firsts.{Finds}
use Rattle.shunt_checker.specs.defs.Breaks.{IsBreakIn, BreakBefore}
use Rattle.shunt_checker.specs.defs.Lights.{IsFreeLight}
use Rattle.shunt_checker.proofs.Looked.{against}
use Rattle.shunt_checker.proofs.Versioned.{held_by}
use Rattle.shunt_checker.proofs.Breaks.{its_light}

-- the list has no such case at the places below one
abbrev pub HasNotBelow : List Case → Case → ℕ → Type 0
HasNotBelow cases case k = (i : ℕ) → i < k → slice_index_or cases i case ≡ case → ⊥

pub not_yet : (cases : List Case) (case : Case) → HasNotBelow cases case 0
not_yet cases case = λ i lt same. omega (arith, lt)

module _ (cases : List Case) (case : Case) where
  pub not_here : (k : ℕ) (seen : Case) (b : Bool) → slice_get cases k ≡ Some seen → IsTrue b ↔ (case ≡ seen) → b ≡ false → HasNotBelow cases case k → HasNotBelow cases case (k + 1)
  not_here k seen b is test e none = λ i lt same. ⊎_elim
      (λ (less : i < k). none i less same)
      (λ (past : k ≤ i).
      let at : i ≡ k = omega arith in
      against b (case ≡ seen) test e (sym (subst (λ (m : ℕ). slice_index_or cases m case ≡ case) at same) ∙ get_or_from_slice_get cases k seen case is))
      (cases_lt i k)

  pub is_here : (k : ℕ) (seen : Case) (b : Bool) → k < length cases → slice_get cases k ≡ Some seen → IsTrue b ↔ (case ≡ seen) → b ≡ true → Contains cases case
  is_here k seen b lt is test e = (k, lt, get_or_from_slice_get cases k seen case is ∙ sym (test.0 e))

  pub nowhere : (k : ℕ) → length cases ≤ k → HasNotBelow cases case k → Contains cases case → ⊥
  nowhere k le none h = none h.0 (let lt = h.1 in omega (arith, lt, le)) h.2

-- whatever holds of all that are known holds of what is among them
pub kept : {X : Type 0} (list : X → List Case) (known : Option X) (b : Bool) (case : Case) (P : Case → Type 0)
    → IfSome known (λ x. IsTrue b ↔ Contains (list x) case) → IfNone known (b ≡ false) → IfSome known (λ x. All P (list x)) → b ≡ true → P case
kept list None b case P some none all t = let e : false ≡ true = sym none ∙ t in cc
kept list (Some x) b case P some none all t =
    let h : Contains (list x) case = some.0 t in
    subst P h.2 (all h.0 case h.1)

-- a case that holds has no break
module _ (version : Version) (night : Night) (covered : Masks) (cases : List Case) (k : ℕ) (case : Case) (is : slice_get cases k ≡ Some case) (there : k < length cases) where
  pub unbroken_in : HoldsBy version night covered case → Finds (IsBreakIn version night covered cases k) (BreakBefore night) None
  unbroken_in hold = λ b h.
      let light : IsFreeLight version night covered case b.offer = its_light version night covered cases k case is there b h in
      let le : duals_over night case.duals b.offer.shape ≤ℤ weight_with night case b.offer.shape b.offer.option =
      held_by version night covered case b.offer hold (record { shape = light.shape; option = light.holds.option }) light.holds.room light.holds.asked in
      let lt : weight_with night case b.offer.shape b.offer.option <ℤ duals_over night case.duals b.offer.shape = light.holds.light in
      omega (arith, ints, le, lt)
