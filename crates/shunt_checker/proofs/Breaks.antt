-- Breaks of one case, from the light choices of that case.
use Rattle.std.specs.Prelude.{Option, Some, None, slice_get}
use Rattle.std.proofs.Common.{◌≡◌, ⊎_elim, ℕ, ◌<◌, List, length, refl, sym, subst, arith}
use Rattle.shunt_base.specs.declared.duals.Case.{Case}
use Rattle.shunt_instance.specs.defs.Instance.{Night}
use Rattle.shunt_choices.specs.defs.Paths.{Masks}
use Rattle.shunt_choices.specs.defs.Choices.{Choice as PathChoice}
use Rattle.shunt_prices.specs.defs.Limits.{case_at}
use Rattle.shunt_proof.specs.declared.records.Version.{Version}
use Rattle.shunt_checker.specs.declared.cases.Break.{Break}
use Rattle.shunt_checker.specs.defs.Firsts.{Finds}
use Rattle.shunt_checker.specs.defs.Lights.{IsFreeLight}
use Rattle.shunt_checker.specs.defs.Breaks.{IsBreakIn, BreakBefore, numbered}
use Rattle.shunt_checker.specs.defs.NodeFaults.{EarlierChoice}
use Rattle.shunt_prices.proofs.Counts.{got}

module _ (version : Version) (night : Night) (covered : Masks) (cases : List Case) (k : ℕ) (case : Case) (is : slice_get cases k ≡ Some case) (there : k < length cases) where
  pub its_light : (b : Break) → IsBreakIn version night covered cases k b → IsFreeLight version night covered case b.offer
  its_light b h = subst (λ (c : Case). IsFreeLight version night covered c b.offer) (got cases k case is)
      (subst (λ (m : ℕ). IsFreeLight version night covered (case_at cases m) b.offer) h.of_case h.is.light)

  pub none_in : (r : Option PathChoice) → r ≡ None → Finds (IsFreeLight version night covered case) (EarlierChoice night) r
      → Finds (IsBreakIn version night covered cases k) (BreakBefore night) None
  none_in r e f = λ b h.
      let none : Finds (IsFreeLight version night covered case) (EarlierChoice night) None = subst (Finds (IsFreeLight version night covered case) (EarlierChoice night)) e f in
      none b.offer (its_light b h)

  pub first_in : (r : Option PathChoice) (o : PathChoice) → r ≡ Some o → Finds (IsFreeLight version night covered case) (EarlierChoice night) r
      → Finds (IsBreakIn version night covered cases k) (BreakBefore night) (Some (record { case = k; offer = o }))
  first_in r o e f =
      let first : Finds (IsFreeLight version night covered case) (EarlierChoice night) (Some o) = subst
      (Finds (IsFreeLight version night covered case) (EarlierChoice night)) e f in
      record {
        is = record { is = record { there = there; light = subst (λ (c : Case). IsFreeLight version night covered c o) (sym (got cases k case is)) first.is }; of_case = refl };
        first = λ b h before. ⊎_elim
            (λ less. let e : b.case ≡ k = h.of_case in omega (arith, e, less))
            (λ same. first.first b.offer (its_light b h) same.1)
            before;
      }

  pub broken_in : (r : Option PathChoice) → Finds (IsFreeLight version night covered case) (EarlierChoice night) r
      → Finds (IsBreakIn version night covered cases k) (BreakBefore night) (numbered k r)
  broken_in None f = none_in None refl f
  broken_in (Some o) f = first_in (Some o) o refl f
