-- The sum of a choice, where its block is of a stack and where it is of none.
use Rattle.std.specs.Prelude.{◌↔◌, ◌-ℤ◌, Option, Some, None}
use Rattle.std.proofs.Common.{◌≡◌, ℕ, ◌<◌, true, false, List, [], ◌∷◌, ◌++◌, length, get_or, ℤ, pos, ◌+ℤ◌, refl, sym, subst, ap, ◌∙◌, arith}
use Rattle.std.proofs.lemmas.Int.{ints}
use Rattle.std.proofs.lemmas.Bool.{false≢true}
use Rattle.shunt_lists.specs.defs.Members.{In}
use Rattle.shunt_lists.proofs.Members.{of_map, place}
use Rattle.shunt_base.specs.declared.ids.Side.TheVariants.{A}
use Rattle.shunt_base.specs.declared.duals.Case.{Case}
use Rattle.shunt_instance.specs.defs.Instance.{Night}
use Rattle.shunt_blocks.specs.declared.records.Block.{Block}
use Rattle.shunt_blocks.specs.declared.records.Park.{Park}
use Rattle.shunt_prices.specs.defs.Limits.{case_at}
use Rattle.shunt_stacks.specs.defs.Stacks.{Stack, is_of, stack_of}
use Rattle.shunt_stacks.specs.defs.Fillings.{gain, IsStackGain}
use Rattle.shunt_stacks.specs.defs.Bounds.{IsStackSum, IsFall, IsChoiceSum}
use Rattle.shunt_fillings.specs.declared.ends.Stack.{Stack as OurStack}
use Rattle.shunt_fillings.specs.defs.Pieces.{seen, all_seen}

is_none : {X : Type 0} (o : Option X) → ((x : X) → o ≡ Some x → ⊥) → o ≡ None
is_none None not = refl
is_none (Some x) not = absurd (not x refl)

-- an option that is of none of these stacks is of none, where they are all
module _ (stacks : List OurStack) (all : List Stack) (e : all_seen stacks ≡ all) (park : Option Park) (own : (s : Stack) → (is_of s park ≡ true) ↔ (stack_of park ≡ Some s))
    (there : (s : Stack) → stack_of park ≡ Some s → In s all) where
  pub of_none : ((k : ℕ) (d : OurStack) → k < length stacks → is_of (seen (get_or stacks k d)) park ≡ false) → stack_of park ≡ None
  of_none none = is_none (stack_of park) (λ s f.
      let h = of_map seen stacks s (subst (In s) (sym e) (there s f)) in
      let p = place stacks h.0 h.1 in
      let d : OurStack = record { track = record { 0 = 0 }; side = A } in
      false≢true (sym (none p.0 d p.1) ∙ (ap (λ (x : OurStack). is_of (seen x) park) (p.2 d) ∙ (ap (λ (t : Stack). is_of t park) (sym h.2) ∙ (own s).1 f))))

module _ (night : Night) (path : List Block) (b : Block) (cases : List Case) (k : ℕ) (c : Case) (e : case_at cases k ≡ c) (whole : ℤ)
    (is_whole : IsStackSum night path cases k whole) (own : ℤ) (is_own : own ≡ gain night c b) where
  own_there : own ≡ gain night (case_at cases k) b
  own_there = is_own ∙ ap (λ (d : Case). gain night d b) (sym e)

  pub sum_of_none : stack_of b.park ≡ None → (x : ℤ) → x ≡ whole -ℤ own → IsChoiceSum night path b cases k x
  sum_of_none none x is = record {
    whole = whole;
    is_whole = is_whole;
    fall = pos 0;
    is_fall = subst (λ (o : Option Stack). IsFall night path b (case_at cases k) o (pos 0)) (sym none) refl;
    is = omega (arith, ints, is, own_there);
  }

  pub sum_of_stack : (s : Stack) → stack_of b.park ≡ Some s → (before after : ℤ) → IsStackGain night path (case_at cases k) s before
      → IsStackGain night (path ++ b ∷ []) (case_at cases k) s after →
      (x : ℤ) → x ≡ whole +ℤ (before -ℤ after) -ℤ own → IsChoiceSum night path b cases k x
  sum_of_stack s some before after first later x is = record {
    whole = whole;
    is_whole = is_whole;
    fall = before -ℤ after;
    is_fall = subst (λ (o : Option Stack). IsFall night path b (case_at cases k) o (before -ℤ after)) (sym some) (before, after, first, later, refl);
    is = omega (arith, ints, is, own_there);
  }
