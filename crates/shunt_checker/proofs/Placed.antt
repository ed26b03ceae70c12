-- Whether a node's choice leads on from its parent's path, as a reason.
use Rattle.std.specs.Prelude.{IsTrue, ◌↔◌, IfSome, IfNone, ◌≤ℤ◌, ◌<ℤ◌, Bool, true, false, Option, Some, None}
use Rattle.std.proofs.Common.{◌≡◌, ℕ, ◌+◌, ◌≤◌, List, [], ◌∷◌, ◌++◌, length, ℤ, pos, sym, ap, subst, ◌∙◌, arith}
use Rattle.std.proofs.lemmas.Int.{ints}
use Rattle.shunt_base.specs.declared.duals.Case.{Case}
use Rattle.shunt_instance.specs.defs.Instance.{Night}
use Rattle.shunt_blocks.specs.declared.records.Block.{Block}
use Rattle.shunt_blocks.specs.defs.Lists.{RunsThrough, placed}
use Rattle.shunt_choices.specs.defs.Choices.{IsChoiceAt, longer_by, chosen}
use Rattle.shunt_proof.specs.declared.records.Choice.{Choice}
use Rattle.shunt_proof.specs.declared.records.Certificate.{Certificate}
use Rattle.shunt_proof.specs.defs.Nodes.{node_at}
use Rattle.shunt_proof.specs.defs.Trees.{parent, path_at, duals_at, best_before, choice_from, longer_with}
use Rattle.shunt_proof.specs.defs.Versions.{IsStepBoundIn}
use Rattle.shunt_checker.specs.declared.verdict.Reason.{Reason}
use Rattle.shunt_checker.specs.declared.verdict.Reason.TheVariants as reason
use Rattle.shunt_checker.specs.defs.NodeFaults.{IsThere, IsNotLean, HasTwin, IsFirstNodeFault}
use Rattle.shunt_checker.specs.defs.NodeSteps.{NodeFrom, JudgesBelow, JudgesChild, LeadsDown}
use Rattle.shunt_checker.proofs.Looked.{against}
use Rattle.shunt_checker.proofs.NodeOrder.{from_start, from_next, none_there, none_twice, none_lean, there_first, twice_first, lean_first}

module _ (night : Night) (c : Certificate) (k : ℕ) (choice : Choice) (is : (node_at c.nodes k).choice ≡ Some choice)
    (step : (start : List Block) → path_at night start c.nodes k ≡ longer_with night (path_at night start c.nodes (parent c.nodes k)) (node_at c.nodes k).choice)
    (old : List Block) where
  path_k : (start : List Block) → old ≡ path_at night start c.nodes (parent c.nodes k) → path_at night start c.nodes k ≡ longer_by old (choice_from night old choice)
  path_k start at = step start ∙ (ap (λ (o : Option Choice). longer_with night (path_at night start c.nodes (parent c.nodes k)) o) is
      ∙ ap (λ (p : List Block). longer_by p (choice_from night p choice)) (sym at))

  module _ (a : Bool) (there : IsTrue a ↔ IsChoiceAt night old (choice_from night old choice)) where
    pub not_there : a ≡ false → JudgesBelow night c k old 1 2 (Some (reason.ChildNotThere choice))
    not_there e = λ start at from. there_first night start c k choice is
        (λ h. against a (IsChoiceAt night old (choice_from night old choice)) there e
        (subst (λ (p : List Block). IsChoiceAt night p (choice_from night p choice)) (sym at) h.there))

    module _ (new : List Block) (en : new ≡ longer_by old (choice_from night old choice)) (b : Bool) (through : IsTrue b ↔ RunsThrough night (placed new)) where
      pub leads : LeadsDown night c k old new
      leads = λ start at. en ∙ sym (path_k start at)

      pub not_through : b ≡ false → JudgesBelow night c k old 1 2 (Some (reason.ChildNotThere choice))
      not_through e = λ start at from. there_first night start c k choice is
          (λ h. against b (RunsThrough night (placed new)) through e (subst (λ (p : List Block). RunsThrough night (placed p)) (sym (leads start at)) h.through))

      pub all_there : a ≡ true → b ≡ true → JudgesBelow night c k old 1 2 None
      all_there ea eb = λ start at from. from_next night start c k 1 from (none_there night start c k (λ other own.
          let same : choice ≡ other = cc (sym is ∙ own) in
          subst (λ (x : Choice). IsThere night start c.nodes k x) same (record {
            there = subst (λ (p : List Block). IsChoiceAt night p (choice_from night p choice)) at (there.0 ea);
            through = subst (λ (p : List Block). RunsThrough night (placed p)) (leads start at) (through.0 eb);
          })))

-- ---- the whole of a child's faults

pub there_told : (night : Night) (c : Certificate) (k : ℕ) (old : List Block) (best : ℕ) (r : Option Reason) (s : Reason) → r ≡ Some s → JudgesBelow night c k old 1 2 r
    → JudgesChild night c k old best (Some s)
there_told night c k old best r s e h =
    let here : JudgesBelow night c k old 1 2 (Some s) = subst (JudgesBelow night c k old 1 2) e h in
    λ start at eb. here start at (from_start night start c k)

pub led : (night : Night) (c : Certificate) (k : ℕ) (old new : List Block) (r : Option Reason) → r ≡ None → IfNone r (LeadsDown night c k old new) → LeadsDown night c k old new
led night c k old new r e h = subst (λ (o : Option Reason). IfNone o (LeadsDown night c k old new)) e h

module _ (night : Night) (c : Certificate) (k : ℕ) (choice : Choice) (is : (node_at c.nodes k).choice ≡ Some choice) (old : List Block) (best : ℕ) (r : Option Reason)
    (e : r ≡ None) (there : JudgesBelow night c k old 1 2 r) where
  from_two : (start : List Block) → old ≡ path_at night start c.nodes (parent c.nodes k) → NodeFrom night start c k 2
  from_two start at =
      let here : JudgesBelow night c k old 1 2 None = subst (JudgesBelow night c k old 1 2) e there in
      here start at (from_start night start c k)

  module _ (b : Bool) (twin : IsTrue b ↔ HasTwin c.nodes k choice) where
    pub twice_told : b ≡ true → JudgesChild night c k old best (Some (reason.ChildTwice choice))
    twice_told t = λ start at eb. twice_first night start c k (from_two start at) choice is (twin.0 t)

    module _ (f : b ≡ false) (new : List Block) (leads : LeadsDown night c k old new) (cases : List Case) (above : ℕ) (ed : cases ≡ duals_at c.nodes above)
        (ea : above ≡ parent c.nodes k)
        (step : (start : List Block) → path_at night start c.nodes k ≡ longer_with night (path_at night start c.nodes (parent c.nodes k)) (node_at c.nodes k).choice)
        (one : (path longer : List Block) (cs : List Case) (x y : ℤ) → IsStepBoundIn c.version night path longer cs x → IsStepBoundIn c.version night path longer cs y → x ≡ y)
        (bound : ℤ) (at_new : (front : List Block) (b : Block) → new ≡ front ++ b ∷ [] → IsStepBoundIn c.version night front new cases bound) where
      from_three : (start : List Block) → old ≡ path_at night start c.nodes (parent c.nodes k) → NodeFrom night start c k 3
      from_three start at = from_next night start c k 2 (from_two start at) (none_twice night start c k (λ other own h.
          let same : other ≡ choice = cc (sym own ∙ is) in
          against b (HasTwin c.nodes k choice) twin f (subst (λ (x : Choice). HasTwin c.nodes k x) same h)))

      moved : (start : List Block) → old ≡ path_at night start c.nodes (parent c.nodes k)
          → IsStepBoundIn c.version night (path_at night start c.nodes (parent c.nodes k)) (path_at night start c.nodes k) (duals_at c.nodes (parent c.nodes k)) bound
      moved start at =
          let above = path_at night start c.nodes (parent c.nodes k) in
          let longer : new ≡ longer_by above (choice_from night above choice) = leads start at ∙ (step start ∙ ap (λ (o : Option Choice). longer_with night above o) is) in
          subst (λ (cs : List Case). IsStepBoundIn c.version night above (path_at night start c.nodes k) cs bound) (ed ∙ ap (λ (j : ℕ). duals_at c.nodes j) ea)
          (subst (λ (p : List Block). IsStepBoundIn c.version night above p cases bound) (leads start at)
          (at_new above (chosen (length above + 1) (choice_from night above choice)) longer))

      not_lean : (start : List Block) → old ≡ path_at night start c.nodes (parent c.nodes k) → best ≡ best_before night start c.nodes k → bound <ℤ pos best → (x : ℤ)
          → IsNotLean c.version night start c.nodes k x → ⊥
      not_lean start at eb low x h =
          let same : bound ≡ x = one _ _ _ bound x (moved start at) h.is in
          let high : pos (best_before night start c.nodes k) ≤ℤ x = h.high in
          omega (arith, ints, same, high, low, eb)

      pub child_judged : (some_before : 1 ≤ k) (q : Option Reason) → IfSome q (λ s. (pos best ≤ℤ bound) × (s ≡ reason.ChildNotLean bound (pos best))) → IfNone q (bound <ℤ pos best)
          → JudgesChild night c k old best q
      child_judged some_before None some none = λ start at eb. from_next night start c k 3 (from_three start at) (none_lean night start c k (λ x h. not_lean start at eb none x h))
      child_judged some_before (Some s) some none = λ start at eb.
          subst (IsFirstNodeFault night start c k) (sym (some.1 ∙ ap (λ (n : ℕ). reason.ChildNotLean bound (pos n)) eb))
          (lean_first night start c k (from_three start at) bound (record { some = some_before; is = moved start at; high = subst (λ (n : ℕ). pos n ≤ℤ bound) eb some.0 }))
