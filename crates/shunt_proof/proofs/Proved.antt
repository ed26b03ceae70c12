-- A node proves no more than what each feasible plan costs that keeps the node's path.
use Rattle.std.specs.Prelude.{◌≢◌, IsSome, Option, Some, None, ◌≤ℤ◌}
use Rattle.std.proofs.Common.{◌≡◌, ⊎_elim, ℕ, ◌+◌, ◌<◌, ◌≤◌, List, [], ◌∷◌, ◌++◌, length, ℤ, pos, refl, sym, ap, subst, ◌∙◌, arith}
use Rattle.std.proofs.lemmas.Int.{ints}
use Rattle.std.proofs.lemmas.Bool.{true≢false}
use Rattle.std.proofs.lemmas.Option.{none-some}
use Rattle.shunt_base.specs.declared.duals.Case.{Case}
use Rattle.shunt_instance.specs.defs.Instance.{Night, IsInstance}
use Rattle.shunt_blocks.specs.declared.records.Block.{Block}
use Rattle.shunt_blocks.specs.defs.Lists.{ShareNothing, IsFeasible, RunsThrough, placed, total_cost}
use Rattle.shunt_blocks.specs.defs.Pins.{Keeps}
use Rattle.shunt_choices.specs.defs.Paths.{masks_of, next_of}
use Rattle.shunt_choices.specs.defs.Choices.{Choice as PathChoice, IsChoiceAt, chosen, longer_by}
use Rattle.shunt_choices.proofs.Given.{PlaceLaws}
use Rattle.shunt_choices.proofs.Grown.{grown_apart, choice_free}
use Rattle.shunt_choices.proofs.Partial.{next_unit}
use Rattle.shunt_prices.specs.defs.Limits.{AreCases}
use Rattle.shunt_prices.specs.defs.Cases.{CasesHold}
use Rattle.shunt_prices.specs.defs.Bounds.{IsCasesBound}
use Rattle.shunt_stacks.specs.defs.Cases.{StackCasesHold}
use Rattle.shunt_stacks.specs.defs.Bounds.{IsStackBound, IsChoiceBound}
use Rattle.shunt_proof.specs.declared.records.Choice.{Choice}
use Rattle.shunt_proof.specs.declared.records.NodeKind.{NodeKind}
use Rattle.shunt_proof.specs.declared.records.NodeKind.TheVariants.{Branch, Leaf, Whole}
use Rattle.shunt_proof.specs.declared.records.Node.{Node}
use Rattle.shunt_proof.specs.declared.records.Version.{Version}
use Rattle.shunt_proof.specs.declared.records.Version.TheVariants.{Prices, Stacks}
use Rattle.shunt_proof.specs.defs.Nodes.{node_at, AreNodes}
use Rattle.shunt_proof.specs.defs.Trees.{IsChildOf, stated_choice, longer_with, path_at, duals_at}
use Rattle.shunt_proof.specs.defs.Versions.{HoldIn, IsBoundIn, IsStepBoundIn}
use Rattle.shunt_proof.specs.defs.Proves.{ShowsByChoicesIn, ShowsIn, IsListed, ProvesIn, by_tree}
use Rattle.shunt_proof.proofs.Depths.{branch_goes, leaf_goes, child_path, child_later, cases_there}
use Rattle.shunt_proof.proofs.Decided.{step_choice}

-- what the laws of the crates below say
pub record BoundLaws : Type 0 where
  pub places : PlaceLaws
  pub dual : (night : Night) (plan path : List Block) (cases : List Case) (bound : ℤ) → IsInstance night → IsFeasible night plan → ShareNothing night path → Keeps plan path
      → AreCases night cases → CasesHold night path cases → IsCasesBound night path cases bound → bound ≤ℤ pos (total_cost night plan)
  pub hold : (night : Night) (path : List Block) (b : Block) (cases : List Case) → CasesHold night path cases → CasesHold night (path ++ b ∷ []) cases
  pub stack_dual : (night : Night) (plan path : List Block) (cases : List Case) (bound : ℤ) → IsInstance night → IsFeasible night plan → ShareNothing night path → Keeps plan path
      → AreCases night cases → StackCasesHold night path cases → IsStackBound night path cases bound → bound ≤ℤ pos (total_cost night plan)
  pub choice_dual : (night : Night) (plan path : List Block) (b : Block) (cases : List Case) (bound : ℤ) → IsInstance night → IsFeasible night plan
      → ShareNothing night (path ++ b ∷ []) → Keeps plan (path ++ b ∷ [])
      → AreCases night cases → StackCasesHold night path cases → IsChoiceBound night path b cases bound → bound ≤ℤ pos (total_cost night plan)
  pub held : (night : Night) (plan path : List Block) (u : ℕ) → IsInstance night → IsFeasible night plan → ShareNothing night path → Keeps plan path
      → next_of (masks_of night path) ≡ Some u
      → (c : PathChoice) × IsChoiceAt night path c × Keeps plan (longer_by path c) × RunsThrough night (placed (longer_by path c))
  pub cost : (night : Night) (plan path : List Block) → IsInstance night → IsFeasible night plan → ShareNothing night path → Keeps plan path
      → total_cost night path ≤ total_cost night plan

-- a path with a choice that is stated there
pub longer_stated : (night : Night) (path : List Block) (choice : Option Choice) (c : PathChoice) → stated_choice night path choice ≡ Some c
    → longer_with night path choice ≡ longer_by path c
longer_stated night path None c e = absurd (none-some c e)
longer_stated night path (Some k) c e = ap (longer_by path) (one _ c e)
  where
    one : (x y : PathChoice) → Some x ≡ Some y → x ≡ y
    one x y s = cc

some_unit : (o : Option ℕ) → IsSome o → (u : ℕ) × (o ≡ Some u)
some_unit None h = absurd (true≢false (sym h))
some_unit (Some u) h = (u, refl)

module _ (laws : BoundLaws) (night : Night) (i : IsInstance night) (start : List Block) (nodes : List Node) (h : AreNodes night nodes) (plan : List Block)
    (f : IsFeasible night plan) where
  longer_apart : (path : List Block) (c : PathChoice) → ShareNothing night path → IsChoiceAt night path c → ShareNothing night (longer_by path c)
  longer_apart path c apart there = let at = next_unit night path c there in grown_apart night path (chosen (length path + 1) c) apart
      (choice_free laws.places night path at.0 (length path + 1) c at.2)

  bound_in : (version : Version) (path : List Block) (cases : List Case) (bound : ℤ) → ShareNothing night path → Keeps plan path → AreCases night cases
      → HoldIn version night path cases → IsBoundIn version night path cases bound → bound ≤ℤ pos (total_cost night plan)
  bound_in Prices path cases bound apart keeps are hold is = laws.dual night plan path cases bound i f apart keeps are hold is
  bound_in Stacks path cases bound apart keeps are hold is = laws.stack_dual night plan path cases bound i f apart keeps are hold is

  -- of a plan that keeps one block more than the path where the cases hold
  step_in : (version : Version) (path : List Block) (b : Block) (cases : List Case) (bound : ℤ) → ShareNothing night (path ++ b ∷ []) → Keeps plan (path ++ b ∷ [])
      → AreCases night cases → HoldIn version night path cases
      → IsStepBoundIn version night path (path ++ b ∷ []) cases bound → bound ≤ℤ pos (total_cost night plan)
  step_in Prices path b cases bound apart keeps are hold is = laws.dual night plan (path ++ b ∷ []) cases bound i f apart keeps are (laws.hold night path b cases hold) is
  step_in Stacks path b cases bound apart keeps are hold is = laws.choice_dual night plan path b cases bound i f apart keeps are hold (step_choice night path b cases bound is)

  abbrev Bounds : ℤ → List Block → Type 0
  Bounds L path = ShareNothing night path → Keeps plan path → L ≤ℤ pos (total_cost night plan)

  enough : (bound L : ℤ) → bound ≤ℤ pos (total_cost night plan) → L ≤ℤ bound → L ≤ℤ pos (total_cost night plan)
  enough bound L low le = omega (arith, ints, low, le)

  module _ (version : Version) where
    -- where each child that lists a choice bounds the plans that keep its path
    by_choices : (path : List Block) (cases : List Case) (IsKnown : PathChoice → Type 0) (L : ℤ) → AreCases night cases → ShowsByChoicesIn version night path cases IsKnown L
        → ((c : PathChoice) → IsKnown c → Bounds L (longer_by path c)) → Bounds L path
    by_choices path cases IsKnown L are s known apart keeps =
        let u = some_unit (next_of (masks_of night path)) s.unfinished in
        let c = laws.held night plan path u.0 i f apart keeps u.1 in
        let more = longer_apart path c.0 apart c.1 in
        ⊎_elim
        (λ r. enough r.0 L (step_in version path (chosen (length path + 1) c.0) cases r.0 more c.2 are s.holds r.1) r.2)
        (λ k. known c.0 k more c.2)
        (s.each c.0 c.1 c.3)

    by_kind : (path : List Block) (cases : List Case) (kind : NodeKind) (IsKnown : PathChoice → Type 0) (L : ℤ) → (kind ≢ Whole → AreCases night cases)
        → ShowsIn version night path cases kind IsKnown L → ((c : PathChoice) → IsKnown c → Bounds L (longer_by path c)) → Bounds L path
    by_kind path cases Whole IsKnown L are s known apart keeps = let low = laws.cost night plan path i f apart keeps in omega (arith, ints, s.cost, low)
    by_kind path cases Leaf IsKnown L are s known apart keeps = let r = s.bound in enough r.0 L (bound_in version path cases r.0 apart keeps (are leaf_goes) s.holds r.1) r.2
    by_kind path cases Branch IsKnown L are s known apart keeps = by_choices path cases IsKnown L (are (branch_goes Branch refl)) s known apart keeps

    child_bounds : (L : ℤ) (k : ℕ) → ((j : ℕ) → IsChildOf nodes k j → Bounds L (path_at night start nodes j)) → (c : PathChoice) → IsListed night start nodes k c
        → Bounds L (longer_by (path_at night start nodes k) c)
    child_bounds L k below c l =
        let some : 1 ≤ l.child = omega (arith, child_later night nodes h k l.child l.below) in
        let at : path_at night start nodes l.child ≡ longer_by (path_at night start nodes k) c =
        child_path night nodes h start l.child some l.below.there
        ∙ ap (λ (p : ℕ). longer_with night (path_at night start nodes p) (node_at nodes l.child).choice) l.below.parent
        ∙ longer_stated night (path_at night start nodes k) (node_at nodes l.child).choice c l.states in
        subst (Bounds L) at (below l.child l.below)

    pub proved : (L : ℤ) (k : ℕ) → k < length nodes → ProvesIn version night start nodes L k → Bounds L (path_at night start nodes k)
    proved L _ lt (by_tree k shows placed below) =
        by_kind (path_at night start nodes k) (duals_at nodes k) (node_at nodes k).kind (IsListed night start nodes k) L (cases_there night nodes h k lt) shows
        (child_bounds L k (λ j c. proved L j c.there (below j c)))
