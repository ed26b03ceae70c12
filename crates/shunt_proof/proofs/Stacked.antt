-- What is shown with prices is shown with stacks, and what is lean with prices is lean with stacks.
use Rattle.std.specs.Prelude.{All}
use Rattle.std.proofs.Common.{◌≡◌, ⊎_elim, inl, inr, ℕ, ◌+◌, ◌<◌, ◌≤◌, List, [], ◌∷◌, ◌++◌, length, ℤ, pos, refl, sym, subst, arith}
use Rattle.shunt_base.specs.declared.duals.Case.{Case}
use Rattle.shunt_instance.specs.defs.Instance.{Night, IsInstance}
use Rattle.shunt_blocks.specs.declared.records.Block.{Block}
use Rattle.shunt_blocks.specs.defs.Shapes.{shape_of, IsWithinTrains}
use Rattle.shunt_blocks.specs.defs.Lists.{ShareNothing, RunsThrough, placed}
use Rattle.shunt_blocks.specs.defs.Pins.{AreUsable}
use Rattle.shunt_choices.specs.defs.Paths.{Masks, masks_of, IsPartialPlan}
use Rattle.shunt_choices.specs.defs.Choices.{Choice as PathChoice, IsChoice, IsChoiceAt, chosen, longer_by}
use Rattle.shunt_choices.proofs.Partial.{next_unit}
use Rattle.shunt_prices.specs.defs.Cases.{IsFreeBlock, CasesHold}
use Rattle.shunt_prices.specs.defs.Bounds.{IsCasesBound}
use Rattle.shunt_stacks.specs.defs.Cases.{StackCasesHold}
use Rattle.shunt_stacks.specs.defs.Bounds.{IsStackBound, IsChoiceBound}
use Rattle.shunt_proof.specs.declared.records.NodeKind.{NodeKind}
use Rattle.shunt_proof.specs.declared.records.NodeKind.TheVariants.{Branch, Leaf, Whole}
use Rattle.shunt_proof.specs.declared.records.Node.{Node}
use Rattle.shunt_proof.specs.declared.records.Version.TheVariants.{Prices, Stacks}
use Rattle.shunt_proof.specs.declared.records.Certificate.{Certificate}
use Rattle.shunt_proof.specs.defs.Nodes.{node_at, AreNodes}
use Rattle.shunt_proof.specs.defs.Trees.{parent, choice_from, path_at, duals_at}
use Rattle.shunt_proof.specs.defs.Versions.{IsStepBoundIn}
use Rattle.shunt_proof.specs.defs.Proves.{ShowsIn, IsListed, IsPlaced, IsRightIn, AreRightIn}
use Rattle.shunt_proof.specs.defs.Accepted.{IsLeanIn, AreLeanIn, IsAcceptedIn}
use Rattle.shunt_proof.proofs.Depths.{branch_goes, parent_found}
use Rattle.shunt_proof.proofs.Decided.{choice_step}
use Rattle.shunt_proof.proofs.Locally.{right_proves, root_right}
use Rattle.shunt_proof.proofs.Few.{CountLaws, longer, is_partial}
use Rattle.shunt_proof.proofs.Whole.{PinLaws, some_nodes}
use Rattle.shunt_blocks.proofs.Shapes.{all_within}

-- what the laws of the crates below say
pub record PriceLaws : Type 0 where
  pub hold : (night : Night) (path : List Block) (cases : List Case) → CasesHold night path cases → StackCasesHold night path cases
  pub bound : (night : Night) (path : List Block) (cases : List Case) (bound : ℤ) → IsInstance night → All (IsWithinTrains night) path → ShareNothing night path
      → RunsThrough night (placed path)
      → CasesHold night path cases → IsCasesBound night path cases bound → IsStackBound night path cases bound
  pub choice : (night : Night) (path : List Block) (b : Block) (cases : List Case) (bound : ℤ) → IsInstance night → All (IsWithinTrains night) path → ShareNothing night path
      → IsFreeBlock night (masks_of night path) (shape_of b) b.park
      → RunsThrough night (placed (path ++ b ∷ [])) → CasesHold night path cases → IsCasesBound night (path ++ b ∷ []) cases bound → IsChoiceBound night path b cases bound

free_choice : (night : Night) (covered : Masks) (u id : ℕ) (c : PathChoice) → IsChoice night covered u c → IsFreeBlock night covered (shape_of (chosen id c)) (chosen id c).park
free_choice night covered u id c h = record { shape = record { shape = h.shape.shape; first = refl; units = h.shape.units; positions = h.shape.positions }; option = h.option }

module _ (laws : PriceLaws) (night : Night) (i : IsInstance night) (pins path : List Block) (p : IsPartialPlan night pins path) (cases : List Case) where
  step : (c : PathChoice) (bound : ℤ) → CasesHold night path cases → IsChoiceAt night path c → RunsThrough night (placed (longer_by path c))
      → IsCasesBound night (longer_by path c) cases bound → IsStepBoundIn Stacks night path (longer_by path c) cases bound
  step c bound hold there through is =
      let b = chosen (length path + 1) c in
      let at = next_unit night path c there in
      choice_step night path b cases bound (laws.choice night path b cases bound i (all_within night path p.each) p.apart
      (free_choice night (masks_of night path) at.0 (length path + 1) c at.2) through hold is)

  shows : (kind : NodeKind) (IsKnown : PathChoice → Type 0) (L : ℤ) → ShowsIn Prices night path cases kind IsKnown L → ShowsIn Stacks night path cases kind IsKnown L
  shows Whole IsKnown L s = s
  shows Leaf IsKnown L s = record {
    unfinished = s.unfinished;
    holds = laws.hold night path cases s.holds;
    bound = (s.bound.0, laws.bound night path cases s.bound.0 i (all_within night path p.each) p.apart p.through s.holds s.bound.1, s.bound.2);
  }
  shows Branch IsKnown L s = record {
    unfinished = s.unfinished;
    holds = laws.hold night path cases s.holds;
    each = λ c there through. ⊎_elim (λ r. inl (r.0, step c r.0 s.holds there through r.1, r.2)) (λ k. inr k) (s.each c there through);
  }

holds_at : (night : Night) (path : List Block) (cases : List Case) (kind : NodeKind) (IsKnown : PathChoice → Type 0) (L : ℤ) → kind ≡ Branch
    → ShowsIn Prices night path cases kind IsKnown L → CasesHold night path cases
holds_at night path cases Whole IsKnown L e s = absurd (branch_goes Whole e refl)
holds_at night path cases Leaf IsKnown L e s = s.holds
holds_at night path cases Branch IsKnown L e s = s.holds

module _ (laws : PriceLaws) (counts : CountLaws) (night : Night) (i : IsInstance night) (pins start : List Block) (first : IsPartialPlan night pins start) (nodes : List Node)
    (h : AreNodes night nodes)
    (all : (k : ℕ) → 1 ≤ k → k < length nodes → IsPlaced night start nodes k) where
  partial : (k : ℕ) → k < length nodes → IsPartialPlan night pins (path_at night start nodes k)
  partial k lt = is_partial counts night i start nodes h all pins first k lt

  pub right_with_stacks : (k : ℕ) (L : ℤ) → k < length nodes → IsRightIn Prices night start nodes k L → IsRightIn Stacks night start nodes k L
  right_with_stacks k L lt r = record {
    placed = r.placed;
    shows = shows laws night i pins (path_at night start nodes k) (partial k lt) (duals_at nodes k) (node_at nodes k).kind (IsListed night start nodes k) L r.shows;
  }

  pub lean_with_stacks : (k : ℕ) (L : ℤ) → 1 ≤ k → k < length nodes → IsRightIn Prices night start nodes (parent nodes k) L → IsLeanIn Prices night start nodes k
      → IsLeanIn Stacks night start nodes k
  lean_with_stacks k L some lt r l =
      let f = parent_found night nodes h k some lt in
      let up = path_at night start nodes (parent nodes k) in
      let cases = duals_at nodes (parent nodes k) in
      let placed_there = all k some lt in
      let same = longer counts night i start nodes h all k some lt in
      let hold : CasesHold night up cases = holds_at night up cases (node_at nodes (parent nodes k)).kind (IsListed night start nodes (parent nodes k)) L f.branch r.shows in
      record {
        bound = l.bound;
        is = subst (λ (q : List Block). IsStepBoundIn Stacks night up q cases l.bound) (sym same)
            (step laws night i pins up (partial (parent nodes k) (omega (arith, f.before, lt))) cases (choice_from night up placed_there.choice) l.bound hold placed_there.there
            (subst (λ (q : List Block). RunsThrough night (placed q)) same placed_there.through) (subst (λ (q : List Block). IsCasesBound night q cases l.bound) same l.is));
        below = l.below;
      }

-- ---- whole trees

module _ (laws : PriceLaws) (counts : CountLaws) (night : Night) (i : IsInstance night) (pins start : List Block) (first : IsPartialPlan night pins start) (nodes : List Node)
    (h : AreNodes night nodes) (L : ℤ)
    (right : AreRightIn Prices night start nodes L) where
  set : (k : ℕ) → 1 ≤ k → k < length nodes → IsPlaced night start nodes k
  set k some lt = (right k lt).placed some

  pub all_right : AreRightIn Stacks night start nodes L
  all_right k lt = right_with_stacks laws counts night i pins start first nodes h set k L lt (right k lt)

  pub all_lean : AreLeanIn Prices night start nodes → AreLeanIn Stacks night start nodes
  all_lean lean k some lt = lean_with_stacks laws counts night i pins start first nodes h set k L some lt
      (right (parent nodes k) (omega (arith, (parent_found night nodes h k some lt).before, lt))) (lean k some lt)

pub accepted_with_stacks : (laws : PriceLaws) (counts : CountLaws) (pinned : PinLaws) (night : Night) (i : IsInstance night) (pins own : List Block) (stated : ℕ) (c : Certificate)
    → AreNodes night c.nodes → AreUsable night pins
    → IsAcceptedIn Prices night pins own stated c → IsAcceptedIn Stacks night pins own stated c
accepted_with_stacks laws counts pinned night i pins own stated c h usable a =
    let first = pinned.alone night pins a.start i usable a.begins.same a.begins.rises in
    let right = root_right Prices night a.start c.nodes h (pos c.bound) a.root in
    let stacked = all_right laws counts night i pins a.start first c.nodes h (pos c.bound) right in
    record {
      feasible = a.feasible;
      keeps = a.keeps;
      states = a.states;
      cost = a.cost;
      start = a.start;
      begins = a.begins;
      root = right_proves Stacks night a.start c.nodes h (pos c.bound) stacked (length c.nodes) 0 (omega arith) (some_nodes Prices night a.start c.nodes (pos c.bound) a.root);
      lean = all_lean laws counts night i pins a.start first c.nodes h (pos c.bound) right a.lean;
    }
