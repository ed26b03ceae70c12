-- If a certificate is accepted, nothing is wrong.
use Rattle.std.specs.Prelude.{◌≢◌, ◌≤ℤ◌, is_ok, Err}
use Rattle.std.proofs.Common.{◌≡◌, ◌⊎◌, ⊎_elim, ℕ, ◌≤◌, ℤ, pos, List, Some, None, refl, sym, ap, subst, ◌∙◌, arith}
use Rattle.std.proofs.lemmas.Int.{ints}
use Rattle.std.proofs.lemmas.Bool.{cases_lt, true≢false}
use Rattle.std.proofs.lemmas.List.Elements.{recursion_from_All}
use Rattle.shunt_lists.proofs.Members.{all_in}
use Rattle.shunt_base.specs.declared.duals.Case.{Case}
use Rattle.shunt_stays.specs.defs.Run.{Stop, run_of}
use Rattle.shunt_stays.specs.defs.Run.Stop.{Blocked, Over}
use Rattle.shunt_instance.specs.defs.Instance.{Night}
use Rattle.shunt_blocks.specs.declared.records.Block.{Block}
use Rattle.shunt_blocks.specs.defs.Blocks.{IsBlock}
use Rattle.shunt_blocks.specs.defs.Lists.{RunsThrough, IsFeasible, track_lengths, stays_of, placed, total_cost}
use Rattle.shunt_choices.specs.defs.Paths.{masks_of, next_of}
use Rattle.shunt_choices.specs.defs.Choices.{Choice as PathChoice, IsChoiceAt, longer_by}
use Rattle.shunt_plan.specs.declared.records.Plan.{Plan}
use Rattle.shunt_proof.specs.declared.records.Choice.{Choice}
use Rattle.shunt_proof.specs.declared.records.NodeKind.{NodeKind}
use Rattle.shunt_proof.specs.declared.records.NodeKind.TheVariants.{Branch, Leaf, Whole}
use Rattle.shunt_proof.specs.declared.records.Version.{Version}
use Rattle.shunt_proof.specs.declared.records.Certificate.{Certificate}
use Rattle.shunt_proof.specs.defs.Nodes.{node_at}
use Rattle.shunt_proof.specs.defs.Trees.{parent, choice_from, path_at, duals_at}
use Rattle.shunt_proof.specs.defs.Versions.{HoldIn, IsBoundIn, IsStepBoundIn, ReachesIn, StepReachesIn}
use Rattle.shunt_proof.specs.defs.Proves.{ShowsIn, IsListed, IsRightIn}
use Rattle.shunt_proof.specs.defs.Accepted.{IsLeanIn}
use Rattle.shunt_checker.specs.declared.verdict.PlanFault.TheVariants as fault
use Rattle.shunt_checker.specs.defs.PlanFaults.{IsPlanSound}
use Rattle.shunt_checker.specs.defs.NodeFaults.{NotThere, Twice, NotLean, OtherKind, Broken, LowLeaf, LowWhole, Missing, IsThere, IsNodeSound, IsOtherKind, IsLow, IsStepLow}
use Rattle.shunt_checker.proofs.Versioned.{held_at}
use Rattle.shunt_lists.proofs.Options.{no_none as not_both}
use Rattle.shunt_checker.proofs.Acceptance.{one_choice}

-- ---- plans

stopped : (night : Night) (blocks : List Block) (stop : Stop) → RunsThrough night blocks → run_of (track_lengths night.station) (stays_of night blocks) ≡ Err stop → ⊥
stopped night blocks stop ok e = true≢false (sym ok ∙ ap is_ok e)

pub plan_sound : (night : Night) (plan : Plan) → IsFeasible night plan.blocks → plan.cost ≡ total_cost night plan.blocks → IsPlanSound night plan
plan_sound night plan h e (fault.BadBlock id) f = f.bad (all_in (IsBlock night) plan.blocks f.block (recursion_from_All (IsBlock night) plan.blocks h.each) f.there)
plan_sound night plan h e (fault.Unit u) f = f.1 (h.covers.units u f.0)
plan_sound night plan h e (fault.Place v) f = f.1 (h.covers.positions v f.0)
plan_sound night plan h e (fault.Blocked id) f = stopped night plan.blocks (Blocked f.move) h.through f.stops
plan_sound night plan h e (fault.Over id load) f = stopped night plan.blocks (Over f.move load) h.through f.stops
plan_sound night plan h e (fault.Cost stated real) f = f.2 (f.0 ∙ (e ∙ sym f.1))

-- ---- nodes

module _ (version : Version) (night : Night) (path : List Block) (cases : List Case) (IsKnown : PathChoice → Type 0) (L : ℤ) where
  shown_to_hold : (kind : NodeKind) → kind ≢ Whole → ShowsIn version night path cases kind IsKnown L → HoldIn version night path cases
  shown_to_hold Whole other s = absurd (other refl)
  shown_to_hold Leaf other s = s.holds
  shown_to_hold Branch other s = s.holds

  shown_by_leaf : (kind : NodeKind) → kind ≡ Leaf → ShowsIn version night path cases kind IsKnown L → ReachesIn version night path cases L
  shown_by_leaf Whole e s = absurd cc
  shown_by_leaf Leaf e s = s.bound
  shown_by_leaf Branch e s = absurd cc

  shown_by_whole : (kind : NodeKind) → kind ≡ Whole → ShowsIn version night path cases kind IsKnown L → L ≤ℤ pos (total_cost night path)
  shown_by_whole Whole e s = s.cost
  shown_by_whole Leaf e s = absurd cc
  shown_by_whole Branch e s = absurd cc

  shown_by_branch : (kind : NodeKind) → kind ≡ Branch → ShowsIn version night path cases kind IsKnown L
      → (d : PathChoice) → IsChoiceAt night path d → RunsThrough night (placed (longer_by path d)) → StepReachesIn version night path (longer_by path d) cases L ⊎ IsKnown d
  shown_by_branch Whole e s = absurd cc
  shown_by_branch Leaf e s = absurd cc
  shown_by_branch Branch e s = s.each

  shown_kind : (kind : NodeKind) → ShowsIn version night path cases kind IsKnown L → IsOtherKind kind (next_of (masks_of night path)) → ⊥
  shown_kind Whole s other = not_both _ other s.covers
  shown_kind Leaf s other = not_both _ s.unfinished other
  shown_kind Branch s other = not_both _ s.unfinished other

module _ (night : Night) (one_bound : (version : Version) (path : List Block) (cases : List Case) (b o : ℤ) → IsBoundIn version night path cases b
    → IsBoundIn version night path cases o → b ≡ o)
    (one_step : (version : Version) (path longer : List Block) (cases : List Case) (b o : ℤ) → IsStepBoundIn version night path longer cases b
    → IsStepBoundIn version night path longer cases o → b ≡ o) where
  too_low : (version : Version) (path : List Block) (cases : List Case) (L : ℕ) (bound : ℤ) → IsLow version night path cases L bound
      → ReachesIn version night path cases (pos L) → ⊥
  too_low version path cases L bound low r = let e = one_bound version path cases bound r.0 low.is r.1 in let lt = low.low in let le = r.2 in omega (arith, ints, e, lt, le)

  step_too_low : (version : Version) (path longer : List Block) (cases : List Case) (L : ℕ) (bound : ℤ) → IsStepLow version night path longer cases L bound
      → StepReachesIn version night path longer cases (pos L) → ⊥
  step_too_low version path longer cases L bound low r = let e = one_step version path longer cases bound r.0 low.is r.1 in let lt = low.low in let le = r.2 in omega
      (arith, ints, e, lt, le)

  module _ (start : List Block) (c : Certificate) (k : ℕ) (root : k ≡ 0 → (node_at c.nodes k).choice ≡ None)
      (right : IsRightIn c.version night start c.nodes k (pos c.bound)) (lean : 1 ≤ k → IsLeanIn c.version night start c.nodes k) where
    not_root : (choice : Choice) → (node_at c.nodes k).choice ≡ Some choice → 1 ≤ k
    not_root choice is = ⊎_elim
        (λ less. let e : None ≡ Some choice = sym (root (omega (arith, less))) ∙ is in absurd cc)
        (λ some. some)
        (cases_lt k 1)

    there : (choice : Choice) → (node_at c.nodes k).choice ≡ Some choice → IsThere night start c.nodes k choice
    there choice is =
        let p = right.placed (not_root choice is) in
        record {
          there = subst (λ (w : Choice). IsChoiceAt night (path_at night start c.nodes (parent c.nodes k)) (choice_from night (path_at night start c.nodes (parent c.nodes k)) w))
              (one_choice _ p.choice choice p.is is) p.there;
          through = p.through;
        }

    pub node_sound : IsNodeSound night start c k
    node_sound NotThere r f = f.2 (there f.0 f.1)
    node_sound Twice r f =
        let p = right.placed (not_root f.0 f.1) in
        let twin = f.2 in
        p.once twin.twin twin.before twin.below (twin.same ∙ ap (λ (w : Choice). Some w) (one_choice _ f.0 p.choice f.1 p.is))
    node_sound NotLean r f =
        let l = lean f.1.some in
        let e = one_step c.version _ _ _ f.0 l.bound f.1.is l.is in
        let low = l.below in
        let high = f.1.high in
        omega (arith, ints, e, low, high)
    node_sound OtherKind r f = shown_kind c.version night _ _ _ _ (node_at c.nodes k).kind right.shows f.0
    node_sound (Broken m d) r f =
        held_at night (path_at night start c.nodes k) (duals_at c.nodes k) c.version
        (shown_to_hold c.version night (path_at night start c.nodes k) (duals_at c.nodes k) (IsListed night start c.nodes k) (pos c.bound)
        (node_at c.nodes k).kind f.0 right.shows) m d f.1
    node_sound LowLeaf r f = too_low c.version _ _ c.bound f.1 f.2 (shown_by_leaf c.version night _ _ _ _ (node_at c.nodes k).kind f.0 right.shows)
    node_sound LowWhole r f =
        let le = shown_by_whole c.version night _ (duals_at c.nodes k) (IsListed night start c.nodes k) _ (node_at c.nodes k).kind f.0 right.shows in
        let lt = f.1 in
        omega (arith, ints, le, lt)
    node_sound (Missing d) r f =
        let m = f.4 in
        ⊎_elim
        (λ reaches. step_too_low c.version _ _ _ c.bound f.3 m.low reaches)
        (λ known. m.unlisted known)
        (shown_by_branch c.version night _ _ _ _ (node_at c.nodes k).kind f.0 right.shows d m.there m.through)
