-- If nothing is wrong, a certificate is accepted.
use Rattle.std.specs.Prelude.{◌≢◌, ◌≤ℤ◌, IsSome, is_ok, Result, Ok, Err}
use Rattle.std.proofs.Common.{◌≡◌, ◌⊎◌, ⊎_elim, inl, inr, ℕ, ◌≤◌, ℤ, pos, true, List, Option, Some, None, length, refl, sym, ap, subst, ◌∙◌, arith}
use Rattle.std.proofs.lemmas.Int.{ints, by_lt_z}
use Rattle.std.proofs.lemmas.Bool.{cases_lt}
use Rattle.shunt_lists.proofs.Members.{in_place}
use Rattle.shunt_base.specs.declared.duals.Case.{Case}
use Rattle.shunt_stays.specs.defs.Run.{Stop, Through, run_of}
use Rattle.shunt_stays.specs.defs.Run.Stop.{Blocked, Over}
use Rattle.shunt_instance.specs.defs.Instance.{Night}
use Rattle.shunt_blocks.specs.declared.records.Block.{Block}
use Rattle.shunt_blocks.specs.defs.Lists.{RunsThrough, IsFeasible, track_lengths, stays_of, placed, total_cost}
use Rattle.shunt_choices.specs.defs.Paths.{masks_of, next_of}
use Rattle.shunt_choices.specs.defs.Choices.{Choice as PathChoice, IsChoiceAt, longer_by}
use Rattle.shunt_plan.specs.declared.records.Plan.{Plan}
use Rattle.shunt_plan.specs.defs.Plans.{IsPlanInRange}
use Rattle.shunt_proof.specs.declared.records.Choice.{Choice}
use Rattle.shunt_proof.specs.declared.records.NodeKind.{NodeKind}
use Rattle.shunt_proof.specs.declared.records.NodeKind.TheVariants.{Branch, Leaf, Whole}
use Rattle.shunt_proof.specs.declared.records.Version.{Version}
use Rattle.shunt_proof.specs.declared.records.Version.TheVariants.{Stacks}
use Rattle.shunt_proof.specs.declared.records.Certificate.{Certificate}
use Rattle.shunt_proof.specs.defs.Nodes.{node_at}
use Rattle.shunt_proof.specs.defs.Trees.{parent, choice_from, longer_with, path_at, duals_at, best_before}
use Rattle.shunt_proof.specs.defs.Versions.{HoldIn, IsBoundIn, IsStepBoundIn, ReachesIn, StepReachesIn}
use Rattle.shunt_proof.specs.defs.Proves.{ShowsIn, IsListed, IsPlaced, IsRightIn}
use Rattle.shunt_proof.specs.defs.Accepted.{IsLeanIn}
use Rattle.shunt_checker.specs.declared.verdict.PlanFault.TheVariants as fault
use Rattle.shunt_checker.specs.declared.verdict.Reason.TheVariants as reason
use Rattle.shunt_checker.specs.defs.PlanFaults.{IsPlanSound}
use Rattle.shunt_checker.specs.defs.NodeFaults.{NotThere, Twice, NotLean, OtherKind, Broken, LowLeaf, LowWhole, Missing, IsNodeSound, IsOtherKind, IsLow, IsStepLow}
use Rattle.shunt_checker.proofs.Stable.{flag, same, block, choice_at}
use Rattle.shunt_checker.proofs.Listed.{listed}
use Rattle.shunt_checker.proofs.Versioned.{IsSolid, BoundLaws, bound_there, step_there, hold_if}
use Rattle.shunt_lists.proofs.Options.{some_way as next_there}

-- ---- plans

not_stopped : (night : Night) (plan : Plan) (r : Result Through Stop) → run_of (track_lengths night.station) (stays_of night plan.blocks) ≡ r → IsPlanSound night plan
    → is_ok r ≡ true
not_stopped night plan (Ok t) e sound = refl
not_stopped night plan (Err (Blocked m)) e sound = absurd (sound (fault.Blocked m.key.id) (record { move = m; stops = e; named = refl }))
not_stopped night plan (Err (Over m load)) e sound = absurd (sound (fault.Over m.key.id load) (record { move = m; stops = e; named = refl }))

pub feasible : (night : Night) (plan : Plan) → IsPlanInRange night plan → IsPlanSound night plan → IsFeasible night plan.blocks
feasible night plan range sound = record {
  ids = range.blocks.ids;
  each = λ k d lt. block night _ (range.blocks.each k d lt) (λ bad. sound (fault.BadBlock _) (record { block = _; there = in_place plan.blocks k d lt; named = refl; bad = bad }));
  covers = record {
    units = λ u lt. same _ _ (λ other. sound (fault.Unit u) (lt, other));
    positions = λ v lt. same _ _ (λ other. sound (fault.Place v) (lt, other));
  };
  through = not_stopped night plan (run_of (track_lengths night.station) (stays_of night plan.blocks)) refl sound;
}

pub states : (night : Night) (plan : Plan) → IsPlanSound night plan → plan.cost ≡ total_cost night plan.blocks
states night plan sound = same _ _ (λ other. sound (fault.Cost plan.cost (total_cost night plan.blocks)) (refl, refl, other))

-- ---- nodes

pub one_choice : (o : Option Choice) (a b : Choice) → o ≡ Some a → o ≡ Some b → a ≡ b
one_choice o a b ea eb = let e : Some a ≡ Some b = sym ea ∙ eb in cc

next_none : (o : Option ℕ) → (IsSome o → ⊥) → o ≡ None
next_none None never = refl
next_none (Some u) never = absurd (never refl)

module _ (version : Version) (night : Night) (path : List Block) (cases : List Case) (IsKnown : PathChoice → Type 0) (L : ℤ) where
  -- what has to be shown, kind by kind
  record AllShown (kind : NodeKind) : Type 0 where
    fits : IsOtherKind kind (next_of (masks_of night path)) → ⊥
    holds : kind ≢ Whole → HoldIn version night path cases
    leaf : kind ≡ Leaf → ReachesIn version night path cases L
    whole : kind ≡ Whole → L ≤ℤ pos (total_cost night path)
    branch : kind ≡ Branch → (d : PathChoice) → IsChoiceAt night path d → RunsThrough night (placed (longer_by path d))
        → StepReachesIn version night path (longer_by path d) cases L ⊎ IsKnown d

  shows : (kind : NodeKind) → AllShown kind → ShowsIn version night path cases kind IsKnown L
  shows Whole h = record { covers = next_none _ h.fits; cost = h.whole refl }
  shows Leaf h = record { unfinished = next_there _ h.fits; holds = h.holds (λ e. cc); bound = h.leaf refl }
  shows Branch h = record { unfinished = next_there _ h.fits; holds = h.holds (λ e. cc); each = h.branch refl }

reaches_or_low : (version : Version) (night : Night) (path : List Block) (cases : List Case) (L : ℕ) (bound : ℤ) → IsBoundIn version night path cases bound
    → ReachesIn version night path cases (pos L) ⊎ IsLow version night path cases L bound
reaches_or_low version night path cases L bound is = by_lt_z bound (pos L) (λ low. inr (record { is = is; low = low })) (λ le. inl (bound, is, le))

step_reaches_or_low : (version : Version) (night : Night) (path longer : List Block) (cases : List Case) (L : ℕ) (bound : ℤ) → IsStepBoundIn version night path longer cases bound
    → StepReachesIn version night path longer cases (pos L) ⊎ IsStepLow version night path longer cases L bound
step_reaches_or_low version night path longer cases L bound is = by_lt_z bound (pos L) (λ low. inr (record { is = is; low = low })) (λ le. inl (bound, is, le))

module _ (night : Night) (start : List Block) (c : Certificate) (k : ℕ) (sound : IsNodeSound night start c k) where
  abbrev path : List Block
  path = path_at night start c.nodes k

  abbrev cases : List Case
  cases = duals_at c.nodes k

  pub placed_there : (choice : Choice) → (node_at c.nodes k).choice ≡ Some choice → IsPlaced night start c.nodes k
  placed_there choice is = record {
    choice = choice;
    is = is;
    there = choice_at night (path_at night start c.nodes (parent c.nodes k)) (choice_from night (path_at night start c.nodes (parent c.nodes k)) choice)
        (λ never. sound NotThere (reason.ChildNotThere choice) (choice, is, (λ t. never t.there), refl));
    through = flag _ _ (λ never. sound NotThere (reason.ChildNotThere choice) (choice, is, (λ t. never t.through), refl));
    once = λ j before below same. sound Twice (reason.ChildTwice choice) (choice, is, record { twin = j; before = before; below = below; same = same }, refl);
  }

  pub unbroken : (node_at c.nodes k).kind ≢ Whole → HoldIn c.version night path cases
  unbroken other = hold_if night path cases c.version (λ m d broken. sound (Broken m d) _ (other, broken, refl))

  whole_costs : (node_at c.nodes k).kind ≡ Whole → pos c.bound ≤ℤ pos (total_cost night path)
  whole_costs is = ⊎_elim
      (λ low. absurd (sound LowWhole _ (is, low, refl)))
      (λ le. omega (arith, ints, le))
      (cases_lt (total_cost night path) c.bound)

  -- where there are the bounds
  module _ (laws : BoundLaws night) where
    module _ (solid : c.version ≡ Stacks → IsSolid night path) where
      leaf_reaches : 1 ≤ length cases → (node_at c.nodes k).kind ≡ Leaf → ReachesIn c.version night path cases (pos c.bound)
      leaf_reaches some is =
          let b = bound_there night laws c.version path cases solid some in
          ⊎_elim (λ reaches. reaches) (λ low. absurd (sound LowLeaf _ (is, b.0, low, refl))) (reaches_or_low c.version night path cases c.bound b.0 b.1)

      branch_lists : 1 ≤ length cases → (node_at c.nodes k).kind ≡ Branch → (d : PathChoice) → IsChoiceAt night path d → RunsThrough night (placed (longer_by path d))
          → (choice : Choice) → d ≡ choice_from night path choice → StepReachesIn c.version night path (longer_by path d) cases (pos c.bound) ⊎ IsListed night start c.nodes k d
      branch_lists some is d there through choice e =
          let b = step_there night laws c.version path d cases solid there through some in
          ⊎_elim
          (λ reaches. inl reaches)
          (λ low. inr (listed night start c.nodes k d (λ unlisted. sound (Missing d) _
          (is, choice, e, b.0, record { there = there; through = through; low = low; unlisted = unlisted }, refl))))
          (step_reaches_or_low c.version night path (longer_by path d) cases c.bound b.0 b.1)

      module _ (choices : (d : PathChoice) → IsChoiceAt night path d → d ≡ choice_from night path (record { n = d.shape.n; dep = d.shape.dep; q = d.shape.q; park = d.option }))
          (some : (node_at c.nodes k).kind ≢ Whole → 1 ≤ length cases) where
        pub node_right : (1 ≤ k → (choice : Choice) × ((node_at c.nodes k).choice ≡ Some choice)) → IsRightIn c.version night start c.nodes k (pos c.bound)
        node_right has = record {
          placed = λ later. placed_there (has later).0 (has later).1;
          shows = shows c.version night path cases (IsListed night start c.nodes k) (pos c.bound) (node_at c.nodes k).kind (record {
            fits = λ other. sound OtherKind reason.WrongKind (other, refl);
            holds = unbroken;
            leaf = λ is. leaf_reaches (some (λ e. let f : Whole ≡ Leaf = sym e ∙ is in cc)) is;
            whole = whole_costs;
            branch = λ is d there through. branch_lists (some (λ e. let f : Whole ≡ Branch = sym e ∙ is in cc)) is d there through _ (choices d there);
          });
        }

    abbrev above : List Block
    above = path_at night start c.nodes (parent c.nodes k)

    module _ (solid : c.version ≡ Stacks → IsSolid night above) (step : path ≡ longer_with night above (node_at c.nodes k).choice) where
      pub node_lean : 1 ≤ k → (choice : Choice) → (node_at c.nodes k).choice ≡ Some choice → 1 ≤ length (duals_at c.nodes (parent c.nodes k))
          → IsLeanIn c.version night start c.nodes k
      node_lean later choice is some =
          let at = placed_there choice is in
          let longer : path ≡ longer_by above (choice_from night above choice) = step ∙ ap (λ (o : Option Choice). longer_with night above o) is in
          let there : IsChoiceAt night above (choice_from night above choice) = subst (λ (x : Choice). IsChoiceAt night above (choice_from night above x))
          (one_choice _ at.choice choice at.is is) at.there in
          let b = step_there night laws c.version above (choice_from night above choice) (duals_at c.nodes (parent c.nodes k)) solid there
          (subst (λ (bs : List Block). RunsThrough night (placed bs)) longer at.through) some in
          let bound : IsStepBoundIn c.version night above path (duals_at c.nodes (parent c.nodes k)) b.0 =
          subst (λ (bs : List Block). IsStepBoundIn c.version night above bs (duals_at c.nodes (parent c.nodes k)) b.0) (sym longer) b.1 in
          by_lt_z b.0 (pos (best_before night start c.nodes k))
          (λ low. record { bound = b.0; is = bound; below = low })
          (λ high. absurd (sound NotLean _ (b.0, record { some = later; is = bound; high = high }, refl)))
