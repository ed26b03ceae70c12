-- What is missing of a branch, as a reason.
use Rattle.std.specs.Prelude.{Option, Some, None}
use Rattle.std.specs.Option.{IsSomeAnd}
use Rattle.std.proofs.Common.{◌≡◌, ℕ, ◌+◌, ◌<◌, List, ℤ, sym, ap, subst, ◌∙◌}
use Rattle.shunt_base.specs.declared.duals.Case.{Case}
use Rattle.shunt_instance.specs.defs.Words.{train_at, kind_at}
use Rattle.shunt_instance.specs.defs.Instance.{Night, unit_at, make_unit}
use Rattle.shunt_blocks.specs.declared.records.Shape.{Shape}
use Rattle.shunt_blocks.specs.declared.records.Block.{Block}
use Rattle.shunt_blocks.specs.defs.Shapes.{AreRunsWithin, unit_from}
use Rattle.shunt_choices.specs.defs.Paths.{Masks, masks_of, next_of}
use Rattle.shunt_choices.specs.defs.Choices.{Choice as PathChoice, IsChoice, IsFreeShape, longer_by}
use Rattle.shunt_proof.specs.declared.records.Choice.{Choice}
use Rattle.shunt_proof.specs.declared.records.NodeKind.TheVariants.{Branch}
use Rattle.shunt_proof.specs.declared.records.Certificate.{Certificate}
use Rattle.shunt_proof.specs.defs.Nodes.{node_at}
use Rattle.shunt_proof.specs.defs.Trees.{choice_from, path_at, duals_at}
use Rattle.shunt_proof.specs.defs.Versions.{IsStepBoundIn}
use Rattle.shunt_checker.specs.declared.verdict.Reason.TheVariants as reason
use Rattle.shunt_checker.specs.defs.Firsts.{Finds}
use Rattle.shunt_checker.specs.defs.Searches.{IsOneAt}
use Rattle.shunt_checker.specs.defs.Children.{said}
use Rattle.shunt_checker.specs.defs.Misses.{IsMissed}
use Rattle.shunt_checker.specs.defs.NodeFaults.{IsMissing, EarlierChoice}
use Rattle.shunt_checker.specs.defs.NodeSteps.{NodeFrom, Judges}
use Rattle.shunt_checker.proofs.Chosen.{choice_is}
use Rattle.shunt_checker.proofs.Lowness.{StepLaws}
use Rattle.shunt_checker.proofs.Missed.{missing, missed}
use Rattle.shunt_checker.proofs.NodeOrder.{from_next, none_low, none_missing, missing_first}
use Rattle.shunt_checker.proofs.NodeFindings.{whole_branch, leaf_branch}

-- a choice that is missing and begins at a unit is a choice for it
pub missed_choice : (night : Night) (covered : Masks) (H : PathChoice → Type 0) (u : ℕ) (r : Option PathChoice) (d : PathChoice) → r ≡ Some d
    → Finds (IsOneAt night covered H u) (EarlierChoice night) r → IsOneAt night covered H u d
missed_choice night covered H u r d e found =
    let first : Finds (IsOneAt night covered H u) (EarlierChoice night) (Some d) = subst (Finds (IsOneAt night covered H u) (EarlierChoice night)) e found in
    first.is

pub missed_free : (night : Night) (covered : Masks) (path : List Block) (cases : List Case) (c : Certificate) (k u : ℕ) (d : PathChoice)
    → IsOneAt night covered (IsMissed c.version night path cases c.nodes k c.bound) u d → IsChoice night covered u d
missed_free night covered path cases c k u d h =
    record { shape = subst (λ (w : ℕ). IsFreeShape night covered w d.shape) h.unit h.free.shape; option = h.free.holds.option }

module _ (night : Night) (c : Certificate) (k : ℕ) (path : List Block) (cases : List Case) (ed : cases ≡ duals_at c.nodes k) (kind : (node_at c.nodes k).kind ≡ Branch)
    (covered : Masks) (ec : covered ≡ masks_of night path) where
  from_seven : (start : List Block) → NodeFrom night start c k 6 → NodeFrom night start c k 7
  from_seven start from = from_next night start c k 6 from
      (none_low night start c k (λ e b h. leaf_branch (node_at c.nodes k).kind e kind) (λ e low. whole_branch (node_at c.nodes k).kind e kind))

  next_at : (start : List Block) → path ≡ path_at night start c.nodes k → (n : Option ℕ) → next_of covered ≡ n → next_of (masks_of night (path_at night start c.nodes k)) ≡ n
  next_at start is n e = sym (ap (λ (m : Masks). next_of m) ec ∙ ap (λ (p : List Block). next_of (masks_of night p)) is) ∙ e

  pub none_next : next_of covered ≡ None → Judges night c k path 6 8 None
  none_next e = λ start is from. from_next night start c k 7 (from_seven start from)
      (none_missing night start c k (λ branch d bound h. subst (λ (n : Option ℕ). IsSomeAnd n (λ u. IsChoice night (masks_of night (path_at night start c.nodes k)) u d))
      (next_at start is None e) h.there))

  module _ (unit_law : (s : Shape) (k : ℕ) → AreRunsWithin night s → k < s.n → unit_at night (unit_from night s + k)
      ≡ make_unit s.arr.0 (s.p + k) (kind_at (train_at night.arrive s.arr.0) (s.p + k)))
      (laws : StepLaws night) (u : ℕ) (next : next_of covered ≡ Some u) where
    abbrev At : Masks → List Block → List Case → PathChoice → Type 0
    At m p cs d = IsOneAt night m (IsMissed c.version night p cs c.nodes k c.bound) u d

    to_node : (start : List Block) → path ≡ path_at night start c.nodes k → (d : PathChoice) → At covered path cases d
        → At (masks_of night (path_at night start c.nodes k)) (path_at night start c.nodes k) (duals_at c.nodes k) d
    to_node start is d h = subst (λ (p : List Block). At (masks_of night p) p (duals_at c.nodes k) d) is
        (subst (λ (cs : List Case). At (masks_of night path) path cs d) ed (subst (λ (m : Masks). At m path cases d) ec h))

    from_node : (start : List Block) → path ≡ path_at night start c.nodes k → (d : PathChoice)
        → At (masks_of night (path_at night start c.nodes k)) (path_at night start c.nodes k) (duals_at c.nodes k) d → At covered path cases d
    from_node start is d h = subst (λ (m : Masks). At m path cases d) (sym ec)
        (subst (λ (cs : List Case). At (masks_of night path) path cs d) (sym ed) (subst (λ (p : List Block). At (masks_of night p) p (duals_at c.nodes k) d) (sym is) h))

    module _ (r : Option PathChoice) (found : Finds (IsOneAt night covered (IsMissed c.version night path cases c.nodes k c.bound) u) (EarlierChoice night) r) where
      pub none_missed : r ≡ None → Judges night c k path 6 8 None
      none_missed e =
          let none : Finds (IsOneAt night covered (IsMissed c.version night path cases c.nodes k c.bound) u) (EarlierChoice night) None = subst
          (Finds (IsOneAt night covered (IsMissed c.version night path cases c.nodes k c.bound) u) (EarlierChoice night)) e found in
          λ start is from. from_next night start c k 7 (from_seven start from)
          (none_missing night start c k (λ branch d bound h. none d (from_node start is d
          (missed c.version night start c.nodes k c.bound u unit_law laws (next_at start is (Some u) next) d bound h))))

      pub first_missed : (d : PathChoice) (longer : List Block) (choice : Choice) (bound : ℤ) → r ≡ Some d → longer ≡ longer_by path d → choice ≡ said d
          → IsStepBoundIn c.version night path longer cases bound
          → Judges night c k path 6 8 (Some (reason.ChildMissing choice bound))
      first_missed d longer choice bound e el es at =
          let first : Finds (IsOneAt night covered (IsMissed c.version night path cases c.nodes k c.bound) u) (EarlierChoice night) (Some d) = subst
          (Finds (IsOneAt night covered (IsMissed c.version night path cases c.nodes k c.bound) u) (EarlierChoice night)) e found in
          λ start is from.
          let moved : IsStepBoundIn c.version night (path_at night start c.nodes k) (longer_by (path_at night start c.nodes k) d) (duals_at c.nodes k) bound =
          subst (λ (p : List Block). IsStepBoundIn c.version night p (longer_by p d) (duals_at c.nodes k) bound) is
          (subst (λ (cs : List Case). IsStepBoundIn c.version night path (longer_by path d) cs bound) ed
          (subst (λ (p : List Block). IsStepBoundIn c.version night path p cases bound) el at)) in
          let miss : IsMissing c.version night start c.nodes k c.bound d bound = missing c.version night start c.nodes k c.bound u unit_law laws
          (next_at start is (Some u) next) d bound (to_node start is d first.is) moved in
          let own : d ≡ choice_from night (path_at night start c.nodes k) choice =
          choice_is night unit_law (path_at night start c.nodes k) d miss.there ∙ ap (λ (x : Choice). choice_from night (path_at night start c.nodes k) x) (sym es) in
          missing_first night start c k (from_seven start from) kind choice bound
          (subst (λ (x : PathChoice). IsMissing c.version night start c.nodes k c.bound x bound) own miss)
          (λ x b h before. first.first x (from_node start is x (missed c.version night start c.nodes k c.bound u unit_law laws (next_at start is (Some u) next) x b h))
          (subst (λ (y : PathChoice). EarlierChoice night x y) (sym own) before))
