-- What a branch would have to list, and what is missing of it.
use Rattle.std.specs.Prelude.{Option, Some, None}
use Rattle.std.specs.Option.{IsSomeAnd}
use Rattle.std.proofs.Common.{◌≡◌, ℕ, ◌+◌, ◌<◌, List, ℤ, sym, ap, subst, ◌∙◌}
use Rattle.shunt_instance.specs.defs.Words.{train_at, kind_at}
use Rattle.shunt_instance.specs.defs.Instance.{Night, unit_at, make_unit}
use Rattle.shunt_blocks.specs.declared.records.Shape.{Shape}
use Rattle.shunt_blocks.specs.declared.records.Block.{Block}
use Rattle.shunt_blocks.specs.defs.Shapes.{AreRunsWithin, unit_from}
use Rattle.shunt_choices.specs.defs.Paths.{masks_of, next_of}
use Rattle.shunt_choices.specs.defs.Choices.{Choice as PathChoice, IsChoice, IsFreeShape, longer_by}
use Rattle.shunt_proof.specs.declared.records.Choice.{Choice}
use Rattle.shunt_proof.specs.declared.records.Node.{Node}
use Rattle.shunt_proof.specs.declared.records.Version.{Version}
use Rattle.shunt_proof.specs.defs.Nodes.{node_at}
use Rattle.shunt_proof.specs.defs.Trees.{stated_choice, choice_from, path_at, duals_at}
use Rattle.shunt_proof.specs.defs.Versions.{IsStepBoundIn}
use Rattle.shunt_checker.specs.defs.Children.{said}
use Rattle.shunt_checker.specs.defs.Searches.{IsOneAt}
use Rattle.shunt_checker.specs.defs.NodeFaults.{IsMissing}
use Rattle.shunt_checker.specs.defs.Misses.{IsMissed}
use Rattle.shunt_checker.proofs.Chosen.{choice_is}
use Rattle.shunt_checker.proofs.Lowness.{StepLaws, low_by, low_from}

-- a node that states a choice at a path says of it what it is
said_of : (night : Night) (path : List Block) (o : Option Choice) (d : PathChoice) → stated_choice night path o ≡ Some d → o ≡ Some (said d)
said_of night path None d e = absurd cc
said_of night path (Some x) d e =
    let same : choice_from night path x ≡ d = cc in
    ap (λ (c : PathChoice). Some (said c)) same

module _ (version : Version) (night : Night) (start : List Block) (nodes : List Node) (k L u : ℕ)
    (unit_law : (s : Shape) (k : ℕ) → AreRunsWithin night s → k < s.n → unit_at night (unit_from night s + k)
    ≡ make_unit s.arr.0 (s.p + k) (kind_at (train_at night.arrive s.arr.0) (s.p + k)))
    (laws : StepLaws night) (next : next_of (masks_of night (path_at night start nodes k)) ≡ Some u) where
  abbrev pub IsMissedAt : PathChoice → Type 0
  IsMissedAt d = IsOneAt night (masks_of night (path_at night start nodes k)) (IsMissed version night (path_at night start nodes k) (duals_at nodes k) nodes k L) u d

  pub missing : (d : PathChoice) (bound : ℤ) → IsMissedAt d → IsStepBoundIn version night (path_at night start nodes k) (longer_by (path_at night start nodes k) d)
      (duals_at nodes k) bound → IsMissing version night start nodes k L d bound
  missing d bound h is = record {
    there = subst (λ (n : Option ℕ). IsSomeAnd n (λ w. IsChoice night (masks_of night (path_at night start nodes k)) w d)) (sym next)
        (record { shape = subst (λ (w : ℕ). IsFreeShape night (masks_of night (path_at night start nodes k)) w d.shape) h.unit h.free.shape; option = h.free.holds.option });
    through = h.free.holds.through;
    low = low_from night laws version (path_at night start nodes k) (duals_at nodes k) L d bound h.free.holds.low is;
    unlisted = λ l. h.free.holds.unlisted (record {
      child = l.child;
      below = l.below;
      same = said_of night (path_at night start nodes k)
          (node_at nodes l.child).choice d l.states;
    });
  }

  pub missed : (d : PathChoice) (bound : ℤ) → IsMissing version night start nodes k L d bound → IsMissedAt d
  missed d bound h =
      let choice : IsChoice night (masks_of night (path_at night start nodes k)) u d = subst
      (λ (n : Option ℕ). IsSomeAnd n (λ w. IsChoice night (masks_of night (path_at night start nodes k)) w d)) next h.there in
      let its = choice_is night unit_law (path_at night start nodes k) d h.there in
      record {
        free = record {
          shape = subst (λ (w : ℕ). IsFreeShape night (masks_of night (path_at night start nodes k)) w d.shape) (sym choice.shape.first) choice.shape;
          holds = record {
            option = choice.option;
            low = low_by night laws version (path_at night start nodes k) (duals_at nodes k) L d bound h.low;
            unlisted = λ l. h.unlisted (record {
              child = l.child;
              below = l.below;
              states = ap (λ (o : Option Choice). stated_choice night (path_at night start nodes k) o) l.same ∙ ap (λ (c : PathChoice). Some c) (sym its);
            });
            through = h.through;
          };
        };
        unit = choice.shape.first;
      }
