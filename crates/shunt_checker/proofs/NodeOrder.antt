-- The first reason of a node, rank by rank.
use Rattle.std.specs.Prelude.{◌≢◌, Some}
use Rattle.std.proofs.Common.{◌≡◌, ◌⊎◌, inl, inr, ⊎_elim, ℕ, ◌+◌, ◌<◌, ◌≤◌, List, ℤ, pos, refl, arith}
use Rattle.std.proofs.lemmas.Bool.{cases_eq}
use Rattle.shunt_instance.specs.defs.Instance.{Night}
use Rattle.shunt_blocks.specs.declared.records.Block.{Block}
use Rattle.shunt_blocks.specs.defs.Lists.{total_cost}
use Rattle.shunt_choices.specs.defs.Paths.{masks_of, next_of}
use Rattle.shunt_choices.specs.defs.Choices.{Choice as PathChoice, chosen}
use Rattle.shunt_prices.specs.defs.Limits.{case_at}
use Rattle.shunt_prices.specs.defs.Cases.{weight_with, duals_over}
use Rattle.shunt_proof.specs.declared.records.Choice.{Choice}
use Rattle.shunt_proof.specs.declared.records.NodeKind.TheVariants.{Branch, Leaf, Whole}
use Rattle.shunt_proof.specs.declared.records.Certificate.{Certificate}
use Rattle.shunt_proof.specs.defs.Nodes.{node_at}
use Rattle.shunt_proof.specs.defs.Trees.{choice_from, path_at, duals_at, best_before}
use Rattle.shunt_checker.specs.declared.verdict.Reason.{Reason}
use Rattle.shunt_checker.specs.declared.verdict.Reason.TheVariants as reason
use Rattle.shunt_checker.specs.defs.NodeFaults.{NodeFault, NotThere, Twice, NotLean, OtherKind, Broken, LowLeaf, LowWhole, Missing, IsThere, HasTwin, IsNotLean, IsOtherKind, IsBroken, IsLow, IsMissing, IsNodeFault, IsNodeSound, IsFirstNodeFault, node_rank, EarlierChoice, EarlierPlace}
use Rattle.shunt_checker.specs.defs.NodeSteps.{NodeFrom}

-- only what is broken and what is missing is told apart by its place
placed_rank : (night : Night) (g f : NodeFault) → EarlierPlace night g f → (node_rank f ≡ 5) ⊎ (node_rank f ≡ 7)
placed_rank night NotThere f before = absurd before
placed_rank night Twice f before = absurd before
placed_rank night NotLean f before = absurd before
placed_rank night OtherKind f before = absurd before
placed_rank night (Broken m d) NotThere before = absurd before
placed_rank night (Broken m d) Twice before = absurd before
placed_rank night (Broken m d) NotLean before = absurd before
placed_rank night (Broken m d) OtherKind before = absurd before
placed_rank night (Broken m d) (Broken w e) before = inl refl
placed_rank night (Broken m d) LowLeaf before = absurd before
placed_rank night (Broken m d) LowWhole before = absurd before
placed_rank night (Broken m d) (Missing e) before = absurd before
placed_rank night LowLeaf f before = absurd before
placed_rank night LowWhole f before = absurd before
placed_rank night (Missing d) NotThere before = absurd before
placed_rank night (Missing d) Twice before = absurd before
placed_rank night (Missing d) NotLean before = absurd before
placed_rank night (Missing d) OtherKind before = absurd before
placed_rank night (Missing d) (Broken w e) before = absurd before
placed_rank night (Missing d) LowLeaf before = absurd before
placed_rank night (Missing d) LowWhole before = absurd before
placed_rank night (Missing d) (Missing e) before = inr refl

at_most_seven : (f : NodeFault) → node_rank f ≤ 7
at_most_seven NotThere = omega arith
at_most_seven Twice = omega arith
at_most_seven NotLean = omega arith
at_most_seven OtherKind = omega arith
at_most_seven (Broken m d) = omega arith
at_most_seven LowLeaf = omega arith
at_most_seven LowWhole = omega arith
at_most_seven (Missing d) = omega arith

module _ (night : Night) (start : List Block) (c : Certificate) (k : ℕ) where
  pub from_start : NodeFrom night start c k 1
  from_start NotThere r h = omega arith
  from_start Twice r h = omega arith
  from_start NotLean r h = omega arith
  from_start OtherKind r h = omega arith
  from_start (Broken m d) r h = omega arith
  from_start LowLeaf r h = omega arith
  from_start LowWhole r h = omega arith
  from_start (Missing d) r h = omega arith

  abbrev pub NoneOf : ℕ → Type 0
  NoneOf rank = (f : NodeFault) (r : Reason) → IsNodeFault night start c k f r → node_rank f ≡ rank → ⊥

  pub from_next : (rank : ℕ) → NodeFrom night start c k rank → NoneOf rank → NodeFrom night start c k (rank + 1)
  from_next rank from none f r h = ⊎_elim
      (λ same. absurd (none f r h same))
      (λ other. let le = from f r h in omega (arith, le, other))
      (cases_eq (node_rank f) rank)

  pub sound : NodeFrom night start c k 8 → IsNodeSound night start c k
  sound from f r h = let le = from f r h in let most = at_most_seven f in omega (arith, le, most)

  first_of : (f : NodeFault) (r : Reason) → NodeFrom night start c k (node_rank f) → IsNodeFault night start c k f r
      → ((g : NodeFault) (s : Reason) → IsNodeFault night start c k g s → node_rank g ≡ node_rank f → EarlierPlace night g f → ⊥) → IsFirstNodeFault night start c k r
  first_of f r from is least = record {
    fault = f;
    is = is;
    first = λ g s h before. ⊎_elim
        (λ less. let le = from g s h in omega (arith, le, less))
        (λ same. least g s h same.0 same.1)
        before;
  }

  -- of a rank with no places the first is the only one
  only : (f : NodeFault) (r : Reason) → NodeFrom night start c k (node_rank f) → IsNodeFault night start c k f r → node_rank f ≢ 5 → node_rank f ≢ 7
      → IsFirstNodeFault night start c k r
  only f r from is five seven = first_of f r from is (λ g s h same before. ⊎_elim five seven (placed_rank night g f before))

  -- ---- the choice

  pub none_there : ((choice : Choice) → (node_at c.nodes k).choice ≡ Some choice → IsThere night start c.nodes k choice) → NoneOf 1
  none_there never NotThere r h e = h.2 (never h.0 h.1)
  none_there never Twice r h e = omega (arith, e)
  none_there never NotLean r h e = omega (arith, e)
  none_there never OtherKind r h e = omega (arith, e)
  none_there never (Broken m d) r h e = omega (arith, e)
  none_there never LowLeaf r h e = omega (arith, e)
  none_there never LowWhole r h e = omega (arith, e)
  none_there never (Missing d) r h e = omega (arith, e)

  pub none_twice : ((choice : Choice) → (node_at c.nodes k).choice ≡ Some choice → HasTwin c.nodes k choice → ⊥) → NoneOf 2
  none_twice never NotThere r h e = omega (arith, e)
  none_twice never Twice r h e = never h.0 h.1 h.2
  none_twice never NotLean r h e = omega (arith, e)
  none_twice never OtherKind r h e = omega (arith, e)
  none_twice never (Broken m d) r h e = omega (arith, e)
  none_twice never LowLeaf r h e = omega (arith, e)
  none_twice never LowWhole r h e = omega (arith, e)
  none_twice never (Missing d) r h e = omega (arith, e)

  pub none_lean : ((bound : ℤ) → IsNotLean c.version night start c.nodes k bound → ⊥) → NoneOf 3
  none_lean never NotThere r h e = omega (arith, e)
  none_lean never Twice r h e = omega (arith, e)
  none_lean never NotLean r h e = never h.0 h.1
  none_lean never OtherKind r h e = omega (arith, e)
  none_lean never (Broken m d) r h e = omega (arith, e)
  none_lean never LowLeaf r h e = omega (arith, e)
  none_lean never LowWhole r h e = omega (arith, e)
  none_lean never (Missing d) r h e = omega (arith, e)

  pub none_kind : (IsOtherKind (node_at c.nodes k).kind (next_of (masks_of night (path_at night start c.nodes k))) → ⊥) → NoneOf 4
  none_kind never NotThere r h e = omega (arith, e)
  none_kind never Twice r h e = omega (arith, e)
  none_kind never NotLean r h e = omega (arith, e)
  none_kind never OtherKind r h e = never h.0
  none_kind never (Broken m d) r h e = omega (arith, e)
  none_kind never LowLeaf r h e = omega (arith, e)
  none_kind never LowWhole r h e = omega (arith, e)
  none_kind never (Missing d) r h e = omega (arith, e)

  pub none_broken : ((node_at c.nodes k).kind ≢ Whole → (m : ℕ) (d : PathChoice) → IsBroken c.version night (path_at night start c.nodes k) (duals_at c.nodes k) m d → ⊥) → NoneOf 5
  none_broken never NotThere r h e = omega (arith, e)
  none_broken never Twice r h e = omega (arith, e)
  none_broken never NotLean r h e = omega (arith, e)
  none_broken never OtherKind r h e = omega (arith, e)
  none_broken never (Broken m d) r h e = never h.0 m d h.1
  none_broken never LowLeaf r h e = omega (arith, e)
  none_broken never LowWhole r h e = omega (arith, e)
  none_broken never (Missing d) r h e = omega (arith, e)

  pub none_missing : ((node_at c.nodes k).kind ≡ Branch → (d : PathChoice) (bound : ℤ) → IsMissing c.version night start c.nodes k c.bound d bound → ⊥) → NoneOf 7
  none_missing never NotThere r h e = omega (arith, e)
  none_missing never Twice r h e = omega (arith, e)
  none_missing never NotLean r h e = omega (arith, e)
  none_missing never OtherKind r h e = omega (arith, e)
  none_missing never (Broken m d) r h e = omega (arith, e)
  none_missing never LowLeaf r h e = omega (arith, e)
  none_missing never LowWhole r h e = omega (arith, e)
  none_missing never (Missing d) r h e = never h.0 d h.3 h.4

  pub none_low : ((node_at c.nodes k).kind ≡ Leaf → (bound : ℤ) → IsLow c.version night (path_at night start c.nodes k) (duals_at c.nodes k) c.bound bound → ⊥)
      → ((node_at c.nodes k).kind ≡ Whole → total_cost night (path_at night start c.nodes k) < c.bound → ⊥) → NoneOf 6
  none_low leaf whole NotThere r h e = omega (arith, e)
  none_low leaf whole Twice r h e = omega (arith, e)
  none_low leaf whole NotLean r h e = omega (arith, e)
  none_low leaf whole OtherKind r h e = omega (arith, e)
  none_low leaf whole (Broken m d) r h e = omega (arith, e)
  none_low leaf whole LowLeaf r h e = leaf h.0 h.1 h.2
  none_low leaf whole LowWhole r h e = whole h.0 h.1
  none_low leaf whole (Missing d) r h e = omega (arith, e)

  -- ---- what is told

  pub there_first : (choice : Choice) → (node_at c.nodes k).choice ≡ Some choice → (IsThere night start c.nodes k choice → ⊥)
      → IsFirstNodeFault night start c k (reason.ChildNotThere choice)
  there_first choice is never = only NotThere (reason.ChildNotThere choice) from_start (choice, is, never, refl) (λ e. omega (arith, e)) (λ e. omega (arith, e))

  pub twice_first : NodeFrom night start c k 2 → (choice : Choice) → (node_at c.nodes k).choice ≡ Some choice → HasTwin c.nodes k choice
      → IsFirstNodeFault night start c k (reason.ChildTwice choice)
  twice_first from choice is twin = only Twice (reason.ChildTwice choice) from (choice, is, twin, refl) (λ e. omega (arith, e)) (λ e. omega (arith, e))

  pub lean_first : NodeFrom night start c k 3 → (bound : ℤ) → IsNotLean c.version night start c.nodes k bound
      → IsFirstNodeFault night start c k (reason.ChildNotLean bound (pos (best_before night start c.nodes k)))
  lean_first from bound is = only NotLean (reason.ChildNotLean bound (pos (best_before night start c.nodes k))) from (bound, is, refl) (λ e. omega (arith, e))
      (λ e. omega (arith, e))

  pub kind_first : NodeFrom night start c k 4 → IsOtherKind (node_at c.nodes k).kind (next_of (masks_of night (path_at night start c.nodes k)))
      → IsFirstNodeFault night start c k reason.WrongKind
  kind_first from is = only OtherKind reason.WrongKind from (is, refl) (λ e. omega (arith, e)) (λ e. omega (arith, e))

  abbrev told_broken : ℕ → PathChoice → Reason
  told_broken m d = reason.DualBroken (chosen 0 d) (weight_with night (case_at (duals_at c.nodes k) m) d.shape d.option)
      (duals_over night (case_at (duals_at c.nodes k) m).duals d.shape)

  pub broken_first : NodeFrom night start c k 5 → (node_at c.nodes k).kind ≢ Whole → (m : ℕ) (d : PathChoice)
      → IsBroken c.version night (path_at night start c.nodes k) (duals_at c.nodes k) m d
      → ((n : ℕ) (e : PathChoice) → IsBroken c.version night (path_at night start c.nodes k) (duals_at c.nodes k) n e → (n < m) ⊎ ((n ≡ m) × EarlierChoice night e d) → ⊥)
      → IsFirstNodeFault night start c k (told_broken m d)
  broken_first from kind m d is least = first_of (Broken m d) (told_broken m d) from (kind, is, refl) earlier
    where
      earlier : (g : NodeFault) (s : Reason) → IsNodeFault night start c k g s → node_rank g ≡ 5 → EarlierPlace night g (Broken m d) → ⊥
      earlier NotThere s h same before = before
      earlier Twice s h same before = before
      earlier NotLean s h same before = before
      earlier OtherKind s h same before = before
      earlier (Broken n e) s h same before = least n e h.1 before
      earlier LowLeaf s h same before = before
      earlier LowWhole s h same before = before
      earlier (Missing e) s h same before = before

  pub leaf_first : NodeFrom night start c k 6 → (node_at c.nodes k).kind ≡ Leaf → (bound : ℤ)
      → IsLow c.version night (path_at night start c.nodes k) (duals_at c.nodes k) c.bound bound
      → IsFirstNodeFault night start c k (reason.LeafLow bound (pos c.bound))
  leaf_first from kind bound is = only LowLeaf (reason.LeafLow bound (pos c.bound)) from (kind, bound, is, refl) (λ e. omega (arith, e)) (λ e. omega (arith, e))

  pub whole_first : NodeFrom night start c k 6 → (node_at c.nodes k).kind ≡ Whole → total_cost night (path_at night start c.nodes k) < c.bound
      → IsFirstNodeFault night start c k (reason.WholeLow (pos (total_cost night (path_at night start c.nodes k))) (pos c.bound))
  whole_first from kind low = only LowWhole (reason.WholeLow (pos (total_cost night (path_at night start c.nodes k))) (pos c.bound)) from (kind, low, refl) (λ e. omega (arith, e))
      (λ e. omega (arith, e))

  pub missing_first : NodeFrom night start c k 7 → (node_at c.nodes k).kind ≡ Branch → (choice : Choice) (bound : ℤ)
      → IsMissing c.version night start c.nodes k c.bound (choice_from night (path_at night start c.nodes k) choice) bound
      → ((e : PathChoice) (b : ℤ) → IsMissing c.version night start c.nodes k c.bound e b → EarlierChoice night e (choice_from night (path_at night start c.nodes k) choice) → ⊥)
      → IsFirstNodeFault night start c k (reason.ChildMissing choice bound)
  missing_first from kind choice bound is least = first_of (Missing (choice_from night (path_at night start c.nodes k) choice)) (reason.ChildMissing choice bound) from
      (kind, choice, refl, bound, is, refl) earlier
    where
      earlier : (g : NodeFault) (s : Reason) → IsNodeFault night start c k g s → node_rank g ≡ 7
          → EarlierPlace night g (Missing (choice_from night (path_at night start c.nodes k) choice)) → ⊥
      earlier NotThere s h same before = before
      earlier Twice s h same before = before
      earlier NotLean s h same before = before
      earlier OtherKind s h same before = before
      earlier (Broken n e) s h same before = before
      earlier LowLeaf s h same before = before
      earlier LowWhole s h same before = before
      earlier (Missing e) s h same before = least e h.3 h.4 before
