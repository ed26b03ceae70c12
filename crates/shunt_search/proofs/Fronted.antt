-- What the first of some nodes prove, all prove; and they prove no more than what is left.
use Rattle.std.specs.Prelude.{map, ℤ, pos, ◌≤ℤ◌}
use Rattle.std.proofs.Common.{◌≡◌, ◌≢◌, inl, ⊎_elim, ℕ, zero, suc, ◌<◌, ◌≤◌, List, ◌++◌, length, take, drop, sym, subst, ap, ◌∙◌, arith}
use Rattle.std.proofs.lemmas.Int.{ints}
use Rattle.std.proofs.lemmas.Bool.{cases_lt}
use Rattle.std.proofs.lemmas.List.{length-append, length-take, take-append-drop}
use Rattle.std.proofs.Math.Nat.{le-min}
use Rattle.shunt_lists.specs.defs.Members.{In}
use Rattle.shunt_base.specs.declared.duals.Case.{Case}
use Rattle.shunt_instance.specs.defs.Instance.{Night, IsInstance}
use Rattle.shunt_blocks.specs.declared.records.Block.{Block}
use Rattle.shunt_blocks.specs.defs.Lists.{RunsThrough, placed, total_cost}
use Rattle.shunt_blocks.specs.defs.Pins.{without_id}
use Rattle.shunt_choices.specs.defs.Choices.{Choice as PathChoice, IsChoiceAt, longer_by}
use Rattle.shunt_proof.specs.declared.records.NodeKind.{NodeKind}
use Rattle.shunt_proof.specs.declared.records.NodeKind.TheVariants.{Branch, Whole}
use Rattle.shunt_proof.specs.declared.records.Node.{Node}
use Rattle.shunt_proof.specs.declared.records.Version.{Version}
use Rattle.shunt_proof.specs.defs.Nodes.{node_at, AreNodes}
use Rattle.shunt_proof.specs.defs.Trees.{parent, choice_from, longer_with, path_at, duals_at, best_before}
use Rattle.shunt_proof.specs.defs.Versions.{IsStepBoundIn}
use Rattle.shunt_proof.specs.defs.Proves.{ShowsWhole, ShowsByChoicesIn, ShowsIn, IsListed, IsPlaced, AreRightIn}
use Rattle.shunt_proof.proofs.Depths.{parent_found, child_later, child_path}
use Rattle.shunt_proof.proofs.Fronts.{node_front, duals_front, path_front}
use Rattle.shunt_proof.proofs.LongerLists.{front_nodes, right_more}
use Rattle.shunt_proof.proofs.Few.{CountLaws, longer, one_path}
use Rattle.shunt_search.specs.declared.walk_stack.Pending.{Pending}
use Rattle.shunt_search.specs.defs.Yards.{choice_of}
use Rattle.shunt_search.specs.defs.WalkStates.{kept, goal_of, IsWalked, IsWalk}
use Rattle.shunt_search.specs.defs.Steady.{KeepBounds, IsSteady}
use Rattle.shunt_search.proofs.Offered.{longer_is}
use Rattle.shunt_search.proofs.LiftedCases.{OneLaw}
use Rattle.shunt_proof.proofs.Locally.{step_lower as lower}
use Rattle.shunt_proof.proofs.Proved.{longer_stated as with_choice}

-- ---- the path of a choice that is listed

module _ (version : Version) (night : Night) (start : List Block) (nodes : List Node) (h : AreNodes night nodes) where
  listed_path : (k : ℕ) (c : PathChoice) (l : IsListed night start nodes k c) → path_at night start nodes l.child ≡ longer_by (path_at night start nodes k) c
  listed_path k c l =
      let there = l.below.there in
      let later = child_later night nodes h k l.child l.below in
      child_path night nodes h start l.child (omega (arith, later)) there
      ∙ ap (λ (j : ℕ). longer_with night (path_at night start nodes j) (node_at nodes l.child).choice) l.below.parent
      ∙ with_choice night (path_at night start nodes k) (node_at nodes l.child).choice c l.states

  -- what a branch shows of a choice
  of_branch : (k : ℕ) (L : ℤ) → (node_at nodes k).kind ≡ Branch → ShowsIn version night (path_at night start nodes k) (duals_at nodes k) (node_at nodes k).kind
      (IsListed night start nodes k) L → ShowsByChoicesIn version night (path_at night start nodes k) (duals_at nodes k) (IsListed night start nodes k) L
  of_branch k L e s = subst (λ (kd : NodeKind). ShowsIn version night (path_at night start nodes k) (duals_at nodes k) kd (IsListed night start nodes k) L) e s

-- ---- what is left

module _ (one : OneLaw) (version : Version) (night : Night) (start : List Block) (nodes : List Node) (h : AreNodes night nodes) (L : ℤ)
    (right : AreRightIn version night start nodes L) where
  -- a choice that no node has has a bound of at least L
  unlisted : (k : ℕ) (c : PathChoice) (goal : List Block) (bound : ℤ) → k < length nodes → (node_at nodes k).kind ≡ Branch → IsChoiceAt night (path_at night start nodes k) c
      → goal ≡ longer_by (path_at night start nodes k) c
      → RunsThrough night (placed goal) → IsStepBoundIn version night (path_at night start nodes k) goal (duals_at nodes k) bound
      → ((j : ℕ) → j < length nodes → path_at night start nodes j ≢ goal) → L ≤ℤ bound
  unlisted k c goal bound lt kind at e through is new =
      let shown = of_branch version night start nodes h k L kind (right k lt).shows in
      ⊎_elim
      (λ r.
      let same = one version night (path_at night start nodes k) (longer_by (path_at night start nodes k) c) (duals_at nodes k) r.0 bound r.1
      (subst (λ (l : List Block). IsStepBoundIn version night (path_at night start nodes k) l (duals_at nodes k) bound) e is) in
      let le = r.2 in
      omega (arith, ints, same, le))
      (λ l. absurd (new l.child l.below.there (listed_path version night start nodes h k c l ∙ sym e)))
      (shown.each c at (subst (λ (l : List Block). RunsThrough night (placed l)) e through))

  module _ (stock : List (List Case)) (floor : ℤ) (path : List Block) (waiting : List Pending) (best : ℕ) (low : ℤ)
      (W : IsWalk version night start stock floor nodes path waiting best low) where
    pub left_above : (t : Pending) → In t waiting → L ≤ℤ t.child.bound
    left_above t i =
        let p = W.pending t i in
        unlisted t.parent (choice_of t.child.block) (goal_of path t.child) t.child.bound p.there p.branch
        (subst (λ (l : List Block). IsChoiceAt night l (choice_of t.child.block)) (sym p.here) p.next.choice)
        (sym (longer_is (take (kept t.child) path) t.child.block p.next.id) ∙ ap (λ (l : List Block). longer_by l (choice_of t.child.block)) (sym p.here))
        p.through p.bound p.new

    pub low_above : IsSteady version night start nodes path waiting best low → L ≤ℤ pos best → L ≤ℤ low
    low_above S le = ⊎_elim
        (λ e. omega (arith, ints, e, le))
        (λ q. unlisted q.above q.choice q.goal low q.there q.branch q.next q.goal_is q.through q.is q.new)
        S.least

-- ---- fronts

-- nodes as they are at the end
pub record AreGiven (version : Version) (night : Night) (start : List Block) (best : ℕ) (M : ℤ) (nodes : List Node) : Type 0 where
  pub formed : AreNodes night nodes
  pub placed : (k : ℕ) → 1 ≤ k → k < length nodes → IsPlaced night start nodes k
  pub kinds : (k : ℕ) → k < length nodes → IsWalked nodes k
  pub right : AreRightIn version night start nodes M
  pub keep : KeepBounds version night start nodes best
  pub whole : (k : ℕ) → k < length nodes → (node_at nodes k).kind ≡ Whole → best ≤ total_cost night (path_at night start nodes k)

module _ (laws : CountLaws) (one : OneLaw) (version : Version) (night : Night) (i : IsInstance night) (start : List Block) (best : ℕ) (M L : ℤ) (cheap : L ≤ℤ pos best)
    (front rest : List Node) (some : 1 ≤ length front) (G : AreGiven version night start best M (front ++ rest)) (right : AreRightIn version night start front L) where
  abbrev nodes : List Node
  nodes = front ++ rest

  abbrev path : ℕ → List Block
  path k = path_at night start nodes k

  formed_front : AreNodes night front
  formed_front = front_nodes front rest night G.formed

  -- a later node's bound by its parent's cases, where the parent is one of the first: it isn't listed there
  first_below : (p k : ℕ) (c : PathChoice) (bound : ℤ) → p < length front → length front ≤ k → k < length nodes → (node_at nodes p).kind ≡ Branch → IsChoiceAt night (path p) c
      → path k ≡ longer_by (path p) c
      → RunsThrough night (placed (path k)) → IsStepBoundIn version night (path p) (path k) (duals_at nodes p) bound → L ≤ℤ bound
  first_below p k c bound before past lt kind at e through is =
      let path_is = path_front front rest night start p before in
      let long = length-append front rest in
      unlisted one version night start front formed_front L right p c (path k) bound before
      (sym (ap (λ (x : Node). x.kind) (node_front front rest p before)) ∙ kind)
      (subst (λ (l : List Block). IsChoiceAt night l c) path_is at)
      (e ∙ ap (λ (l : List Block). longer_by l c) path_is)
      through
      (subst (λ (l : List Block). IsStepBoundIn version night l (path k) (duals_at front p) bound) path_is
      (subst (λ (d : List Case). IsStepBoundIn version night (path p) (path k) d bound) (duals_front front rest p before) is))
      (λ j there same.
      let one_node = one_path laws night i start nodes G.formed G.placed j k (omega (arith, there, long)) lt
      (ap (map without_id) (path_front front rest night start j there ∙ same)) in
      omega (arith, one_node, there, past))

  -- so each later node's is at least L
  reached : (n k : ℕ) → k < n → k < length nodes → length front ≤ k → (bound : ℤ)
      → IsStepBoundIn version night (path (parent nodes k)) (path k) (duals_at nodes (parent nodes k)) bound → L ≤ℤ bound
  reached zero k below lt past bound is = absurd (omega (arith, below))
  reached (suc n) k below lt past bound is =
      let first : 1 ≤ k = omega (arith, some, past) in
      let p = parent nodes k in
      let f = parent_found night nodes G.formed k first lt in
      let before = f.before in
      let its = G.placed k first lt in
      let c = choice_from night (path p) its.choice in
      let e : path k ≡ longer_by (path p) c = longer laws night i start nodes G.formed G.placed k first lt in
      ⊎_elim
      (λ early. first_below p k c bound early past lt f.branch its.there e its.through is)
      (λ late.
      let h = G.keep p (omega (arith, some, late)) (omega (arith, before, lt)) f.branch in
      let up = reached n p (omega (arith, before, below)) (omega (arith, before, lt)) late h.bound h.is in
      let own = subst (λ (l : List Block). IsStepBoundIn version night (path p) l (duals_at nodes p) bound) e is in
      ⊎_elim
      (λ r. (let same = one version night (path p) (longer_by (path p) c) (duals_at nodes p) r.0 bound r.1 own in let le = r.2 in omega (arith, ints, up, same, le)))
      (λ r. (let same = one version night (path p) (longer_by (path p) c) (duals_at nodes p) r.0 bound r.1 own in let le = r.2 in omega (arith, ints, cheap, same, le)))
      (h.each c its.there (subst (λ (l : List Block). RunsThrough night (placed l)) e its.through)))
      (cases_lt p (length front))

  shown : (k : ℕ) → k < length nodes → length front ≤ k → ShowsIn version night (path k) (duals_at nodes k) (node_at nodes k).kind (IsListed night start nodes k) L
  shown k lt past = ⊎_elim
      (λ kind.
      let base = of_branch version night start nodes G.formed k M kind (G.right k lt).shows in
      let h = G.keep k (omega (arith, some, past)) lt kind in
      let up = reached (suc k) k (omega arith) lt past h.bound h.is in
      subst (λ (kd : NodeKind). ShowsIn version night (path k) (duals_at nodes k) kd (IsListed night start nodes k) L) (sym kind) (record {
        unfinished = base.unfinished;
        holds = base.holds;
        each = λ c at through. inl (⊎_elim (λ r. lower version night (path k) (longer_by (path k) c) (duals_at nodes k) h.bound L up r)
            (λ r. lower version night (path k) (longer_by (path k) c) (duals_at nodes k) (pos best) L cheap r) (h.each c at through));
      }))
      (λ kind.
      let base : ShowsWhole night (path k) M = subst (λ (kd : NodeKind). ShowsIn version night (path k) (duals_at nodes k) kd (IsListed night start nodes k) M) kind
      (G.right k lt).shows in
      let most = G.whole k lt kind in
      subst (λ (kd : NodeKind). ShowsIn version night (path k) (duals_at nodes k) kd (IsListed night start nodes k) L) (sym kind)
      (record { covers = base.covers; cost = omega (arith, ints, cheap, most) }))
      (G.kinds k lt)

  all_right : AreRightIn version night start nodes L
  all_right k lt = ⊎_elim
      (λ before. right_more front rest night start version k L before (right k before))
      (λ past. record { placed = λ first. G.placed k first lt; shows = shown k lt past })
      (cases_lt k (length front))

-- what the first of them prove, up to the best cost, all prove
pub fronts_right : CountLaws → OneLaw → (version : Version) (night : Night) → IsInstance night → (start : List Block) (best : ℕ) (M L : ℤ) → L ≤ℤ pos best
    → (nodes : List Node) (m : ℕ) → 1 ≤ m → 1 ≤ length nodes → AreGiven version night start best M nodes → AreRightIn version night start (take m nodes) L
    → AreRightIn version night start nodes L
fronts_right laws one version night i start best M L cheap nodes m some more G right =
    let is = take-append-drop m nodes in
    let size = length-take m nodes in
    subst (λ (l : List Node). AreRightIn version night start l L) is
    (all_right laws one version night i start best M L cheap (take m nodes) (drop m nodes) (subst (λ (n : ℕ). 1 ≤ n) (sym size) (le-min some more))
    (subst (λ (l : List Node). AreGiven version night start best M l) (sym is) G) right)

-- what a steady walk gives
pub given : ((night : Night) (start : List Block) (nodes : List Node) (j k : ℕ) → j < k → (node_at nodes j).kind ≡ Whole
    → best_before night start nodes k ≤ total_cost night (path_at night start nodes j))
    → (version : Version) (night : Night) (start : List Block) (stock : List (List Case)) (floor : ℤ) (nodes : List Node) (path : List Block) (waiting : List Pending) (best : ℕ)
    (low : ℤ)
    → IsWalk version night start stock floor nodes path waiting best low → IsSteady version night start nodes path waiting best low → (M : ℤ)
    → AreRightIn version night start nodes M → AreGiven version night start best M nodes
given before_whole version night start stock floor nodes path waiting best low W S M right = record {
  formed = W.formed;
  placed = W.placed;
  kinds = W.kinds;
  right = right;
  keep = S.keep;
  whole = λ k lt kind. let cheap = W.cheap in let most = before_whole night start nodes k (length nodes) lt kind in omega (arith, cheap, most);
}
