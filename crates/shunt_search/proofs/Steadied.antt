-- A walk stays steady where a child becomes a node.
use Rattle.std.specs.Prelude.{IsSome, Some, ℤ, pos, ◌<ℤ◌, ◌≤ℤ◌}
use Rattle.std.proofs.Common.{◌≡◌, ◌⊎◌, inl, inr, ⊎_elim, ℕ, ◌+◌, ◌-◌, ◌<◌, ◌≤◌, List, [], ◌∷◌, ◌++◌, length, take, refl, sym, subst, ap, ◌∙◌, arith}
use Rattle.std.proofs.lemmas.Int.{ints}
use Rattle.std.proofs.lemmas.Bool.{cases_lt}
use Rattle.std.proofs.lemmas.List.{append-nil, length-append}
use Rattle.shunt_lists.specs.defs.Members.{In}
use Rattle.shunt_lists.proofs.Members.{in_right}
use Rattle.shunt_base.specs.declared.duals.Case.{Case}
use Rattle.shunt_instance.specs.defs.Instance.{Night, IsInstance}
use Rattle.shunt_blocks.specs.declared.records.Block.{Block}
use Rattle.shunt_choices.specs.defs.Paths.{masks_of, next_of}
use Rattle.shunt_choices.specs.defs.Choices.{Choice as PathChoice, longer_by}
use Rattle.shunt_proof.specs.declared.records.Choice.{Choice}
use Rattle.shunt_proof.specs.declared.records.NodeKind.TheVariants.{Branch, Whole}
use Rattle.shunt_proof.specs.declared.records.Node.{Node}
use Rattle.shunt_proof.specs.declared.records.Version.{Version}
use Rattle.shunt_proof.specs.defs.Nodes.{node_at, FitsNode}
use Rattle.shunt_proof.specs.defs.Versions.{HoldIn, IsStepBoundIn}
use Rattle.shunt_proof.specs.defs.Trees.{depth_at, parent, choice_from, path_at, cases_or, duals_at}
use Rattle.shunt_proof.proofs.Depths.{nearest_low}
use Rattle.shunt_proof.proofs.Fronts.{node_front, node_last, parent_front, duals_front, path_front}
use Rattle.shunt_proof.proofs.LongerLists.{last_parent}
use Rattle.shunt_proof.proofs.Few.{CountLaws}
use Rattle.shunt_search.specs.declared.child.Child.{Child}
use Rattle.shunt_search.specs.declared.walk_stack.Pending.{Pending}
use Rattle.shunt_search.specs.defs.Yards.{choice_of, more_by, AreChildren}
use Rattle.shunt_search.specs.defs.WalkStates.{kept, goal_of, cases_in, IsPending, IsWalk, AddsChildren, OpensAbove}
use Rattle.shunt_search.specs.defs.Steady.{AreNoWorse, KeepBounds, IsPassed, IsSteady}
use Rattle.shunt_search.proofs.Offered.{longer_is, of_choices}
use Rattle.shunt_search.proofs.Arrived.{new_path, new_size, new_duals, above_is, apart_from, same_goal, keeps_goal}
use Rattle.shunt_search.proofs.Passed.{passed_more}
use Rattle.shunt_proof.proofs.Locally.{step_lower as lower}

-- a root is steady
pub steady_root : (version : Version) (night : Night) (start : List Block) (n : Node) (path : List Block) (waiting : List Pending) (best : ℕ) (low : ℤ) → low ≡ pos best
    → IsSteady version night start (n ∷ []) path waiting best low
steady_root version night start n path waiting best low is = record { keep = λ k some lt kind. absurd (omega (arith, some, lt)); least = inl is }

-- cases that bound each child by no less than others bound the path are no worse
no_worse : (version : Version) (night : Night) (above path : List Block) (others own : List Case) (best : ℕ) (bound : ℤ) (children : List Child)
    → AreChildren version night path own best children → OpensAbove version night path own best bound → IsStepBoundIn version night above path others bound
    → AreNoWorse version night above path others own best
no_worse version night above path others own best bound children C rise is = record {
  bound = bound;
  is = is;
  each = λ d at through. ⊎_elim
      (λ closed. inr (closed through))
      (λ i.
      let r = of_choices version night path own best children d i in
      let o = C.each r.0 r.1 in
      let to : more_by path r.0.block ≡ longer_by path d = sym (longer_is path r.0.block o.next.id) ∙ ap (λ (k : PathChoice). longer_by path k) (sym r.2) in
      inl (r.0.bound, subst (λ (l : List Block). IsStepBoundIn version night path l own r.0.bound) to o.is, rise r.0 o))
      (C.others d at);
}

-- and so they are for a lesser cost
cheaper : (version : Version) (night : Night) (above path : List Block) (others own : List Case) (best now : ℕ) → now ≤ best → AreNoWorse version night above path others own best
    → AreNoWorse version night above path others own now
cheaper version night above path others own best now le h = record {
  bound = h.bound;
  is = h.is;
  each = λ d at through. ⊎_elim (λ r. inl r) (λ r. inr (lower version night path (longer_by path d) own (pos best) (pos now) (omega (arith, ints, le)) r)) (h.each d at through);
}

-- cases and paths that are called otherwise
same_no_worse : (version : Version) (night : Night) (above above_too path path_too : List Block) (others others_too own own_too : List Case) (best : ℕ) → above_too ≡ above
    → path_too ≡ path → others_too ≡ others → own_too ≡ own
    → AreNoWorse version night above path others own best → AreNoWorse version night above_too path_too others_too own_too best
same_no_worse version night above above_too path path_too others others_too own own_too best u p o e h =
    subst (λ (l : List Block). AreNoWorse version night l path_too others_too own_too best) (sym u)
    (subst (λ (l : List Block). AreNoWorse version night above l others_too own_too best) (sym p)
    (subst (λ (d : List Case). AreNoWorse version night above path d own_too best) (sym o)
    (subst (λ (d : List Case). AreNoWorse version night above path others d best) (sym e) h)))

-- a node's cases are no worse at its path than its parent's
abbrev KeepsAt : Version → Night → List Block → List Node → ℕ → ℕ → Type 0
KeepsAt version night start nodes k cost = AreNoWorse version night (path_at night start nodes (parent nodes k)) (path_at night start nodes k) (duals_at nodes (parent nodes k))
    (duals_at nodes k) cost

pub steady_cost : (version : Version) (night : Night) (start : List Block) (nodes : List Node) (best now : ℕ) → now ≤ best → KeepBounds version night start nodes best
    → KeepBounds version night start nodes now
steady_cost version night start nodes best now le h k some lt kind = cheaper version night (path_at night start nodes (parent nodes k)) (path_at night start nodes k)
    (duals_at nodes (parent nodes k)) (duals_at nodes k) best now le (h k some lt kind)

-- the older nodes of a list with one more
older : (version : Version) (night : Night) (start : List Block) (nodes : List Node) (n : Node) (best : ℕ) → KeepBounds version night start nodes best → (k : ℕ) → 1 ≤ k
    → k < length nodes → (node_at (nodes ++ n ∷ []) k).kind ≡ Branch
    → KeepsAt version night start (nodes ++ n ∷ []) k best
older version night start nodes n best h k some lt kind =
    let low = nearest_low nodes (depth_at nodes k - 1) k in
    let up : parent nodes k < length nodes = omega (arith, low, lt) in
    same_no_worse version night (path_at night start nodes (parent nodes k)) (path_at night start (nodes ++ n ∷ []) (parent (nodes ++ n ∷ []) k)) (path_at night start nodes k)
    (path_at night start (nodes ++ n ∷ []) k)
    (duals_at nodes (parent nodes k)) (duals_at (nodes ++ n ∷ []) (parent (nodes ++ n ∷ []) k)) (duals_at nodes k) (duals_at (nodes ++ n ∷ []) k) best
    (ap (λ (j : ℕ). path_at night start (nodes ++ n ∷ []) j) (parent_front nodes (n ∷ []) k lt) ∙ path_front nodes (n ∷ []) night start (parent nodes k) up)
    (path_front nodes (n ∷ []) night start k lt)
    (ap (λ (j : ℕ). duals_at (nodes ++ n ∷ []) j) (parent_front nodes (n ∷ []) k lt) ∙ duals_front nodes (n ∷ []) (parent nodes k) up)
    (duals_front nodes (n ∷ []) k lt)
    (h k some lt (sym (ap (λ (x : Node). x.kind) (node_front nodes (n ∷ []) k lt)) ∙ kind))

module _ (version : Version) (night : Night) (formed_night : IsInstance night) (laws : CountLaws) (start : List Block) (stock : List (List Case)) (floor : ℤ) (nodes : List Node)
    (path : List Block) (left : List Pending) (t : Pending) (best : ℕ) (low : ℤ) (W : IsWalk version night start stock floor nodes path (left ++ t ∷ []) best low)
    (S : IsSteady version night start nodes path (left ++ t ∷ []) best low)
    (n : Node) (c : Choice) (depth : length start + n.depth ≡ kept t.child + 1) (choice : n.choice ≡ Some c)
    (is : choice_from night (take (kept t.child) path) c ≡ choice_of t.child.block) (fits : FitsNode night n) (below : t.child.bound <ℤ pos best) where
  abbrev goal : List Block
  goal = goal_of path t.child

  abbrev more : List Node
  more = nodes ++ n ∷ []

  long : length more ≡ length nodes + 1
  long = length-append nodes (n ∷ [])

  goal_size : length goal ≡ kept t.child + 1
  goal_size = new_size version night formed_night laws start stock floor nodes path left t best low W n c depth choice is fits below ∙ depth

  at : path_at night start more (length nodes) ≡ goal
  at = new_path version night formed_night laws start stock floor nodes path left t best low W n c depth choice is fits below

  fronts : (s : Pending) → In s left → goal_of goal s.child ≡ goal_of path s.child
  fronts s i = same_goal version night formed_night laws start stock floor nodes path left t best low W n c depth choice is fits below s
      (apart_from version night formed_night laws start stock floor nodes path left t best low W n c depth choice is fits below s i).0

  -- what was passed over stays so, where these children were added
  passed_on : (added : List Pending) → ((s : Pending) → In s added → kept s.child ≡ length goal) → (bound : ℤ) → IsPassed version night start nodes path (left ++ t ∷ []) bound
      → IsPassed version night start more goal (left ++ added) bound
  passed_on added deeper bound q = passed_more version night start nodes n path left added t bound q goal_size at fronts deeper

  -- each node keeps bounds, where the older ones do and the new one does if it is a branch
  all_keep : (now : ℕ) → now ≤ best → ((node_at more (length nodes)).kind ≡ Branch → KeepsAt version night start more (length nodes) now) → KeepBounds version night start more now
  all_keep now le new k some lt kind = ⊎_elim
      (λ before. older version night start nodes n now (steady_cost version night start nodes best now le S.keep) k some before kind)
      (λ past.
      let last : length nodes ≡ k = omega (arith, past, lt, long) in
      subst (λ (j : ℕ). KeepsAt version night start more j now) last (new (subst (λ (j : ℕ). (node_at more j).kind ≡ Branch) (sym last) kind)))
      (cases_lt k (length nodes))

  module _ (kind : n.kind ≡ Branch) (place : ℕ) (in_stock : place < length stock) (own : cases_or n.duals (cases_in stock t.cases) ≡ cases_in stock place) (waiting : List Pending)
      (adds : AddsChildren version night stock best goal (length nodes) place left waiting) (rise : OpensAbove version night goal (cases_in stock place) best t.child.bound)
      (above : OpensAbove version night goal (cases_in stock place) best floor)
      (holds : HoldIn version night goal (cases_in stock place)) (unfinished : IsSome (next_of (masks_of night goal))) where
    p : IsPending version night start stock floor nodes path t
    p = W.pending t (in_right left (t ∷ []) t (inl refl))

    parent_cases : duals_at more (parent more (length nodes)) ≡ duals_at nodes t.parent
    parent_cases =
        ap (λ (j : ℕ). duals_at more j) (last_parent nodes n ∙ above_is version night formed_night laws start stock floor nodes path left t best low W n c depth choice is
        fits below)
        ∙ duals_front nodes (n ∷ []) t.parent p.there

    own_cases : duals_at more (length nodes) ≡ cases_in stock place
    own_cases = new_duals version night formed_night laws start stock floor nodes path left t best low W n c depth choice is fits below kind place in_stock own waiting adds above
        holds unfinished

    above_path : path_at night start more (parent more (length nodes)) ≡ path_at night start nodes t.parent
    above_path =
        ap (λ (j : ℕ). path_at night start more j) (last_parent nodes n ∙ above_is version night formed_night laws start stock floor nodes path left t best low W n c depth choice
        is fits below)
        ∙ path_front nodes (n ∷ []) night start t.parent p.there

    new_keeps : KeepsAt version night start more (length nodes) best
    new_keeps = same_no_worse version night (path_at night start nodes t.parent) (path_at night start more (parent more (length nodes))) goal
        (path_at night start more (length nodes)) (duals_at nodes t.parent) (duals_at more (parent more (length nodes)))
        (cases_in stock place) (duals_at more (length nodes)) best above_path at parent_cases own_cases
        (no_worse version night (path_at night start nodes t.parent) goal (duals_at nodes t.parent) (cases_in stock place) best t.child.bound adds.children adds.are rise p.bound)

    deeper : (s : Pending) → In s adds.adds.added → kept s.child ≡ length goal
    deeper s i = keeps_goal version night formed_night laws start stock floor nodes path left t best low W n c depth choice is fits below kind place in_stock own waiting adds above
        holds unfinished s i

    pub steady_branch : IsSteady version night start more goal waiting best low
    steady_branch = subst (λ (l : List Pending). IsSteady version night start more goal l best low) (sym adds.adds.is) (record {
      keep = all_keep best (omega arith) (λ e. new_keeps);
      least = ⊎_elim (λ e. inl e) (λ q. inr (passed_on adds.adds.added deeper low q)) S.least;
    })

  whole_not : n.kind ≡ Whole → (node_at more (length nodes)).kind ≡ Branch → ⊥
  whole_not kind e = other (sym (ap (λ (x : Node). x.kind) (node_last nodes n) ∙ kind) ∙ e)
    where
      other : Whole ≡ Branch → ⊥
      other e = cc

  pub steady_whole : n.kind ≡ Whole → (now : ℕ) (lesser : ℤ) → now ≤ best → lesser ≤ℤ pos now → (lesser ≡ low) ⊎ (lesser ≡ pos now)
      → IsSteady version night start more goal left now lesser
  steady_whole kind now lesser less within which = record {
    keep = all_keep now less (λ e. absurd (whole_not kind e));
    least = ⊎_elim
        (λ same. ⊎_elim
        (λ e. inl (omega (arith, ints, same, e, less, within)))
        (λ q. inr (subst (λ (x : ℤ). IsPassed version night start more goal left x) (sym same)
        (subst (λ (l : List Pending). IsPassed version night start more goal l low) (append-nil left) (passed_on [] (λ s i. absurd i) low q))))
        S.least)
        (λ e. inl e)
        which;
  }

-- its bound isn't below the floor, so neither are those of its children
pub opens_floor : (version : Version) (night : Night) (start : List Block) (stock : List (List Case)) (floor : ℤ) (nodes : List Node) (path : List Block) (left : List Pending)
    (t : Pending) (best : ℕ) (low : ℤ) → IsWalk version night start stock floor nodes path (left ++ t ∷ []) best low → (own : List Case)
    → OpensAbove version night (goal_of path t.child) own best t.child.bound → OpensAbove version night (goal_of path t.child) own best floor
opens_floor version night start stock floor nodes path left t best low W own rise = λ c o.
    let least = rise c o in
    let high = (W.pending t (in_right left (t ∷ []) t (inl refl))).above in
    omega (arith, ints, least, high)
