-- A walk whose next child has become a node.
use Rattle.std.specs.Prelude.{AllPairs, IsSome, Some, None, min, map, ℤ, pos, ◌<ℤ◌, ◌≤ℤ◌}
use Rattle.std.proofs.Common.{◌≡◌, ◌≢◌, inl, inr, ⊎_elim, ℕ, suc, ◌+◌, ◌-◌, ◌<◌, ◌≤◌, List, [], ◌∷◌, ◌++◌, length, take, get_or, refl, sym, subst, ap, ◌∙◌, arith}
use Rattle.std.proofs.lemmas.Int.{ints}
use Rattle.std.proofs.lemmas.Bool.{cases_lt}
use Rattle.std.proofs.lemmas.Option.{slice_get-get_or}
use Rattle.std.proofs.lemmas.List.{append-nil, length-append, length-map, length-take, length-take-le, take-append-le, get_or_append_left, get_or-map}
use Rattle.std.proofs.Math.Nat.{min-le_right, le-min}
use Rattle.std.proofs.Math.Seq.{get_or-append_seam, take-append_seam, take-length}
use Rattle.shunt_lists.specs.defs.Members.{In}
use Rattle.shunt_lists.proofs.Members.{in_left, in_right, in_cases, in_map, in_place, of_one, place_of}
use Rattle.shunt_base.specs.declared.duals.Case.{Case}
use Rattle.shunt_instance.specs.defs.Instance.{Night, IsInstance}
use Rattle.shunt_blocks.specs.declared.records.Block.{Block}
use Rattle.shunt_blocks.specs.defs.Lists.{RunsThrough, placed, total_cost}
use Rattle.shunt_choices.specs.defs.Paths.{masks_of, next_of}
use Rattle.shunt_choices.specs.defs.Choices.{Choice as PathChoice, IsChoiceAt, longer_by}
use Rattle.shunt_blocks.specs.defs.Pins.{opening_cost}
use Rattle.shunt_proof.specs.declared.records.Choice.{Choice}
use Rattle.shunt_proof.specs.declared.records.NodeKind.{NodeKind}
use Rattle.shunt_proof.specs.declared.records.NodeKind.TheVariants.{Branch, Whole}
use Rattle.shunt_proof.specs.declared.records.Node.{Node}
use Rattle.shunt_proof.specs.declared.records.Version.{Version}
use Rattle.shunt_proof.specs.defs.Nodes.{node_at, FitsNode, AreNodes, CanFollow, Follows, StandsAfter}
use Rattle.shunt_proof.specs.defs.Trees.{depth_at, nearest, choice_from, longer_with, path_at, cases_or, duals_at, best_with, best_before}
use Rattle.shunt_proof.specs.defs.Versions.{HoldIn, IsStepBoundIn}
use Rattle.shunt_proof.specs.defs.Proves.{IsPlaced, IsListed, ShowsIn}
use Rattle.shunt_proof.specs.defs.Accepted.{IsLeanIn, AreLeanIn}
use Rattle.shunt_proof.proofs.Depths.{nearest_here, nearest_before, nearest_low, root_path, root_duals}
use Rattle.shunt_proof.proofs.Fronts.{node_front, nearest_front, duals_front, path_front, depth_front, node_last}
use Rattle.shunt_proof.proofs.LongerLists.{one_more, placed_front, lean_more, listed_more}
use Rattle.shunt_proof.proofs.Ancestors.{path_size, front_path}
use Rattle.shunt_proof.proofs.Few.{CountLaws}
use Rattle.shunt_proof.proofs.Noted.{last_path, last_duals, last_best, last_leans, last_placed, known_listed}
use Rattle.shunt_search.specs.declared.child.Child.{Child}
use Rattle.shunt_search.specs.declared.walk_stack.Pending.{Pending}
use Rattle.shunt_search.specs.defs.Yards.{choice_of, more_by, choices_in, IsNextBlock, AreChildren}
use Rattle.shunt_search.specs.defs.WalkStates.{kept, goal_of, cases_in, IsPending, IsApart, IsKnown, IsWalked, OpensAbove, AddsChildren, IsWalk}
use Rattle.shunt_search.proofs.Offered.{longer_is, of_choices}
use Rattle.shunt_search.proofs.YardChanges.{take_less}
use Rattle.shunt_search.proofs.Walked.{shows_turn, front_pairs, pairs_append}
use Rattle.shunt_proof.proofs.Locally.{step_lower as lower}
use Rattle.shunt_proof.proofs.Told.{no_nodes as none_formed}

-- a bound of paths and cases that are called otherwise
same_step : (version : Version) (night : Night) (path path_too longer longer_too : List Block) (cases cases_too : List Case) (bound : ℤ) → path_too ≡ path → longer_too ≡ longer
    → cases_too ≡ cases
    → IsStepBoundIn version night path longer cases bound → IsStepBoundIn version night path_too longer_too cases_too bound
same_step version night path path_too longer longer_too cases cases_too bound p l c h =
    subst (λ (x : List Block). IsStepBoundIn version night x longer_too cases_too bound) (sym p)
    (subst (λ (x : List Block). IsStepBoundIn version night path x cases_too bound) (sym l)
    (subst (λ (x : List Case). IsStepBoundIn version night path longer x bound) (sym c) h))

-- ---- the children that were added

-- each is one of the children, and each of the children is there
added_child : (added : List Pending) (children : List Child) → map (λ p. p.child) added ≡ children → (p : Pending) → In p added → In p.child children
added_child added children e p i = subst (λ (l : List Child). In p.child l) e (in_map (λ (q : Pending). q.child) added p i)

of_children : (added : List Pending) (c : Child) → In c (map (λ p. p.child) added) → (p : Pending) × In p added × (p.child ≡ c)
of_children [] c i = absurd i
of_children (p ∷ added) c (inl e) = (p, inl refl, sym e)
of_children (p ∷ added) c (inr i) = let r = of_children added c i in (r.0, inr r.1, r.2)

-- the choices of the children differ, and so do those that were added
module _ (version : Version) (night : Night) (path : List Block) (cases : List Case) (best : ℕ) (children : List Child) (C : AreChildren version night path cases best children)
    (added : List Pending) (each : map (λ p. p.child) added ≡ children) where
  keeps_all : (p : Pending) → In p added → kept p.child ≡ length path
  keeps_all p i = let id = (C.each p.child (added_child added children each p i)).next.id in omega (arith, id)

  its_choice : (k : ℕ) (d : Pending) → k < length added → get_or (choices_in children) k (choice_of d.child.block) ≡ choice_of (get_or added k d).child.block
  its_choice k d lt =
      let long = length-map added (λ (p : Pending). p.child) in
      let same : length (map (λ (p : Pending). p.child) added) ≡ length children = ap (λ (l : List Child). length l) each in
      get_or-map (λ (x : Child). choice_of x.block) children k d.child (choice_of d.child.block) (omega (arith, lt, long, same))
      ∙ ap (λ (l : List Child). choice_of (get_or l k d.child).block) (sym each)
      ∙ ap (λ (x : Child). choice_of x.block) (get_or-map (λ (p : Pending). p.child) added k d d.child lt)

  added_apart : AllPairs IsApart added
  added_apart i j d before within =
      let i_in : i < length added = omega (arith, before, within) in
      let one = keeps_all (get_or added i d) (in_place added i d i_in) in
      let two = keeps_all (get_or added j d) (in_place added j d within) in
      let long = length-map children (λ (x : Child). choice_of x.block) in
      let also = length-map added (λ (p : Pending). p.child) in
      let same : length (map (λ (p : Pending). p.child) added) ≡ length children = ap (λ (l : List Child). length l) each in (
        omega (arith, one, two),
        λ e same_choice. C.once i j (choice_of d.child.block) before (omega (arith, within, long, also, same))
            (its_choice i d i_in ∙ same_choice ∙ sym (its_choice j d within)),
      )

module _ (version : Version) (night : Night) (formed_night : IsInstance night) (laws : CountLaws) (start : List Block) (stock : List (List Case)) (floor : ℤ) (nodes : List Node)
    (path : List Block) (left : List Pending) (t : Pending) (best : ℕ) (low : ℤ) (W : IsWalk version night start stock floor nodes path (left ++ t ∷ []) best low) (n : Node)
    (c : Choice) (depth : length start + n.depth ≡ kept t.child + 1) (choice : n.choice ≡ Some c) (is : choice_from night (take (kept t.child) path) c ≡ choice_of t.child.block)
    (fits : FitsNode night n) (below : t.child.bound <ℤ pos best) where
  abbrev Q : List Block
  Q = take (kept t.child) path

  abbrev goal : List Block
  goal = goal_of path t.child

  abbrev more : List Node
  more = nodes ++ n ∷ []

  p : IsPending version night start stock floor nodes path t
  p = W.pending t (in_right left (t ∷ []) t (inl refl))

  -- ---- where the child is

  under : n.depth ≡ depth_at nodes t.parent + 1
  under = let long = p.long in omega (arith, depth, long)

  kept_is : length Q ≡ kept t.child
  kept_is = let id = p.next.id in omega (arith, id)

  kept_in : kept t.child ≤ length path
  kept_in = let long = length-take (kept t.child) path in let le = min-le_right (kept t.child) (length path) in omega (arith, kept_is, long, le)

  last_size : length path ≡ length start + depth_at nodes (length nodes - 1)
  last_size = ap (λ (l : List Block). length l) W.here ∙ path_size night nodes W.formed start (length nodes - 1) (let some = W.some in omega (arith, some))

  no_deeper : depth_at nodes t.parent ≤ depth_at nodes (length nodes - 1)
  no_deeper = let long = p.long in omega (arith, long, kept_in, last_size)

  -- where it is as deep as the last node would be above it, that is its parent
  last_is : depth_at nodes (length nodes - 1) ≡ depth_at nodes t.parent → length nodes - 1 ≡ t.parent
  last_is e =
      let here = nearest_here nodes (depth_at nodes t.parent) (length nodes - 1) e in
      let all : suc (length nodes - 1) ≡ length nodes = (let some = W.some in omega (arith, some)) in
      sym here ∙ ap (λ k. nearest nodes (depth_at nodes t.parent) k) all ∙ p.last

  follows : Follows (node_at nodes (length nodes - 1)) n
  follows = record {
    some = omega (arith, under);
    most = omega (arith, under, no_deeper);
    branch = λ e. subst (λ k. (node_at nodes k).kind ≡ Branch) (sym (last_is (omega (arith, e, under)))) p.branch;
  }

  pub can : CanFollow nodes n
  can = subst (λ o. StandsAfter o n) (sym (slice_get-get_or nodes (length nodes - 1) _ (let some = W.some in omega (arith, some)))) follows

  formed : AreNodes night more
  formed = one_more night nodes n W.formed fits can

  size : length more ≡ length nodes + 1
  size = length-append nodes (n ∷ [])

  up : Q ≡ take (length start + (n.depth - 1)) (path_at night start nodes (length nodes - 1))
  up = let e : kept t.child ≡ length start + (n.depth - 1) = omega (arith, depth, under) in
      ap (λ k. take k path) e ∙ ap (λ (l : List Block). take (length start + (n.depth - 1)) l) W.here

  to_goal : longer_by Q (choice_from night Q c) ≡ goal
  to_goal = ap (λ (k : PathChoice). longer_by Q k) is ∙ longer_is Q t.child.block p.next.id

  pub new_path : path_at night start more (length nodes) ≡ goal
  new_path = last_path night nodes n formed W.some start
      ∙ ap (λ o. longer_with night (take (length start + (n.depth - 1)) (path_at night start nodes (length nodes - 1))) o) choice
      ∙ ap (λ (l : List Block). longer_by l (choice_from night l c)) (sym up)
      ∙ to_goal

  pub new_size : length goal ≡ length start + n.depth
  new_size = let long = length-append Q (t.child.block ∷ []) in omega (arith, long, kept_is, depth)

  -- ---- it is placed and lean

  new_placed : IsPlaced night start more (length nodes)
  new_placed = last_placed night start nodes n c Q formed W.some choice up
      (subst (λ (k : PathChoice). IsChoiceAt night Q k) (sym is) p.next.choice)
      (subst (λ (l : List Block). RunsThrough night (placed l)) (sym to_goal) p.through)
      (λ j lt e. p.new j lt (e ∙ to_goal))

  all_placed : (k : ℕ) → 1 ≤ k → k < length more → IsPlaced night start more k
  all_placed k some lt = ⊎_elim
      (λ before. (placed_front nodes (n ∷ []) night start k before).0 (W.placed k some before))
      (λ past. subst (λ j. IsPlaced night start more j) (let e : length nodes ≡ k = omega (arith, past, lt, size) in e) new_placed)
      (cases_lt k (length nodes))

  pub above_is : nearest nodes (n.depth - 1) (length nodes) ≡ t.parent
  above_is = let e : n.depth - 1 ≡ depth_at nodes t.parent = omega (arith, under) in ap (λ d. nearest nodes d (length nodes)) e ∙ p.last

  above_cases : duals_at nodes (nearest nodes (n.depth - 1) (length nodes)) ≡ duals_at nodes t.parent
  above_cases = ap (λ k. duals_at nodes k) above_is

  new_lean : IsLeanIn version night start more (length nodes)
  new_lean = last_leans version night start nodes n t.child.bound formed W.some
      (subst (λ (l : List Block). IsStepBoundIn version night l (path_at night start more (length nodes))
      (duals_at nodes (nearest nodes (n.depth - 1) (length nodes))) t.child.bound) (p.here ∙ up)
      (subst (λ (d : List Case). IsStepBoundIn version night (path_at night start nodes t.parent) (path_at night start more (length nodes)) d t.child.bound) (sym above_cases)
      (subst (λ (l : List Block). IsStepBoundIn version night (path_at night start nodes t.parent) l (duals_at nodes t.parent) t.child.bound) (sym new_path) p.bound)))
      (let cheap = W.cheap in omega (arith, ints, cheap, below))

  all_lean : AreLeanIn version night start more
  all_lean k some lt = ⊎_elim
      (λ before. (lean_more nodes (n ∷ []) night start version k before).0 (W.lean k some before))
      (λ past. subst (λ j. IsLeanIn version night start more j) (let e : length nodes ≡ k = omega (arith, past, lt, size) in e) new_lean)
      (cases_lt k (length nodes))

  -- ---- the other children of the stack

  pub apart_from : (s : Pending) → In s left → IsApart s t
  apart_from s i =
      let at = place_of left s s i in
      let lt = at.1 in
      let long = length-append left (t ∷ []) in
      let pair = W.apart at.0 (length left) s lt (omega (arith, long)) in
      subst (λ (x : Pending). IsApart x t) (get_or_append_left left (t ∷ []) s at.0 lt ∙ at.2)
      (subst (λ (x : Pending). IsApart (get_or (left ++ t ∷ []) at.0 s) x) (get_or-append_seam left t [] s) pair)

  -- what they keep of the path is kept of the new path
  same_front : (s : Pending) → kept s.child ≤ kept t.child → take (kept s.child) goal ≡ take (kept s.child) path
  same_front s le = take-append-le (kept s.child) Q (t.child.block ∷ []) (omega (arith, le, kept_is)) ∙ take_less (kept s.child) (kept t.child) path le

  pub same_goal : (s : Pending) → kept s.child ≤ kept t.child → goal_of goal s.child ≡ goal_of path s.child
  same_goal s le = ap (λ (l : List Block). more_by l s.child.block) (same_front s le)

  other_goal : (s : Pending) → IsApart s t → goal ≢ goal_of path s.child
  other_goal s a e =
      let one = length-append Q (t.child.block ∷ []) in
      let le = a.0 in
      let its : length (take (kept s.child) path) ≡ kept s.child = length-take-le (kept s.child) path (omega (arith, le, kept_in)) in
      let two = length-append (take (kept s.child) path) (s.child.block ∷ []) in
      let long : length goal ≡ length (goal_of path s.child) = ap (λ (l : List Block). length l) e in
      let same : kept s.child ≡ kept t.child = omega (arith, one, two, its, long, kept_is) in
      let last : get_or goal (kept t.child) t.child.block ≡ t.child.block = ap (λ k. get_or goal k t.child.block) (sym kept_is)
      ∙ get_or-append_seam Q t.child.block [] t.child.block in
      let other : get_or (goal_of path s.child) (kept t.child) t.child.block ≡ s.child.block = ap (λ k. get_or (goal_of path s.child) k t.child.block) (sym same ∙ sym its)
      ∙ get_or-append_seam (take (kept s.child) path) s.child.block [] t.child.block in
      a.1 same (ap choice_of (sym other ∙ ap (λ (l : List Block). get_or l (kept t.child) t.child.block) (sym e) ∙ last))

  still_pending : (s : Pending) → In s left → IsPending version night start stock floor more goal s
  still_pending s i =
      let q = W.pending s (in_left left (t ∷ []) s i) in
      let a = apart_from s i in
      let le = a.0 in
      let lt = q.there in
      let its = q.long in
      record {
        there = omega (arith, lt, size);
        branch = ap (λ (x : Node). x.kind) (node_front nodes (n ∷ []) s.parent q.there) ∙ q.branch;
        here = path_front nodes (n ∷ []) night start s.parent q.there ∙ q.here ∙ sym (same_front s le);
        long = its ∙ ap (λ d. length start + d) (sym (depth_front nodes (n ∷ []) s.parent q.there));
        last =
            let other : depth_at more (length nodes) ≡ depth_at more s.parent → ⊥ = (λ e. let here = ap (λ (x : Node). x.depth) (node_last nodes n) in let there = depth_front nodes
            (n ∷ []) s.parent q.there in absurd (omega (arith, e, here, there, depth, its, le))) in
            ap (λ k. nearest more (depth_at more s.parent) k) size_suc ∙ nearest_before more (depth_at more s.parent) (length nodes) other
            ∙ nearest_front nodes (n ∷ []) (depth_at more s.parent) (length nodes) (omega arith)
            ∙ ap (λ d. nearest nodes d (length nodes)) (depth_front nodes (n ∷ []) s.parent q.there) ∙ q.last;
        next = subst (λ (l : List Block). IsNextBlock night l s.child.block) (sym (same_front s le)) q.next;
        through = subst (λ (l : List Block). RunsThrough night (placed l)) (sym (same_goal s le)) q.through;
        place = q.place;
        cases = q.cases ∙ sym (duals_front nodes (n ∷ []) s.parent q.there);
        bound = same_step version night (path_at night start nodes s.parent) (path_at night start more s.parent) (goal_of path s.child) (goal_of goal s.child)
            (duals_at nodes s.parent) (duals_at more s.parent) s.child.bound
            (path_front nodes (n ∷ []) night start s.parent q.there) (same_goal s le) (duals_front nodes (n ∷ []) s.parent q.there) q.bound;
        above = q.above;
        new = λ j there e. ⊎_elim
            (λ before. q.new j before (sym (path_front nodes (n ∷ []) night start j before) ∙ e ∙ same_goal s le))
            (λ past. other_goal s a (sym (ap (λ k. path_at night start more k) (let is_last : j ≡ length nodes = omega (arith, past, there, size) in is_last) ∙ new_path) ∙ e
            ∙ same_goal s le))
            (cases_lt j (length nodes));
      }
    where
      size_suc : length more ≡ suc (length nodes)
      size_suc = omega (arith, size)

  -- ---- what the nodes list

  now_listed : (k : ℕ) (d : PathChoice) → k < length nodes → goal ≡ longer_by (path_at night start nodes k) d → IsListed night start more k d
  now_listed k d lt e = known_listed laws night formed_night start more formed all_placed k (length nodes) d (omega (arith, lt, size)) (omega (arith, size))
      (new_path ∙ e ∙ ap (λ (l : List Block). longer_by l d) (sym (path_front nodes (n ∷ []) night start k lt)))

  still_known : (added : List Pending) (k : ℕ) (d : PathChoice) → k < length nodes → IsKnown night start nodes path (left ++ t ∷ []) k d
      → IsKnown night start more goal (left ++ added) k d
  still_known added k d lt (inl listed) = inl (listed_more nodes (n ∷ []) night start k d lt listed)
  still_known added k d lt (inr known) = ⊎_elim
      (λ i. inr (
        known.0,
        in_left left added known.0 i,
        known.2,
        same_goal known.0 (apart_from known.0 i).0 ∙ known.3
            ∙ ap (λ (l : List Block). longer_by l d) (sym (path_front nodes (n ∷ []) night start k lt)),
      ))
      (λ i. inl (now_listed k d lt (ap (λ (x : Pending). goal_of path x.child) (sym (of_one t known.0 i)) ∙ known.3)))
      (in_cases left (t ∷ []) known.0 known.1)

  -- the older nodes show what they did, or less
  still_shows : (added : List Pending) (now : ℤ) → now ≤ℤ low → (k : ℕ) → k < length nodes
      → ShowsIn version night (path_at night start more k) (duals_at more k) (node_at more k).kind (IsKnown night start more goal (left ++ added) k) now
  still_shows added now le k lt =
      subst (λ (x : Node). ShowsIn version night (path_at night start more k) (duals_at more k) x.kind (IsKnown night start more goal (left ++ added) k) now)
      (sym (node_front nodes (n ∷ []) k lt))
      (subst (λ (d : List Case). ShowsIn version night (path_at night start more k) d (node_at nodes k).kind (IsKnown night start more goal (left ++ added) k) now)
      (sym (duals_front nodes (n ∷ []) k lt))
      (subst (λ (l : List Block). ShowsIn version night l (duals_at nodes k) (node_at nodes k).kind (IsKnown night start more goal (left ++ added) k) now)
      (sym (path_front nodes (n ∷ []) night start k lt))
      (shows_turn version night (path_at night start nodes k) (duals_at nodes k) (node_at nodes k).kind (IsKnown night start nodes path (left ++ t ∷ []) k)
      (IsKnown night start more goal (left ++ added) k) low now le
      (λ branch d known. inr (still_known added k d lt known)) (W.shows k lt))))

  new_depth : depth_at more (length nodes) ≡ n.depth
  new_depth = ap (λ (x : Node). x.depth) (node_last nodes n)

  all_more : length more ≡ suc (length nodes)
  all_more = omega (arith, size)

  last_more : length more - 1 ≡ length nodes
  last_more = omega (arith, size)

  new_here : goal ≡ path_at night start more (length more - 1)
  new_here = sym (ap (λ k. path_at night start more k) last_more ∙ new_path)

  -- of each node, where it holds of the older ones and of the new one
  each_node : (P : ℕ → Type 0) → ((k : ℕ) → k < length nodes → P k) → P (length nodes) → (k : ℕ) → k < length more → P k
  each_node P older new k lt = ⊎_elim (λ before. older k before) (λ past. subst P (let e : length nodes ≡ k = omega (arith, past, lt, size) in e) new) (cases_lt k (length nodes))

  still_walked : (k : ℕ) → k < length nodes → IsWalked more k
  still_walked k lt = ⊎_elim
      (λ w. inl (ap (λ (x : Node). x.kind) (node_front nodes (n ∷ []) k lt) ∙ w))
      (λ w. inr (ap (λ (x : Node). x.kind) (node_front nodes (n ∷ []) k lt) ∙ w))
      (W.kinds k lt)

  new_kind : (k : NodeKind) → n.kind ≡ k → (node_at more (length nodes)).kind ≡ k
  new_kind k e = ap (λ (x : Node). x.kind) (node_last nodes n) ∙ e

  new_best : (k : NodeKind) → n.kind ≡ k → best_before night start more (length more) ≡ best_with k (total_cost night goal) (best_before night start nodes (length nodes))
  new_best k e = ap (λ m. best_before night start more m) all_more ∙ last_best night start nodes n
      ∙ ap (λ (l : List Block). best_with n.kind (total_cost night l) (best_before night start nodes (length nodes))) new_path
      ∙ ap (λ kd. best_with kd (total_cost night goal) (best_before night start nodes (length nodes))) e

  -- ---- the new node is a branch

  module _ (kind : n.kind ≡ Branch) (place : ℕ) (in_stock : place < length stock) (own : cases_or n.duals (cases_in stock t.cases) ≡ cases_in stock place) (waiting : List Pending)
      (adds : AddsChildren version night stock best goal (length nodes) place left waiting) (rise : OpensAbove version night goal (cases_in stock place) best floor)
      (holds : HoldIn version night goal (cases_in stock place)) (unfinished : IsSome (next_of (masks_of night goal))) where
    abbrev cases : List Case
    cases = cases_in stock place

    abbrev children : List Child
    children = adds.children

    abbrev added : List Pending
    added = adds.adds.added

    C : AreChildren version night goal cases best children
    C = adds.are

    pub new_duals : duals_at more (length nodes) ≡ cases
    new_duals = last_duals night nodes n formed W.some ∙ ap (λ (d : List Case). cases_or n.duals d) (above_cases ∙ sym p.cases) ∙ own

    pub keeps_goal : (s : Pending) → In s added → kept s.child ≡ length goal
    keeps_goal s i = keeps_all version night goal cases best children C added adds.adds.each s i

    front_is : (s : Pending) → In s added → take (kept s.child) goal ≡ goal
    front_is s i = ap (λ k. take k goal) (keeps_goal s i) ∙ take-length goal

    goal_is : (s : Pending) → In s added → goal_of goal s.child ≡ more_by goal s.child.block
    goal_is s i = ap (λ (l : List Block). more_by l s.child.block) (front_is s i)

    -- a node with a child's path would stand below an earlier node with the new node's path
    not_there : (b : Block) (j : ℕ) → j < length nodes → path_at night start nodes j ≢ more_by goal b
    not_there b j lt e =
        let long : length (path_at night start nodes j) ≡ length goal + 1 = ap (λ (l : List Block). length l) e ∙ length-append goal (b ∷ []) in
        let its = path_size night nodes W.formed start j lt in
        let deep : depth_at nodes j ≡ n.depth + 1 = omega (arith, long, its, new_size) in
        let up_there = front_path night nodes W.formed start n.depth j lt (omega (arith, deep)) in
        let other : depth_at nodes j ≡ n.depth → ⊥ = (λ d. absurd (omega (arith, d, deep))) in
        let before = nearest_before nodes n.depth j other in
        let low = nearest_low nodes n.depth j in
        let there : nearest nodes n.depth (suc j) < length nodes = omega (arith, before, low, lt) in
        let front : take (length start + n.depth) (more_by goal b) ≡ goal = ap (λ k. take k (more_by goal b)) (sym new_size) ∙ take-append_seam goal (b ∷ []) in
        p.new (nearest nodes n.depth (suc j)) there (up_there ∙ ap (λ (l : List Block). take (length start + n.depth) l) e ∙ front)

    now_pending : (s : Pending) → In s added → IsPending version night start stock floor more goal s
    now_pending s i =
        let o = C.each s.child (added_child added children adds.adds.each s i) in
        let of = adds.adds.parents s i in
        let up = of.0 in
        record {
          there = omega (arith, size, up);
          branch = ap (λ k. (node_at more k).kind) up ∙ new_kind Branch kind;
          here = ap (λ k. path_at night start more k) up ∙ new_path ∙ sym (front_is s i);
          long = keeps_goal s i ∙ new_size ∙ ap (λ d. length start + d) (sym (ap (λ k. depth_at more k) up ∙ new_depth));
          last = ap (λ j. nearest more (depth_at more j) (length more)) up ∙ ap (λ k. nearest more (depth_at more (length nodes)) k) all_more
              ∙ nearest_here more (depth_at more (length nodes)) (length nodes) refl ∙ sym up;
          next = subst (λ (l : List Block). IsNextBlock night l s.child.block) (sym (front_is s i)) o.next;
          through = subst (λ (l : List Block). RunsThrough night (placed l)) (sym (goal_is s i)) o.through;
          place = subst (λ (k : ℕ). k < length stock) (sym of.1) in_stock;
          cases = ap (λ k. cases_in stock k) of.1 ∙ sym (ap (λ k. duals_at more k) up ∙ new_duals);
          bound = same_step version night goal (path_at night start more s.parent) (more_by goal s.child.block) (goal_of goal s.child) cases (duals_at more s.parent) s.child.bound
              (ap (λ k. path_at night start more k) up ∙ new_path) (goal_is s i) (ap (λ k. duals_at more k) up ∙ new_duals) o.is;
          above = rise s.child o;
          new = λ j there e. ⊎_elim
              (λ before. not_there s.child.block j before (sym (path_front nodes (n ∷ []) night start j before) ∙ e ∙ goal_is s i))
              (λ past.
              let is_last : length nodes ≡ j = omega (arith, past, there, size) in
              let same_path : goal ≡ more_by goal s.child.block = sym new_path ∙ ap (λ k. path_at night start more k) is_last ∙ e ∙ goal_is s i in
              let long : length goal ≡ length goal + 1 = ap (λ (l : List Block). length l) same_path ∙ length-append goal (s.child.block ∷ []) in
              absurd (omega (arith, long)))
              (cases_lt j (length nodes));
        }

    all_apart : AllPairs IsApart (left ++ added)
    all_apart = pairs_append IsApart left added (front_pairs IsApart left (t ∷ []) W.apart) (added_apart version night goal cases best children C added adds.adds.each)
        (λ s x i j.
        let a = apart_from s i in
        let le = a.0 in
        let its = keeps_goal x j in
        let deeper : kept s.child < kept x.child = omega (arith, le, its, new_size, depth) in
        (omega (arith, deeper), λ e. absurd (omega (arith, e, deeper))))

    -- a choice that was added is still to be walked to
    now_known : (d : PathChoice) (c : Child) → In c children → d ≡ choice_of c.block → IsKnown night start more goal (left ++ added) (length nodes) d
    now_known d c i e =
        let r = of_children added c (subst (λ (l : List Child). In c l) (sym adds.adds.each) i) in
        let its : choice_of r.0.child.block ≡ d = ap (λ (x : Child). choice_of x.block) r.2 ∙ sym e in
        let o = C.each r.0.child (added_child added children adds.adds.each r.0 r.1) in
        inr (
          r.0,
          in_right left added r.0 r.1,
          (adds.adds.parents r.0 r.1).0,
          goal_is r.0 r.1 ∙ sym (longer_is goal r.0.child.block o.next.id) ∙ ap (λ (k : PathChoice). longer_by goal k) its ∙ ap (λ (l : List Block). longer_by l d) (sym new_path),
        )

    new_shows : ShowsIn version night (path_at night start more (length nodes)) (duals_at more (length nodes)) (node_at more (length nodes)).kind
        (IsKnown night start more goal (left ++ added) (length nodes)) low
    new_shows =
        subst (λ kd. ShowsIn version night (path_at night start more (length nodes)) (duals_at more (length nodes)) kd
        (IsKnown night start more goal (left ++ added) (length nodes)) low) (sym (new_kind Branch kind))
        (subst (λ (d : List Case). ShowsIn version night (path_at night start more (length nodes)) d Branch (IsKnown night start more goal (left ++ added) (length nodes)) low)
        (sym new_duals)
        (subst (λ (l : List Block). ShowsIn version night l cases Branch (IsKnown night start more goal (left ++ added) (length nodes)) low) (sym new_path) (record {
          unfinished = unfinished;
          holds = holds;
          each = λ d at through. ⊎_elim
              (λ closed. inl (lower version night goal (longer_by goal d) cases (pos best) low W.within (closed through)))
              (λ i. let r = of_choices version night goal cases best children d i in inr (now_known d r.0 r.1 r.2))
              (C.others d at);
        })))

    pub walk_branch : IsWalk version night start stock floor more goal waiting best low
    walk_branch = subst (λ (l : List Pending). IsWalk version night start stock floor more goal l best low) (sym adds.adds.is) (record {
      formed = formed;
      some = omega (arith, size);
      here = new_here;
      kinds = each_node (IsWalked more) still_walked (inl (new_kind Branch kind));
      placed = all_placed;
      lean = all_lean;
      pending = λ s i. ⊎_elim (λ l. still_pending s l) (λ r. now_pending s r) (in_cases left added s i);
      apart = all_apart;
      shows = each_node (λ k. ShowsIn version night (path_at night start more k) (duals_at more k) (node_at more k).kind (IsKnown night start more goal (left ++ added) k) low)
          (still_shows added low (omega (arith, ints))) new_shows;
      within = W.within;
      cheap = let cheap = W.cheap in let e = new_best Branch kind in omega (arith, cheap, e);
    })

  -- ---- the new node is whole

  module _ (kind : n.kind ≡ Whole) (now : ℕ) (lesser : ℤ) (less : now ≤ best) (cost : now ≤ total_cost night goal) (falls : lesser ≤ℤ low) (within : lesser ≤ℤ pos now)
      (covers : next_of (masks_of night goal) ≡ None) where
    whole_shows : ShowsIn version night (path_at night start more (length nodes)) (duals_at more (length nodes)) (node_at more (length nodes)).kind
        (IsKnown night start more goal left (length nodes)) lesser
    whole_shows =
        subst (λ kd. ShowsIn version night (path_at night start more (length nodes)) (duals_at more (length nodes)) kd (IsKnown night start more goal left (length nodes)) lesser)
        (sym (new_kind Whole kind))
        (subst (λ (l : List Block). ShowsIn version night l (duals_at more (length nodes)) Whole (IsKnown night start more goal left (length nodes)) lesser) (sym new_path)
        (record {
          covers = covers;
          cost = omega (arith, ints, cost, within);
        }))

    older_shows : (k : ℕ) → k < length nodes → ShowsIn version night (path_at night start more k) (duals_at more k) (node_at more k).kind
        (IsKnown night start more goal left k) lesser
    older_shows k lt = subst (λ (l : List Pending). ShowsIn version night (path_at night start more k) (duals_at more k) (node_at more k).kind
        (IsKnown night start more goal l k) lesser) (append-nil left) (still_shows [] lesser falls k lt)

    pub walk_whole : IsWalk version night start stock floor more goal left now lesser
    walk_whole = record {
      formed = formed;
      some = omega (arith, size);
      here = new_here;
      kinds = each_node (IsWalked more) still_walked (inr (new_kind Whole kind));
      placed = all_placed;
      lean = all_lean;
      pending = still_pending;
      apart = front_pairs IsApart left (t ∷ []) W.apart;
      shows = each_node (λ k. ShowsIn version night (path_at night start more k) (duals_at more k) (node_at more k).kind (IsKnown night start more goal left k) lesser) older_shows
          whole_shows;
      within = within;
      cheap =
          let cheap = W.cheap in
          let e = new_best Whole kind in
          let le : now ≤ min (best_before night start nodes (length nodes)) (total_cost night goal) = le-min (omega (arith, less, cheap)) cost in
          subst (λ m. now ≤ m) (sym e) le;
    }

-- ---- the root

module _ (version : Version) (night : Night) (start : List Block) (stock : List (List Case)) (floor : ℤ) (n : Node) (fits : FitsNode night n) (depth : n.depth ≡ 0) where
  abbrev alone : List Node
  alone = n ∷ []

  alone_formed : AreNodes night alone
  alone_formed = one_more night [] n (none_formed night) fits depth

  root_at : path_at night start alone 0 ≡ start
  root_at = root_path night alone alone_formed start (omega arith)

  only_root : (P : ℕ → Type 0) → P 0 → (k : ℕ) → k < 1 → P k
  only_root P h k lt = subst P (let e : 0 ≡ k = omega (arith, lt) in e) h

  first_best : (k : NodeKind) → n.kind ≡ k → best_before night start alone 1 ≡ best_with k (total_cost night start) (opening_cost night start)
  first_best k e = ap (λ kd. best_with kd (total_cost night (path_at night start alone 0)) (opening_cost night start)) e
      ∙ ap (λ (l : List Block). best_with k (total_cost night l) (opening_cost night start)) root_at

  module _ (best : ℕ) (low : ℤ) (opening : best ≤ opening_cost night start) (within : low ≤ℤ pos best) (kind : n.kind ≡ Branch) (place : ℕ) (in_stock : place < length stock)
      (own : cases_or n.duals [] ≡ cases_in stock place) (waiting : List Pending) (adds : AddsChildren version night stock best start 0 place [] waiting)
      (above : OpensAbove version night start (cases_in stock place) best floor) (holds : HoldIn version night start (cases_in stock place))
      (unfinished : IsSome (next_of (masks_of night start))) where
    abbrev first_cases : List Case
    first_cases = cases_in stock place

    abbrev first_children : List Child
    first_children = adds.children

    abbrev first_added : List Pending
    first_added = adds.adds.added

    D : AreChildren version night start first_cases best first_children
    D = adds.are

    alone_duals : duals_at alone 0 ≡ first_cases
    alone_duals = root_duals night alone alone_formed (omega arith) ∙ own

    keeps_start : (s : Pending) → In s first_added → kept s.child ≡ length start
    keeps_start s i = keeps_all version night start first_cases best first_children D first_added adds.adds.each s i

    start_is : (s : Pending) → In s first_added → take (kept s.child) start ≡ start
    start_is s i = ap (λ k. take k start) (keeps_start s i) ∙ take-length start

    below_is : (s : Pending) → In s first_added → goal_of start s.child ≡ more_by start s.child.block
    below_is s i = ap (λ (l : List Block). more_by l s.child.block) (start_is s i)

    first_pending : (s : Pending) → In s first_added → IsPending version night start stock floor alone start s
    first_pending s i =
        let o = D.each s.child (added_child first_added first_children adds.adds.each s i) in
        let of = adds.adds.parents s i in
        let up = of.0 in
        record {
          there = omega (arith, up);
          branch = ap (λ k. (node_at alone k).kind) up ∙ kind;
          here = ap (λ k. path_at night start alone k) up ∙ root_at ∙ sym (start_is s i);
          long = let its = keeps_start s i in let e : depth_at alone s.parent ≡ n.depth = ap (λ k. depth_at alone k) up in omega (arith, its, depth, e);
          last = ap (λ j. nearest alone (depth_at alone j) 1) up ∙ nearest_here alone (depth_at alone 0) 0 refl ∙ sym up;
          next = subst (λ (l : List Block). IsNextBlock night l s.child.block) (sym (start_is s i)) o.next;
          through = subst (λ (l : List Block). RunsThrough night (placed l)) (sym (below_is s i)) o.through;
          place = subst (λ (k : ℕ). k < length stock) (sym of.1) in_stock;
          cases = ap (λ k. cases_in stock k) of.1 ∙ sym (ap (λ k. duals_at alone k) up ∙ alone_duals);
          bound = same_step version night start (path_at night start alone s.parent) (more_by start s.child.block) (goal_of start s.child) first_cases
              (duals_at alone s.parent) s.child.bound
              (ap (λ k. path_at night start alone k) up ∙ root_at) (below_is s i) (ap (λ k. duals_at alone k) up ∙ alone_duals) o.is;
          above = above s.child o;
          new = only_root (λ j. path_at night start alone j ≢ goal_of start s.child) (λ e.
              let same : start ≡ more_by start s.child.block = sym root_at ∙ e ∙ below_is s i in
              let long : length start ≡ length start + 1 = ap (λ (l : List Block). length l) same ∙ length-append start (s.child.block ∷ []) in
              absurd (omega (arith, long)));
        }

    first_known : (d : PathChoice) (c : Child) → In c first_children → d ≡ choice_of c.block → IsKnown night start alone start first_added 0 d
    first_known d c i e =
        let r = of_children first_added c (subst (λ (l : List Child). In c l) (sym adds.adds.each) i) in
        let its : choice_of r.0.child.block ≡ d = ap (λ (x : Child). choice_of x.block) r.2 ∙ sym e in
        let o = D.each r.0.child (added_child first_added first_children adds.adds.each r.0 r.1) in
        inr (
          r.0,
          r.1,
          (adds.adds.parents r.0 r.1).0,
          below_is r.0 r.1 ∙ sym (longer_is start r.0.child.block o.next.id) ∙ ap (λ (k : PathChoice). longer_by start k) its
              ∙ ap (λ (l : List Block). longer_by l d) (sym root_at),
        )

    first_shows : ShowsIn version night (path_at night start alone 0) (duals_at alone 0) n.kind (IsKnown night start alone start first_added 0) low
    first_shows =
        subst (λ kd. ShowsIn version night (path_at night start alone 0) (duals_at alone 0) kd (IsKnown night start alone start first_added 0) low) (sym kind)
        (subst (λ (d : List Case). ShowsIn version night (path_at night start alone 0) d Branch (IsKnown night start alone start first_added 0) low) (sym alone_duals)
        (subst (λ (l : List Block). ShowsIn version night l first_cases Branch (IsKnown night start alone start first_added 0) low) (sym root_at) (record {
          unfinished = unfinished;
          holds = holds;
          each = λ d at through. ⊎_elim
              (λ closed. inl (lower version night start (longer_by start d) first_cases (pos best) low within (closed through)))
              (λ i. let r = of_choices version night start first_cases best first_children d i in inr (first_known d r.0 r.1 r.2))
              (D.others d at);
        })))

    pub walk_root : IsWalk version night start stock floor alone start waiting best low
    walk_root = subst (λ (l : List Pending). IsWalk version night start stock floor alone start l best low) (sym adds.adds.is) (record {
      formed = alone_formed;
      some = omega arith;
      here = sym root_at;
      kinds = only_root (IsWalked alone) (inl kind);
      placed = λ k some lt. absurd (omega (arith, some, lt));
      lean = λ k some lt. absurd (omega (arith, some, lt));
      pending = first_pending;
      apart = added_apart version night start first_cases best first_children D first_added adds.adds.each;
      shows = only_root (λ k. ShowsIn version night (path_at night start alone k) (duals_at alone k) (node_at alone k).kind (IsKnown night start alone start first_added k) low)
          first_shows;
      within = within;
      cheap = let e = first_best Branch kind in omega (arith, opening, e);
    })

  module _ (now : ℕ) (lesser : ℤ) (opening : now ≤ opening_cost night start) (cost : now ≤ total_cost night start) (within : lesser ≤ℤ pos now) (kind : n.kind ≡ Whole)
      (covers : next_of (masks_of night start) ≡ None) where
    alone_shows : ShowsIn version night (path_at night start alone 0) (duals_at alone 0) n.kind (IsKnown night start alone start [] 0) lesser
    alone_shows =
        subst (λ kd. ShowsIn version night (path_at night start alone 0) (duals_at alone 0) kd (IsKnown night start alone start [] 0) lesser) (sym kind)
        (subst (λ (l : List Block). ShowsIn version night l (duals_at alone 0) Whole (IsKnown night start alone start [] 0) lesser) (sym root_at)
        (record { covers = covers; cost = omega (arith, ints, cost, within) }))

    pub walk_alone : IsWalk version night start stock floor alone start [] now lesser
    walk_alone = record {
      formed = alone_formed;
      some = omega arith;
      here = sym root_at;
      kinds = only_root (IsWalked alone) (inr kind);
      placed = λ k some lt. absurd (omega (arith, some, lt));
      lean = λ k some lt. absurd (omega (arith, some, lt));
      pending = λ s i. absurd i;
      apart = λ i j d before within. absurd (omega (arith, within));
      shows = only_root (λ k. ShowsIn version night (path_at night start alone k) (duals_at alone k) (node_at alone k).kind (IsKnown night start alone start [] k) lesser)
          alone_shows;
      within = within;
      cheap =
          let e = first_best Whole kind in
          let le : now ≤ min (opening_cost night start) (total_cost night start) = le-min opening cost in
          subst (λ m. now ≤ m) (sym e) le;
    }
