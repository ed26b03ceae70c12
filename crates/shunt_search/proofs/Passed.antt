-- What was passed over: no node that is noted later has its path.
use Rattle.std.specs.Prelude.{AllPairs, ℤ}
use Rattle.std.proofs.Common.{◌≡◌, ◌≢◌, ◌⊎◌, inl, inr, ⊎_elim, ℕ, suc, ◌+◌, ◌-◌, ◌<◌, ◌≤◌, List, [], ◌∷◌, ◌++◌, length, take, get_or, refl, sym, subst, ap, ◌∙◌, arith}
use Rattle.std.proofs.lemmas.Bool.{cases_lt, cases_eq}
use Rattle.std.proofs.lemmas.List.{length-append, length-take, length-take-le, take_all, take-append-le, get_or_append_left}
use Rattle.std.proofs.Math.Nat.{min-le_right}
use Rattle.std.proofs.Math.Seq.{get_or-append_seam, get_or-append_right, take-append_seam}
use Rattle.shunt_lists.specs.defs.Members.{In}
use Rattle.shunt_lists.proofs.Members.{in_left, in_right, in_cases, place_of}
use Rattle.shunt_base.specs.declared.duals.Case.{Case}
use Rattle.shunt_instance.specs.defs.Instance.{Night}
use Rattle.shunt_blocks.specs.declared.records.Block.{Block}
use Rattle.shunt_choices.specs.defs.Choices.{IsChoiceAt, longer_by}
use Rattle.shunt_proof.specs.declared.records.Node.{Node}
use Rattle.shunt_proof.specs.declared.records.Version.{Version}
use Rattle.shunt_proof.specs.defs.Versions.{IsStepBoundIn}
use Rattle.shunt_proof.specs.defs.Trees.{depth_at, nearest, path_at, duals_at}
use Rattle.shunt_proof.proofs.Ancestors.{front_path}
use Rattle.shunt_proof.proofs.Depths.{nearest_here, nearest_before, nearest_low}
use Rattle.shunt_proof.proofs.Fronts.{node_front, duals_front, path_front}
use Rattle.shunt_search.specs.declared.walk_stack.Pending.{Pending}
use Rattle.shunt_search.specs.defs.Yards.{choice_of, more_by}
use Rattle.shunt_search.specs.defs.WalkStates.{kept, goal_of, IsPending, IsApart, IsWalk, Passes}
use Rattle.shunt_search.specs.defs.Steady.{IsPassed, IsSteady}
use Rattle.shunt_search.proofs.Offered.{longer_is}
use Rattle.shunt_search.proofs.YardChanges.{take_less}

-- elements of two parts of a list stand apart
across : {X : Type 0} (R : X → X → Type 0) (xs ys : List X) (x y : X) → AllPairs R (xs ++ ys) → In x xs → In y ys → R x y
across {X} R xs ys x y pairs i j =
    let a = place_of xs x x i in
    let b = place_of ys y x j in
    let lt = a.1 in
    let in_ys = b.1 in
    let long = length-append xs ys in
    let past : length xs + b.0 - length xs ≡ b.0 = omega arith in
    let at : get_or (xs ++ ys) (length xs + b.0) x ≡ get_or ys b.0 x = get_or-append_right xs ys (length xs + b.0) x (omega arith) ∙ ap (λ (k : ℕ). get_or ys k x) past in
    subst (λ (z : X). R z y) (get_or_append_left xs ys x a.0 lt ∙ a.2)
    (subst (λ (z : X). R (get_or (xs ++ ys) a.0 x) z) (at ∙ b.2) (pairs a.0 (length xs + b.0) x (omega (arith, lt)) (omega (arith, in_ys, long))))

-- the paths of two children that keep as much of a path differ where their choices do
same_choice : (path : List Block) (s t : Pending) → kept s.child ≡ kept t.child → kept t.child ≤ length path → goal_of path t.child ≡ goal_of path s.child
    → choice_of s.child.block ≡ choice_of t.child.block
same_choice path s t same le e =
    let d = t.child.block in
    let t_long : length (take (kept t.child) path) ≡ kept t.child = length-take-le (kept t.child) path le in
    let s_long : length (take (kept s.child) path) ≡ kept s.child = length-take-le (kept s.child) path (omega (arith, same, le)) in
    let t_last : get_or (goal_of path t.child) (kept t.child) d ≡ t.child.block = ap (λ k. get_or (goal_of path t.child) k d) (sym t_long)
    ∙ get_or-append_seam (take (kept t.child) path) t.child.block [] d in
    let s_last : get_or (goal_of path s.child) (kept t.child) d ≡ s.child.block = ap (λ k. get_or (goal_of path s.child) k d) (sym same ∙ sym s_long)
    ∙ get_or-append_seam (take (kept s.child) path) s.child.block [] d in
    ap choice_of (sym s_last ∙ ap (λ (l : List Block). get_or l (kept t.child) d) (sym e) ∙ t_last)

module _ (version : Version) (night : Night) (start : List Block) (stock : List (List Case)) (floor : ℤ) (nodes : List Node) (path : List Block) (left passed : List Pending)
    (best : ℕ) (low : ℤ) (W : IsWalk version night start stock floor nodes path (left ++ passed) best low) where
  module _ (t : Pending) (i : In t passed) where
    p : IsPending version night start stock floor nodes path t
    p = W.pending t (in_right left passed t i)

    front_size : length (take (kept t.child) path) ≡ kept t.child
    front_size = let id = p.next.id in omega (arith, id)

    -- a front of the path of the child's parent is a node's
    node_there : (d : ℕ) → d ≤ depth_at nodes t.parent → (k : ℕ) × (k < length nodes) × (path_at night start nodes k ≡ take (length start + d) (path_at night start nodes t.parent))
    node_there d le =
        let is = front_path night nodes W.formed start d t.parent p.there le in
        let there = p.there in
        let within : nearest nodes d (suc t.parent) < length nodes = ⊎_elim
        (λ here. (let e = nearest_here nodes d t.parent here in omega (arith, e, there)))
        (λ other. (let e = nearest_before nodes d t.parent other in let le_too = nearest_low nodes d t.parent in omega (arith, e, le_too, there)))
        (cases_eq (depth_at nodes t.parent) d) in
        (nearest nodes d (suc t.parent), within, is)

    -- none that is left stands above it
    apart_from : (s : Pending) → In s left → take (kept s.child + 1) (goal_of path t.child) ≢ goal_of path s.child
    apart_from s j e =
        let q = W.pending s (in_left left passed s j) in
        let a = across IsApart left passed s t W.apart j i in
        let less = a.0 in
        let s_long = q.long in
        let t_long = p.long in
        let size = length-append (take (kept t.child) path) (t.child.block ∷ []) in
        ⊎_elim
        (λ strict.
        let found = node_there (depth_at nodes s.parent + 1) (omega (arith, strict, s_long, t_long)) in
        let front : take (kept s.child + 1) (goal_of path t.child) ≡ take (kept s.child + 1) (take (kept t.child) path) = take-append-le (kept s.child + 1)
        (take (kept t.child) path) (t.child.block ∷ []) (omega (arith, front_size, strict)) in
        let as_long : length start + (depth_at nodes s.parent + 1) ≡ kept s.child + 1 = omega (arith, s_long) in
        let here : take (length start + (depth_at nodes s.parent + 1)) (path_at night start nodes t.parent) ≡ take (kept s.child + 1) (take (kept t.child) path) =
        ap (λ k. take k (path_at night start nodes t.parent)) as_long ∙ ap (λ (l : List Block). take (kept s.child + 1) l) p.here in
        q.new found.0 found.1 (found.2 ∙ here ∙ sym front ∙ e))
        (λ past.
        let same : kept s.child ≡ kept t.child = omega (arith, less, past) in
        let all : take (kept s.child + 1) (goal_of path t.child) ≡ goal_of path t.child = take_all (kept s.child + 1) (goal_of path t.child)
        (omega (arith, size, front_size, same)) in
        let le : kept t.child ≤ length path = (let cut = length-take (kept t.child) path in let most = min-le_right (kept t.child) (length path) in omega
        (arith, cut, most, front_size)) in
        a.1 same (same_choice path s t same le (sym all ∙ e)))
        (cases_lt (kept s.child) (kept t.child))

    -- so it is one that was passed over
    pub is_passed : IsPassed version night start nodes path left t.child.bound
    is_passed = record {
      above = t.parent;
      choice = choice_of t.child.block;
      goal = goal_of path t.child;
      there = p.there;
      branch = p.branch;
      next = subst (λ (l : List Block). IsChoiceAt night l (choice_of t.child.block)) (sym p.here) p.next.choice;
      goal_is = sym (longer_is (take (kept t.child) path) t.child.block p.next.id) ∙ ap (λ (l : List Block). longer_by l (choice_of t.child.block)) (sym p.here);
      through = p.through;
      is = p.bound;
      new = p.new;
      apart = apart_from;
    }

  -- what was passed over before stays so
  still_passed : (bound : ℤ) → IsPassed version night start nodes path (left ++ passed) bound → IsPassed version night start nodes path left bound
  still_passed bound q = record {
    above = q.above;
    choice = q.choice;
    goal = q.goal;
    there = q.there;
    branch = q.branch;
    next = q.next;
    goal_is = q.goal_is;
    through = q.through;
    is = q.is;
    new = q.new;
    apart = λ s i. q.apart s (in_left left passed s i);
  }

  pub steady_left : IsSteady version night start nodes path (left ++ passed) best low → (now : ℤ) → (now ≡ low) ⊎ ((t : Pending) × In t passed × (now ≡ t.child.bound))
      → IsSteady version night start nodes path left best now
  steady_left S now which = record {
    keep = S.keep;
    least = ⊎_elim
        (λ same. ⊎_elim (λ e. inl (same ∙ e)) (λ q. inr (subst (λ (x : ℤ). IsPassed version night start nodes path left x) (sym same) (still_passed low q))) S.least)
        (λ found. inr (subst (λ (x : ℤ). IsPassed version night start nodes path left x) (sym found.2) (is_passed found.0 found.1)))
        which;
  }

pub steady_closed : (version : Version) (night : Night) (start : List Block) (stock : List (List Case)) (floor : ℤ) (nodes : List Node) (path : List Block)
    (waiting left : List Pending) (best : ℕ) (low now : ℤ) → IsWalk version night start stock floor nodes path waiting best low
    → IsSteady version night start nodes path waiting best low
    → Passes waiting left low now → IsSteady version night start nodes path left best now
steady_closed version night start stock floor nodes path waiting left best low now W S p =
    steady_left version night start stock floor nodes path left p.passed best low
    (subst (λ (l : List Pending). IsWalk version night start stock floor nodes path l best low) p.parts W)
    (subst (λ (l : List Pending). IsSteady version night start nodes path l best low) p.parts S) now p.least

-- ---- a node more

module _ (version : Version) (night : Night) (start : List Block) (nodes : List Node) (n : Node) (path : List Block) (left added : List Pending) (t : Pending) (bound : ℤ)
    (q : IsPassed version night start nodes path (left ++ t ∷ []) bound) (size : length (goal_of path t.child) ≡ kept t.child + 1)
    (new_at : path_at night start (nodes ++ n ∷ []) (length nodes) ≡ goal_of path t.child)
    (fronts : (s : Pending) → In s left → goal_of (goal_of path t.child) s.child ≡ goal_of path s.child) (below : (s : Pending) → In s added
    → kept s.child ≡ length (goal_of path t.child)) where
  abbrev goal : List Block
  goal = goal_of path t.child

  abbrev more : List Node
  more = nodes ++ n ∷ []

  above_it : take (kept t.child + 1) q.goal ≢ goal
  above_it = q.apart t (in_right left (t ∷ []) t (inl refl))

  other_path : goal ≢ q.goal
  other_path e = above_it (ap (λ (l : List Block). take (kept t.child + 1) l) (sym e) ∙ take_all (kept t.child + 1) goal (omega (arith, size)))

  apart_below : (s : Pending) → In s added → take (kept s.child + 1) q.goal ≢ goal_of goal s.child
  apart_below s i e =
      let its = below s i in
      let up : take (kept t.child + 1) (take (kept s.child + 1) q.goal) ≡ take (kept t.child + 1) q.goal = take_less (kept t.child + 1) (kept s.child + 1) q.goal
      (omega (arith, its, size)) in
      let front : take (kept s.child) goal ≡ goal = take_all (kept s.child) goal (omega (arith, its)) in
      let ends : take (kept t.child + 1) (goal_of goal s.child) ≡ goal =
      ap (λ (l : List Block). take (kept t.child + 1) (more_by l s.child.block)) front ∙ ap (λ (k : ℕ). take k (more_by goal s.child.block)) (sym size)
      ∙ take-append_seam goal (s.child.block ∷ []) in
      above_it (sym up ∙ ap (λ (l : List Block). take (kept t.child + 1) l) e ∙ ends)

  pub passed_more : IsPassed version night start more goal (left ++ added) bound
  passed_more =
      let there = q.there in
      let long = length-append nodes (n ∷ []) in
      record {
        above = q.above;
        choice = q.choice;
        goal = q.goal;
        there = omega (arith, there, long);
        branch = ap (λ (x : Node). x.kind) (node_front nodes (n ∷ []) q.above there) ∙ q.branch;
        next = subst (λ (l : List Block). IsChoiceAt night l q.choice) (sym (path_front nodes (n ∷ []) night start q.above there)) q.next;
        goal_is = q.goal_is ∙ ap (λ (l : List Block). longer_by l q.choice) (sym (path_front nodes (n ∷ []) night start q.above there));
        through = q.through;
        is = subst (λ (l : List Block). IsStepBoundIn version night l q.goal (duals_at more q.above) bound) (sym (path_front nodes (n ∷ []) night start q.above there))
            (subst (λ (d : List Case). IsStepBoundIn version night (path_at night start nodes q.above) q.goal d bound) (sym (duals_front nodes (n ∷ []) q.above there)) q.is);
        new = λ j lt e. ⊎_elim
            (λ before. q.new j before (sym (path_front nodes (n ∷ []) night start j before) ∙ e))
            (λ past. (let is_last : length nodes ≡ j = omega (arith, past, lt, long) in other_path (sym new_at ∙ ap (λ (k : ℕ). path_at night start more k) is_last ∙ e)))
            (cases_lt j (length nodes));
        apart = λ s i e. ⊎_elim
            (λ l. q.apart s (in_left left (t ∷ []) s l) (e ∙ fronts s l))
            (λ r. apart_below s r e)
            (in_cases left added s i);
      }
