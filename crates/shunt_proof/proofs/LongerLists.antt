-- A list of nodes that gets one more, and fronts of lists of nodes.
use Rattle.std.specs.Prelude.{◌↔◌, ◌<ℤ◌, Option, None}
use Rattle.std.proofs.Common.{◌≡◌, ⊎_elim, ℕ, ◌+◌, ◌-◌, ◌<◌, List, [], ◌∷◌, ◌++◌, length, ℤ, pos, refl, sym, ap, subst, ◌∙◌, arith, length-append}
use Rattle.std.proofs.lemmas.Int.{ints}
use Rattle.std.proofs.lemmas.Bool.{cases_lt}
use Rattle.std.proofs.lemmas.List.{get_or_append_left, get_or_push}
use Rattle.std.proofs.lemmas.List.Elements.{All-push}
use Rattle.std.proofs.lemmas.Option.{slice_get_past, slice_get-get_or}
use Rattle.shunt_base.specs.declared.duals.Case.{Case}
use Rattle.shunt_instance.specs.defs.Instance.{Night}
use Rattle.shunt_blocks.specs.declared.records.Block.{Block}
use Rattle.shunt_blocks.specs.defs.Lists.{RunsThrough, placed}
use Rattle.shunt_choices.specs.defs.Choices.{Choice as PathChoice, IsChoiceAt}
use Rattle.shunt_proof.specs.declared.records.Node.{Node}
use Rattle.shunt_proof.specs.declared.records.Version.{Version}
use Rattle.shunt_proof.specs.declared.records.Version.TheVariants.{Prices}
use Rattle.shunt_proof.specs.defs.Nodes.{node_at, FitsNode, Follows, StandsAfter, AreNodes, CanFollow}
use Rattle.shunt_proof.specs.defs.Trees.{depth_at, nearest, parent, IsChildOf, choice_from, stated_choice, path_at, duals_at}
use Rattle.shunt_proof.specs.defs.Versions.{IsStepBoundIn}
use Rattle.shunt_proof.specs.defs.Proves.{ShowsIn, IsListed, IsPlaced, IsRightIn}
use Rattle.shunt_proof.specs.defs.Accepted.{IsLeanIn, IsLeanAt}
use Rattle.shunt_proof.proofs.Depths.{nearest_low}
use Rattle.shunt_proof.proofs.Locally.{shows_less}
use Rattle.shunt_proof.proofs.Fronts.{node_front, depth_front, nearest_front, parent_front, duals_front, path_front, best_front, node_last}

-- ---- fronts

module _ (nodes more : List Node) where
  longer_list : length (nodes ++ more) ≡ length nodes + length more
  longer_list = length-append nodes more

  pub front_nodes : (night : Night) → AreNodes night (nodes ++ more) → AreNodes night nodes
  front_nodes night h = record {
    each = λ k d lt. subst (FitsNode night) (get_or_append_left nodes more d k lt) (h.each k d (omega (arith, lt, longer_list)));
    root = λ lt. subst (StandsAfter None) (node_front nodes more 0 lt) (h.root (omega (arith, lt, longer_list)));
    follow = λ k lt. subst (λ (b : Node). Follows b (node_at nodes (k + 1))) (node_front nodes more k (omega (arith, lt)))
        (subst (λ (n : Node). Follows (node_at (nodes ++ more) k) n) (node_front nodes more (k + 1) lt) (h.follow k (omega (arith, lt, longer_list))));
  }

  child_to : (k j : ℕ) → k < length nodes → IsChildOf nodes k j → IsChildOf (nodes ++ more) k j
  child_to k j lt c = record {
    there = omega (arith, c.there, longer_list);
    depth = omega (arith, c.depth, depth_front nodes more j c.there, depth_front nodes more k lt);
    parent = parent_front nodes more j c.there ∙ c.parent;
  }

  child_from : (k j : ℕ) → k < length nodes → j < length nodes → IsChildOf (nodes ++ more) k j → IsChildOf nodes k j
  child_from k j lt there c = record {
    there = there;
    depth = omega (arith, c.depth, depth_front nodes more j there, depth_front nodes more k lt);
    parent = sym (parent_front nodes more j there) ∙ c.parent;
  }

  parent_low : (k : ℕ) → k < length nodes → parent nodes k < length nodes
  parent_low k lt = omega (arith, lt, nearest_low nodes (depth_at nodes k - 1) k)

  module _ (night : Night) (start : List Block) where
    up : (k : ℕ) → k < length nodes → path_at night start (nodes ++ more) (parent (nodes ++ more) k) ≡ path_at night start nodes (parent nodes k)
    up k lt = ap (path_at night start (nodes ++ more)) (parent_front nodes more k lt) ∙ path_front nodes more night start (parent nodes k) (parent_low k lt)

    pub listed_more : (k : ℕ) (c : PathChoice) → k < length nodes → IsListed night start nodes k c → IsListed night start (nodes ++ more) k c
    listed_more k c lt l = record {
      child = l.child;
      below = child_to k l.child lt l.below;
      states =
          ap (λ (n : Node). stated_choice night (path_at night start (nodes ++ more) k) n.choice) (node_front nodes more l.child l.below.there)
          ∙ ap (λ (p : List Block). stated_choice night p (node_at nodes l.child).choice) (path_front nodes more night start k lt)
          ∙ l.states;
    }

    placed_to : (k : ℕ) → k < length nodes → IsPlaced night start nodes k → IsPlaced night start (nodes ++ more) k
    placed_to k lt p = record {
      choice = p.choice;
      is = ap (λ (n : Node). n.choice) (node_front nodes more k lt) ∙ p.is;
      there = subst (λ (b : List Block). IsChoiceAt night b (choice_from night b p.choice)) (sym (up k lt)) p.there;
      through = subst (λ (b : List Block). RunsThrough night (placed b)) (sym (path_front nodes more night start k lt)) p.through;
      once = λ j less c e. p.once j less
          (child_from (parent nodes k) j (parent_low k lt) (omega (arith, less, lt)) (subst (λ (q : ℕ). IsChildOf (nodes ++ more) q j) (parent_front nodes more k lt) c))
          (sym (ap (λ (n : Node). n.choice) (node_front nodes more j (omega (arith, less, lt)))) ∙ e);
    }

    placed_from : (k : ℕ) → k < length nodes → IsPlaced night start (nodes ++ more) k → IsPlaced night start nodes k
    placed_from k lt p = record {
      choice = p.choice;
      is = sym (ap (λ (n : Node). n.choice) (node_front nodes more k lt)) ∙ p.is;
      there = subst (λ (b : List Block). IsChoiceAt night b (choice_from night b p.choice)) (up k lt) p.there;
      through = subst (λ (b : List Block). RunsThrough night (placed b)) (path_front nodes more night start k lt) p.through;
      once = λ j less c e. p.once j less
          (subst (λ (q : ℕ). IsChildOf (nodes ++ more) q j) (sym (parent_front nodes more k lt)) (child_to (parent nodes k) j (parent_low k lt) c))
          (ap (λ (n : Node). n.choice) (node_front nodes more j (omega (arith, less, lt))) ∙ e);
    }

    pub placed_front : (k : ℕ) → k < length nodes → IsPlaced night start nodes k ↔ IsPlaced night start (nodes ++ more) k
    placed_front k lt = (placed_to k lt, placed_from k lt)

    -- what is locally right stays so
    pub right_more : (version : Version) (k : ℕ) (L : ℤ) → k < length nodes → IsRightIn version night start nodes k L → IsRightIn version night start (nodes ++ more) k L
    right_more version k L lt r = record { placed = λ some. placed_to k lt (r.placed some); shows = shown }
      where
        wider : ShowsIn version night (path_at night start nodes k) (duals_at nodes k) (node_at nodes k).kind (IsListed night start (nodes ++ more) k) L
        wider = shows_less version night (path_at night start nodes k) (duals_at nodes k) (node_at nodes k).kind (IsListed night start nodes k)
            (IsListed night start (nodes ++ more) k) L L (λ c l. listed_more k c lt l) (omega (arith, ints)) r.shows

        shown : ShowsIn version night (path_at night start (nodes ++ more) k) (duals_at (nodes ++ more) k) (node_at (nodes ++ more) k).kind
            (IsListed night start (nodes ++ more) k) L
        shown =
            subst (λ (p : List Block). ShowsIn version night p (duals_at (nodes ++ more) k) (node_at (nodes ++ more) k).kind (IsListed night start (nodes ++ more) k) L)
            (sym (path_front nodes more night start k lt))
            (subst (λ (cs : List Case). ShowsIn version night (path_at night start nodes k) cs (node_at (nodes ++ more) k).kind (IsListed night start (nodes ++ more) k) L)
            (sym (duals_front nodes more k lt))
            (subst (λ (n : Node). ShowsIn version night (path_at night start nodes k) (duals_at nodes k) n.kind (IsListed night start (nodes ++ more) k) L)
            (sym (node_front nodes more k lt)) wider))

    same_duals : (k : ℕ) → k < length nodes → duals_at (nodes ++ more) (parent (nodes ++ more) k) ≡ duals_at nodes (parent nodes k)
    same_duals k lt = ap (duals_at (nodes ++ more)) (parent_front nodes more k lt) ∙ duals_front nodes more (parent nodes k) (parent_low k lt)

    abbrev Leans : Version → List Block → List Block → List Case → ℕ → Type 0
    Leans version above path cases best = (bound : ℤ) × IsStepBoundIn version night above path cases bound × (bound <ℤ pos best)

    moved : (version : Version) (o u p q : List Block) (c d : List Case) (b e : ℕ) → o ≡ u → p ≡ q → c ≡ d → b ≡ e → Leans version o p c b → Leans version u q d e
    moved version o u p q c d b e w x y z l =
        subst (λ (v : List Block). Leans version v q d e) w (subst (λ (v : List Block). Leans version o v d e) x
        (subst (λ (v : List Case). Leans version o p v e) y (subst (λ (v : ℕ). Leans version o p c v) z l)))

    -- what is lean stays so, and was so before
    pub lean_more : (version : Version) (k : ℕ) → k < length nodes → IsLeanIn version night start nodes k ↔ IsLeanIn version night start (nodes ++ more) k
    lean_more version k lt =
        let u = up k lt in
        let p = path_front nodes more night start k lt in
        let d = same_duals k lt in
        let b = best_front nodes more night start k (omega (arith, lt)) in (
          λ l. let m = moved version _ _ _ _ _ _ _ _ (sym u) (sym p) (sym d) (sym b) (l.bound, l.is, l.below) in record { bound = m.0; is = m.1; below = m.2 },
          λ l. let m = moved version _ _ _ _ _ _ _ _ u p d b (l.bound, l.is, l.below) in record { bound = m.0; is = m.1; below = m.2 },
        )

    pub lean_front : (k : ℕ) → k < length nodes → IsLeanAt night start nodes k ↔ IsLeanAt night start (nodes ++ more) k
    lean_front k lt = lean_more Prices k lt

-- ---- one more

module _ (night : Night) (nodes : List Node) (n : Node) where
  size : length (nodes ++ n ∷ []) ≡ length nodes + 1
  size = length-append nodes (n ∷ [])

  last_is : (k : ℕ) → k ≡ length nodes → node_at (nodes ++ n ∷ []) k ≡ n
  last_is k e = get_or_push nodes n _ k (sym e)

  pub can_follow : AreNodes night (nodes ++ n ∷ []) → CanFollow nodes n
  can_follow h = ⊎_elim
      (λ none. subst (λ (o : Option Node). StandsAfter o n) (sym (slice_get_past nodes (length nodes - 1) (omega (arith, none))))
      (subst (StandsAfter None) (last_is 0 (omega (arith, none))) (h.root (omega (arith, size)))))
      (λ some.
      let k = length nodes - 1 in
      let at : node_at (nodes ++ n ∷ []) (k + 1) ≡ n = last_is (k + 1) (omega (arith, some)) in
      subst (λ (o : Option Node). StandsAfter o n) (sym (slice_get-get_or nodes k _ (omega (arith, some))))
      (subst (λ (b : Node). Follows b n) (node_front nodes (n ∷ []) k (omega (arith, some)))
      (subst (λ (m : Node). Follows (node_at (nodes ++ n ∷ []) k) m) at (h.follow k (omega (arith, some, size))))))
      (cases_lt (length nodes) 1)

  pub last_fits : AreNodes night (nodes ++ n ∷ []) → FitsNode night n
  last_fits h = subst (FitsNode night) (last_is (length nodes) refl) (h.each (length nodes) _ (omega (arith, size)))

  pub one_more : AreNodes night nodes → FitsNode night n → CanFollow nodes n → AreNodes night (nodes ++ n ∷ [])
  one_more h fits can = record {
    each = All-push (FitsNode night) nodes n h.each fits;
    root = λ lt. ⊎_elim
        (λ none. subst (StandsAfter None) (sym (last_is 0 (omega (arith, none))))
        (subst (λ (o : Option Node). StandsAfter o n) (slice_get_past nodes (length nodes - 1) (omega (arith, none))) can))
        (λ some. subst (StandsAfter None) (sym (node_front nodes (n ∷ []) 0 some)) (h.root some))
        (cases_lt (length nodes) 1);
    follow = λ k lt. ⊎_elim
        (λ less.
        subst (λ (b : Node). Follows b (node_at (nodes ++ n ∷ []) (k + 1))) (sym (node_front nodes (n ∷ []) k (omega (arith, less))))
        (subst (λ (m : Node). Follows (node_at nodes k) m) (sym (node_front nodes (n ∷ []) (k + 1) less)) (h.follow k less)))
        (λ ge.
        let last : k ≡ length nodes - 1 = omega (arith, ge, lt, size) in
        let own : Follows (node_at nodes (length nodes - 1)) n = subst (λ (o : Option Node). StandsAfter o n)
        (slice_get-get_or nodes (length nodes - 1) _ (omega (arith, ge, lt, size))) can in
        subst (λ (b : Node). Follows b (node_at (nodes ++ n ∷ []) (k + 1))) (sym (node_front nodes (n ∷ []) k (omega (arith, ge, lt, size))))
        (subst (λ (m : Node). Follows (node_at nodes k) m) (sym (last_is (k + 1) (omega (arith, ge, lt, size)))) (subst (λ (i : ℕ). Follows (node_at nodes i) n) (sym last) own)))
        (cases_lt (k + 1) (length nodes));
  }

-- the parent of the node that is appended
pub last_parent : (nodes : List Node) (n : Node) → parent (nodes ++ n ∷ []) (length nodes) ≡ nearest nodes (n.depth - 1) (length nodes)
last_parent nodes n = ap (λ (m : Node). nearest (nodes ++ n ∷ []) (m.depth - 1) (length nodes)) (node_last nodes n)
    ∙ nearest_front nodes (n ∷ []) (n.depth - 1) (length nodes) (omega arith)
