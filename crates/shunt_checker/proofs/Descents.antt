-- On the way down to a node: whose duals hold there, and what is known behind it.
use Rattle.std.specs.Prelude.{◌≢◌, IfOk, IfNone, All, Result, Ok, Err, Option, Some, None, slice_index_or, take, set, replicate, min}
use Rattle.std.proofs.Common.{◌≡◌, ⊎_elim, ℕ, zero, suc, ◌+◌, ◌-◌, ◌<◌, ◌≤◌, List, [], ◌∷◌, ◌++◌, length, refl, sym, ap, subst, ◌∙◌, arith}
use Rattle.std.proofs.lemmas.Bool.{cases_lt, cases_eq}
use Rattle.std.proofs.lemmas.List.{length-set, get_or-set_same, get_or-set_other, get_or-replicate}
use Rattle.shunt_base.specs.declared.duals.Case.{Case}
use Rattle.shunt_instance.specs.defs.Instance.{Night}
use Rattle.shunt_blocks.specs.declared.records.Block.{Block}
use Rattle.shunt_blocks.specs.defs.Blocks.{IsBlockButId}
use Rattle.shunt_blocks.specs.defs.Lists.{RunsThrough, placed, total_cost}
use Rattle.shunt_choices.specs.defs.Paths.{Trail, IsTrailOf}
use Rattle.shunt_choices.specs.defs.Choices.{Choice as PathChoice, longer_by, chosen}
use Rattle.shunt_proof.specs.declared.records.Choice.{Choice}
use Rattle.shunt_proof.specs.declared.records.NodeKind.{NodeKind}
use Rattle.shunt_proof.specs.declared.records.NodeKind.TheVariants.{Branch, Leaf, Whole}
use Rattle.shunt_proof.specs.declared.records.NodeDuals.{NodeDuals}
use Rattle.shunt_proof.specs.declared.records.NodeDuals.TheVariants.{Same, New, Bare}
use Rattle.shunt_proof.specs.declared.records.Node.{Node}
use Rattle.shunt_proof.specs.declared.records.Certificate.{Certificate}
use Rattle.shunt_proof.specs.defs.Nodes.{node_at, FitDuals, FitsNode, AreNodes, StandsAfter}
use Rattle.shunt_proof.specs.defs.Trees.{depth_at, nearest, parent, path_at, choice_from, longer_with, cases_or, duals_at, best_with, best_before}
use Rattle.shunt_proof.specs.defs.Versions.{HoldIn}
use Rattle.shunt_proof.proofs.Depths.{nearest_here, nearest_before}
use Rattle.shunt_checker.specs.declared.verdict.Reason.{Reason}
use Rattle.shunt_checker.specs.declared.walk.Frame.{Frame}
use Rattle.shunt_checker.specs.defs.NodeFaults.{IsNodeSound, IsFirstNodeFault, AreSound}
use Rattle.shunt_checker.specs.defs.NodeSteps.{NodeFrom, Judges, JudgesChild, LeadsDown}
use Rattle.shunt_checker.specs.defs.Walks.{IsOwner, AreOwn, Owns, IsFrame, AreFrames, IsAtNode, IsWalk, Settles, path_before, front_of}
use Rattle.shunt_checker.proofs.Chosen.{no_choice}
use Rattle.shunt_checker.proofs.NodeOrder.{from_start, from_next, none_there, none_twice, none_lean, sound}

-- ---- whose duals hold

pub own_is : (night : Night) (depth : ℕ) (kind : NodeKind) (ds : NodeDuals) (above at : List Case) → at ≡ cases_or ds above → (ds ≡ Same → ⊥) → FitDuals night depth kind ds
    → kind ≢ Whole → ds ≡ New at
own_is night depth kind Same above at e other fits whole = absurd (other refl)
own_is night depth kind (New cases) above at e other fits whole = ap (λ (cs : List Case). New cs) (sym e)
own_is night depth kind Bare above at e other fits whole = absurd (whole fits)

-- the cases of a node are its own or those of some node above
pub duals_from : (nodes : List Node) (k : ℕ) → (1 ≤ k → duals_at nodes k ≡ cases_or (node_at nodes k).duals (duals_at nodes (parent nodes k)))
    → (1 ≤ length nodes → duals_at nodes 0 ≡ cases_or (node_at nodes 0).duals []) → k < length nodes
    → (above : List Case) × (duals_at nodes k ≡ cases_or (node_at nodes k).duals above)
duals_from nodes zero below root lt = ([], root (omega (arith, lt)))
duals_from nodes (suc k) below root lt = (duals_at nodes (parent nodes (suc k)), below (omega arith))

-- a node with a depth isn't the root
pub root_flat : (nodes : List Node) (k : ℕ) → (0 < length nodes → depth_at nodes 0 ≡ 0) → k < length nodes → 1 ≤ depth_at nodes k → 1 ≤ k
root_flat nodes zero flat lt deep = let e = flat lt in omega (arith, e, deep)
root_flat nodes (suc k) flat lt deep = omega arith

pub same_is : (ds : NodeDuals) (above at : List Case) → at ≡ cases_or ds above → ds ≡ Same → at ≡ above
same_is ds above at e is = e ∙ ap (λ (x : NodeDuals). cases_or x above) is

pub same_deep : (night : Night) (depth : ℕ) (kind : NodeKind) (ds : NodeDuals) → ds ≡ Same → FitDuals night depth kind ds → 1 ≤ depth
same_deep night depth kind Same e fits = fits.1
same_deep night depth kind (New cases) e fits = absurd cc
same_deep night depth kind Bare e fits = absurd cc

pub are_own : (ds : NodeDuals) (cases : List Case) → ds ≡ New cases → AreOwn ds
are_own ds cases e = subst (λ (x : NodeDuals). AreOwn x) (sym e) tt

pub one_list : (ds : NodeDuals) (cases others : List Case) → ds ≡ New cases → ds ≡ New others → cases ≡ others
one_list ds cases others e f = cc (sym e ∙ f)

pub handed_down : (nodes : List Node) (k above owner : ℕ) → duals_at nodes k ≡ duals_at nodes above → IsOwner nodes above owner → IsOwner nodes k owner
handed_down nodes k above owner e h = record { there = h.there; own = h.own ∙ ap (λ (cs : List Case). New cs) (sym e) }

abbrev no_frame : Frame
no_frame = record { node = 0; owner = 0 }

pub frames_more : (nodes : List Node) (k : ℕ) (frames : List Frame) (f : Frame) → AreFrames nodes k frames → IsFrame nodes k f → depth_at nodes k < length frames
    → AreFrames nodes (suc k) (set frames (depth_at nodes k) f)
frames_more nodes k frames f are is lt = λ d few. ⊎_elim
    (λ here.
    let last : nearest nodes d (suc k) ≡ k = nearest_here nodes d k here in
    let at : slice_index_or (set frames (depth_at nodes k) f) d no_frame ≡ f = subst (λ (i : ℕ). slice_index_or (set frames (depth_at nodes k) f) i no_frame ≡ f) here
    (get_or-set_same frames (depth_at nodes k) f no_frame lt) in
    subst (λ (j : ℕ). IsFrame nodes j (slice_index_or (set frames (depth_at nodes k) f) d no_frame)) (sym last) (subst (λ (g : Frame). IsFrame nodes k g) (sym at) is))
    (λ other.
    let before : nearest nodes d (suc k) ≡ nearest nodes d k = nearest_before nodes d k other in
    let at : slice_index_or (set frames (depth_at nodes k) f) d no_frame ≡ slice_index_or frames d no_frame = get_or-set_other frames (depth_at nodes k) d f no_frame
    (λ e. other (sym e)) in
    subst (λ (j : ℕ). IsFrame nodes j (slice_index_or (set frames (depth_at nodes k) f) d no_frame)) (sym before)
    (subst (λ (g : Frame). IsFrame nodes (nearest nodes d k) g) (sym at) (are d few)))
    (cases_eq (depth_at nodes k) d)

-- ---- from rank to rank

module _ (night : Night) (start : List Block) (c : Certificate) (k : ℕ) where
  -- the root has no choice
  pub root_from : k ≡ 0 → (node_at c.nodes k).choice ≡ None → NodeFrom night start c k 4
  root_from first none =
      let no_choice : (choice : Choice) → (node_at c.nodes k).choice ≡ Some choice → ⊥ = λ choice is. (let e : None ≡ Some choice = sym none ∙ is in cc) in
      from_next night start c k 3 (from_next night start c k 2 (from_next night start c k 1 (from_start night start c k)
      (none_there night start c k (λ choice is. absurd (no_choice choice is))))
      (none_twice night start c k (λ choice is twin. no_choice choice is)))
      (none_lean night start c k (λ bound h. let some = h.some in omega (arith, some, first)))

  -- what is found of a node at its path
  pub settled : (old new : Trail) (r : Option Reason) → IsAtNode night start c k old → NodeFrom night start c k 4 → Judges night c k old.blocks 4 8 r → IfNone r (new ≡ old)
      → Settles night start c k new r
  settled old new None at from judged kept = (sound night start c k (judged start at.path from), subst (λ (t : Trail). IsAtNode night start c k t) (sym kept) at)
  settled old new (Some s) at from judged kept = judged start at.path from

-- ---- node by node

pub sound_more : (night : Night) (start : List Block) (c : Certificate) (k : ℕ) → AreSound night start c k → IsNodeSound night start c k → AreSound night start c (k + 1)
sound_more night start c k before here = λ j lt. ⊎_elim
    (λ less. before j less)
    (λ past. subst (λ (i : ℕ). IsNodeSound night start c i) (let e : k ≡ j = omega (arith, lt, past) in e) here)
    (cases_lt j k)

-- ---- the path of a node's parent

module _ (night : Night) (start : List Block) (c : Certificate) (k before : ℕ) (suc_is : k ≡ suc before)
    (front : (d : ℕ) → d ≤ depth_at c.nodes before → path_at night start c.nodes (nearest c.nodes d (suc before)) ≡ take (length start + d) (path_at night start c.nodes before))
    (size : length (path_at night start c.nodes before) ≡ length start + depth_at c.nodes before)
    (deep : 1 ≤ depth_at c.nodes k) (follows : depth_at c.nodes k ≤ depth_at c.nodes before + 1) (t : Trail) (path : t.blocks ≡ path_before night start c.nodes k)
    (pins : t.pins ≡ length start) where
  path_was : t.blocks ≡ path_at night start c.nodes before
  path_was = path ∙ ap (λ (n : ℕ). path_before night start c.nodes n) suc_is

  pub long_enough : t.pins + depth_at c.nodes k ≤ length t.blocks + 1
  long_enough =
      let same : length t.blocks ≡ length (path_at night start c.nodes before) = ap (λ (bs : List Block). length bs) path_was in
      omega (arith, same, size, follows, pins)

  pub front_is : front_of c.nodes k t ≡ path_at night start c.nodes (parent c.nodes k)
  front_is =
      let near : nearest c.nodes (depth_at c.nodes k - 1) (suc before) ≡ parent c.nodes k = ap (λ (n : ℕ). nearest c.nodes (depth_at c.nodes k - 1) n) (sym suc_is) in
      ap (λ (n : ℕ). take (n + (depth_at c.nodes k - 1)) t.blocks) pins
      ∙ (ap (λ (bs : List Block). take (length start + (depth_at c.nodes k - 1)) bs) path_was
      ∙ (sym (front (depth_at c.nodes k - 1) (omega (arith, follows, deep))) ∙ ap (λ (j : ℕ). path_at night start c.nodes j) near))

-- both of a node that isn't the root, by the laws on parents
pub came_down : (night : Night) (start : List Block) (c : Certificate) (k : ℕ) → AreNodes night c.nodes → 1 ≤ k → k < length c.nodes
    → ((b d : ℕ) → b < length c.nodes → d ≤ depth_at c.nodes b → path_at night start c.nodes (nearest c.nodes d (suc b)) ≡ take (length start + d) (path_at night start c.nodes b))
    → ((b : ℕ) → b < length c.nodes → length (path_at night start c.nodes b) ≡ length start + depth_at c.nodes b)
    → 1 ≤ depth_at c.nodes k → (t : Trail) → t.blocks ≡ path_before night start c.nodes k → t.pins ≡ length start
    → (t.pins + depth_at c.nodes k ≤ length t.blocks + 1) × (front_of c.nodes k t ≡ path_at night start c.nodes (parent c.nodes k))
came_down night start c zero nodes some lt front size deep t path pins = absurd (omega (arith, some))
came_down night start c (suc b) nodes some lt front size deep t path pins =
    let less : b < length c.nodes = omega (arith, lt) in
    let next : b + 1 ≡ suc b = omega arith in
    let follows : StandsAfter (Some (node_at c.nodes b)) (node_at c.nodes (suc b)) = subst (λ (n : ℕ). StandsAfter (Some (node_at c.nodes b)) (node_at c.nodes n)) next
    (nodes.follow b (omega (arith, lt))) in (
      long_enough night start c (suc b) b refl (λ d le. front b d less le) (size b less) deep follows.most t path pins,
      front_is night start c (suc b) b refl (λ d le. front b d less le) (size b less) deep follows.most t path pins,
    )

module _ (night : Night) (start : List Block) (c : Certificate) (k : ℕ) (front : List Block) (fe : front ≡ path_at night start c.nodes (parent c.nodes k)) (best : ℕ)
    (be : best ≡ best_before night start c.nodes k)
    (r : Option Reason) (found : JudgesChild night c k front best r) where
  pub child_told : (s : Reason) → r ≡ Some s → IsFirstNodeFault night start c k s
  child_told s e =
      let here : JudgesChild night c k front best (Some s) = subst (JudgesChild night c k front best) e found in
      here start fe be

  pub child_passed : r ≡ None → NodeFrom night start c k 4
  child_passed e =
      let here : JudgesChild night c k front best None = subst (JudgesChild night c k front best) e found in
      here start fe be

  pub child_at : r ≡ None → (new : Trail) → IsTrailOf night new → new.pins ≡ length start → IfNone r (LeadsDown night c k front new.blocks)
      → IfNone r (RunsThrough night (placed new.blocks)) → IfNone r (All (IsBlockButId night) new.blocks)
      → IsAtNode night start c k new
  child_at e new of pins leads through each =
      let lead : LeadsDown night c k front new.blocks = subst (λ (o : Option Reason). IfNone o (LeadsDown night c k front new.blocks)) e leads in
      record {
        of = of;
        path = lead start fe;
        through = subst (λ (o : Option Reason). IfNone o (RunsThrough night (placed new.blocks))) e through;
        each = subst (λ (o : Option Reason). IfNone o (All (IsBlockButId night) new.blocks)) e each;
        pins = pins;
      }

-- duals that hold at the parent hold at its child
pub hold_below : (night : Night) (start : List Block) (c : Certificate) (k above : ℕ) (choice : Choice)
    → ((path : List Block) (b : Block) (cases : List Case) → HoldIn c.version night path cases → HoldIn c.version night (path ++ b ∷ []) cases)
    → HoldIn c.version night (path_at night start c.nodes above) (duals_at c.nodes above)
    → path_at night start c.nodes k ≡ longer_with night (path_at night start c.nodes above) (node_at c.nodes k).choice → (node_at c.nodes k).choice ≡ Some choice
    → HoldIn c.version night (path_at night start c.nodes k) (duals_at c.nodes above)
hold_below night start c k above choice law hold ep is =
    let path = path_at night start c.nodes above in
    let d : PathChoice = choice_from night path choice in
    let step : path_at night start c.nodes k ≡ longer_by path d = ep ∙ ap (λ (o : Option Choice). longer_with night path o) is in
    subst (λ (p : List Block). HoldIn c.version night p (duals_at c.nodes above)) (sym step) (law path (chosen (length path + 1) d) (duals_at c.nodes above) hold)

-- ---- the root

pub later : (k : ℕ) → (k ≡ 0 → ⊥) → 1 ≤ k
later zero never = absurd (never refl)
later (suc k) never = omega arith

pub root_at : (night : Night) (start : List Block) (nodes : List Node) (k : ℕ) (blocks : List Block) → k ≡ 0 → blocks ≡ path_before night start nodes k
    → path_at night start nodes 0 ≡ start → blocks ≡ path_at night start nodes k
root_at night start nodes zero blocks e path root = path ∙ sym root
root_at night start nodes (suc k) blocks e path root = absurd (omega (arith, e))

pub root_bare : (night : Night) (nodes : List Node) (k : ℕ) → k ≡ 0 → (0 < length nodes → depth_at nodes 0 ≡ 0) → k < length nodes → FitsNode night (node_at nodes k)
    → (node_at nodes k).choice ≡ None
root_bare night nodes zero e flat lt fits = no_choice night (node_at nodes 0).depth (node_at nodes 0).choice fits.choice (flat lt)
root_bare night nodes (suc k) e flat lt fits = absurd (omega (arith, e))

pub first_frames : (night : Night) (nodes : List Node) → AreNodes night nodes → 0 < length nodes → (1 ≤ length nodes → duals_at nodes 0 ≡ cases_or (node_at nodes 0).duals [])
    → AreFrames nodes 0 (replicate 161 no_frame)
first_frames night nodes are some root = λ d few.
    let fits : FitsNode night (node_at nodes 0) = are.each 0 _ some in
    let flat : depth_at nodes 0 ≡ 0 = are.root some in
    let at : slice_index_or (replicate 161 no_frame) d no_frame ≡ no_frame = get_or-replicate 161 d no_frame no_frame (omega (arith, few)) in
    let own : Owns nodes 0 0 = λ other. record {
      there = some;
      own = own_is night (node_at nodes 0).depth (node_at nodes 0).kind (node_at nodes 0).duals [] (duals_at nodes 0) (root some)
          (λ same. (let deep = same_deep night (node_at nodes 0).depth (node_at nodes 0).kind (node_at nodes 0).duals same fits.duals in omega (arith, deep, flat)))
          fits.duals other;
    } in
    subst (λ (f : Frame). IsFrame nodes 0 f) (sym at) (record { node = refl; owner = own })

pub walked : (night : Night) (start : List Block) (c : Certificate) (k : ℕ) (old new : Trail) (frames : List Frame) (best after owner : ℕ) → IsWalk night start c k old frames best
    → IsAtNode night start c k new
    → Owns c.nodes k owner → depth_at c.nodes k < length frames → after ≡ best_with (node_at c.nodes k).kind (total_cost night new.blocks) best → after ≤ best
    → IsNodeSound night start c k
    → IsWalk night start c (k + 1) new (set frames (depth_at c.nodes k) (record { node = k; owner = owner })) after
walked night start c k old new frames best after owner walk at owns lt exact small sound =
    let next : suc k ≡ k + 1 = omega arith in
    record {
      of = at.of;
      path = at.path ∙ ap (λ (n : ℕ). path_before night start c.nodes n) next;
      through = at.through;
      each = at.each;
      pins = at.pins;
      long = length-set frames (depth_at c.nodes k) (record { node = k; owner = owner }) ∙ walk.long;
      frames = subst (λ (n : ℕ). AreFrames c.nodes n (set frames (depth_at c.nodes k) (record { node = k; owner = owner }))) next
          (frames_more c.nodes k frames (record { node = k; owner = owner }) walk.frames (record { node = refl; owner = owns }) lt);
      best = exact ∙ (ap (λ (bs : List Block). best_with (node_at c.nodes k).kind (total_cost night bs) best) at.path
          ∙ (ap (λ (n : ℕ). best_with (node_at c.nodes k).kind (total_cost night (path_at night start c.nodes k)) n) walk.best
          ∙ ap (λ (n : ℕ). best_before night start c.nodes n) next));
      small = (let few = walk.small in omega (arith, small, few));
      sound = sound_more night start c k walk.sound sound;
    }

-- ---- the best cost

pub best_kept : (kind : NodeKind) (cost best : ℕ) → (kind ≡ Whole → ⊥) → best ≡ best_with kind cost best
best_kept Whole cost best never = absurd (never refl)
best_kept Leaf cost best never = refl
best_kept Branch cost best never = refl

pub best_whole : (kind : NodeKind) (x cost total best : ℕ) → kind ≡ Whole → x ≡ min best cost → cost ≡ total → x ≡ best_with kind total best
best_whole kind x cost total best is least exact =
    least ∙ (ap (λ (n : ℕ). min best n) exact ∙ sym (ap (λ (w : NodeKind). best_with w total best) is))

-- ---- what is found of a node

pub both_ok : {T E : Type 0} (x : Result T E) (P Q R : T → Type 0) → ((r : T) → P r → Q r → R r) → IfOk x P → IfOk x Q → IfOk x R
both_ok (Ok r) P Q R f p q = f r p q
both_ok (Err e) P Q R f p q = tt

pub fault_settled : (night : Night) (start : List Block) (c : Certificate) (k : ℕ) (t : Trail) (r : Option Reason) (s : Reason) → r ≡ Some s → Settles night start c k t r
    → IsFirstNodeFault night start c k s
fault_settled night start c k t r s e h =
    let here : Settles night start c k t (Some s) = subst (Settles night start c k t) e h in
    here

pub none_settled : (night : Night) (start : List Block) (c : Certificate) (k : ℕ) (t : Trail) (r : Option Reason) → r ≡ None → Settles night start c k t r
    → IsNodeSound night start c k × IsAtNode night start c k t
none_settled night start c k t r e h =
    let here : Settles night start c k t None = subst (Settles night start c k t) e h in
    here
