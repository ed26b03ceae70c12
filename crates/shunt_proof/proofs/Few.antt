-- The nodes of a tree have different paths, which are partial plans; so they are at most as many as there are partial plans.
use Rattle.std.specs.Prelude.{◌↔◌, ◌≢◌, All, map, if◌then◌else◌, Option, Some}
use Rattle.std.specs.List.{flat_map}
use Rattle.std.proofs.Common.{◌≡◌, ⊎_elim, inl, inr, ℕ, zero, suc, ◌+◌, ◌<◌, ◌≤◌, Bool, true, false, List, [], ◌∷◌, ◌++◌, length, refl, sym, ap, subst, ◌∙◌, arith}
use Rattle.std.proofs.lemmas.Bool.{cases_lt}
use Rattle.std.proofs.lemmas.List.{length-append, length-map}
use Rattle.std.proofs.lemmas.List.Concat.{length-flat_map}
use Rattle.shunt_lists.specs.defs.Members.{In}
use Rattle.shunt_lists.proofs.Members.{in_left, in_right, in_cases, in_flat, of_flat, split_at_member as split}
use Rattle.shunt_instance.specs.defs.Instance.{Night, IsInstance, unit_total}
use Rattle.shunt_blocks.specs.declared.records.Block.{Block}
use Rattle.shunt_blocks.specs.defs.Shapes.{IsWithinTrains}
use Rattle.shunt_blocks.specs.defs.Lists.{ShareNothing, RunsThrough, placed}
use Rattle.shunt_blocks.specs.defs.Pins.{without_id}
use Rattle.shunt_choices.specs.defs.Paths.{IsPartialPlan}
use Rattle.shunt_choices.specs.defs.Choices.{Choice as PathChoice, IsChoiceAt, chosen, choices_at, longer_by, runs_placed, plans_from, partial_plans}
use Rattle.shunt_proof.specs.declared.records.Choice.{Choice}
use Rattle.shunt_proof.specs.declared.records.Node.{Node}
use Rattle.shunt_proof.specs.defs.Nodes.{AreNodes}
use Rattle.shunt_proof.specs.defs.Trees.{depth_at, parent, IsChildOf, choice_from, longer_with, path_at}
use Rattle.shunt_proof.specs.defs.Proves.{IsPlaced}
use Rattle.shunt_proof.proofs.Depths.{parent_found, its_child, child_path, root_path}
use Rattle.shunt_proof.proofs.Ancestors.{root_only, not_root, path_size}
use Rattle.shunt_lists.proofs.Sums.{sum_by-same as same_sum}
use Rattle.shunt_blocks.proofs.Shapes.{all_within}

-- ---- different members of a list

-- different members are at most as many as the list has
few : {X : Type 0} (n : ℕ) (f : ℕ → X) (ys : List X) → ((k : ℕ) → k < n → In (f k) ys) → ((j k : ℕ) → j < k → k < n → f j ≢ f k) → n ≤ length ys
few zero f ys within apart = omega arith
few {X} (suc n) f ys within apart =
    let s = split ys (f n) (within n (omega arith)) in
    let rest : n ≤ length (s.0 ++ s.1) = few n f (s.0 ++ s.1)
    (λ k lt. ⊎_elim (λ l. in_left s.0 s.1 (f k) l) (λ r. ⊎_elim (λ e. absurd (apart k n lt (omega arith) e)) (λ j. in_right s.0 s.1 (f k) j) r)
    (in_cases s.0 (f n ∷ s.1) (f k) (subst (λ (zs : List X). In (f k) zs) s.2 (within k (omega (arith, lt))))))
    (λ j k lt low. apart j k lt (omega (arith, low))) in
    omega (arith, rest, ap length s.2, length-append s.0 (f n ∷ s.1), length-append s.0 s.1)

-- ---- the partial plans as a list

-- the partial plans that begin with these blocks and add at most that many
abbrev plans : ℕ → Night → List Block → List (List Block)
plans zero night blocks = blocks ∷ []
plans (suc more) night blocks = blocks ∷ flat_map (λ c. if runs_placed night (longer_by blocks c) then plans more night (longer_by blocks c) else []) (choices_at night blocks)

some_length : (b : Bool) (ps : List (List Block)) (n : ℕ) → length ps ≡ n → length (if b then ps else []) ≡ (if b then n else 0)
some_length true ps n e = e
some_length false ps n e = refl

counted : (more : ℕ) (night : Night) (blocks : List Block) → length (plans more night blocks) ≡ plans_from more night blocks
unfolding plans_from
counted zero night blocks = refl
counted (suc more) night blocks =
    let sum = length-flat_map (λ c. if runs_placed night (longer_by blocks c) then plans more night (longer_by blocks c) else []) (choices_at night blocks) in
    let same = same_sum (λ c. length (if runs_placed night (longer_by blocks c) then plans more night (longer_by blocks c) else []))
    (λ c. if runs_placed night (longer_by blocks c) then plans_from more night (longer_by blocks c) else 0) (choices_at night blocks)
    (λ c. some_length (runs_placed night (longer_by blocks c)) (plans more night (longer_by blocks c)) (plans_from more night (longer_by blocks c))
    (counted more night (longer_by blocks c))) in
    omega (arith, sum, same)

pub length_longer : (blocks : List Block) (c : PathChoice) → length (longer_by blocks c) ≡ length blocks + 1
length_longer blocks c = length-append blocks (chosen (length blocks + 1) c ∷ [])

starts : (more : ℕ) (night : Night) (blocks : List Block) → In blocks (plans more night blocks)
starts zero night blocks = inl refl
starts (suc more) night blocks = inl refl

when_true : (b : Bool) (ps : List (List Block)) (p : List Block) → In p (if b then ps else []) → (b ≡ true) × In p ps
when_true true ps p i = (refl, i)
when_true false ps p i = absurd i

from_true : (b : Bool) (ps : List (List Block)) (p : List Block) → b ≡ true → In p ps → In p (if b then ps else [])
from_true true ps p e i = i
from_true false ps p e i = absurd (grind (arith, e))

-- a choice at one of them gives one, where one more may be added
goes_on : (more : ℕ) (night : Night) (from path : List Block) (c : PathChoice) → In path (plans more night from) → length path < length from + more → In c (choices_at night path)
    → runs_placed night (longer_by path c) ≡ true
    → In (longer_by path c) (plans more night from)
goes_on zero night from path c (inl e) lt i go = absurd (omega (arith, lt, ap length e))
goes_on zero night from path c (inr none) lt i go = absurd none
goes_on (suc more) night from path c (inl e) lt i go =
    let at : In c (choices_at night from) = subst (λ (p : List Block). In c (choices_at night p)) e i in
    let goes : runs_placed night (longer_by from c) ≡ true = ap (λ (p : List Block). runs_placed night (longer_by p c)) (sym e) ∙ go in
    let here : In (longer_by from c) (if runs_placed night (longer_by from c) then plans more night (longer_by from c) else []) = from_true (runs_placed night (longer_by from c))
    (plans more night (longer_by from c)) (longer_by from c) goes (starts more night (longer_by from c)) in
    inr (subst (λ (p : List Block). In (longer_by p c) (flat_map (λ d. if runs_placed night (longer_by from d) then plans more night (longer_by from d) else [])
    (choices_at night from))) (sym e)
    (in_flat (λ d. if runs_placed night (longer_by from d) then plans more night (longer_by from d) else []) (choices_at night from) c (longer_by from c) at here))
goes_on (suc more) night from path c (inr j) lt i go =
    let k = of_flat (λ d. if runs_placed night (longer_by from d) then plans more night (longer_by from d) else []) (choices_at night from) path j in
    let down = when_true (runs_placed night (longer_by from k.0)) (plans more night (longer_by from k.0)) path k.2 in
    let next = goes_on more night (longer_by from k.0) path c down.1 (omega (arith, lt, length_longer from k.0)) i go in
    inr (in_flat (λ d. if runs_placed night (longer_by from d) then plans more night (longer_by from d) else []) (choices_at night from) k.0 (longer_by path c) k.1
    (from_true (runs_placed night (longer_by from k.0)) (plans more night (longer_by from k.0)) (longer_by path c) down.0 next))

-- ---- the paths of a tree

-- what the laws of the crates below say
pub record CountLaws : Type 0 where
  pub most : (night : Night) (blocks : List Block) → All (IsWithinTrains night) blocks → ShareNothing night blocks → length blocks ≤ unit_total night
  pub at_path : (night : Night) (blocks : List Block) (c : PathChoice) → IsInstance night → In c (choices_at night blocks) ↔ IsChoiceAt night blocks c
  pub grows : (night : Night) (pins blocks : List Block) (c : PathChoice) → IsPartialPlan night pins blocks → IsChoiceAt night blocks c
      → IsPartialPlan night pins (longer_by blocks c) ↔ RunsThrough night (placed (longer_by blocks c))
  pub once : (front other : List Block) (c d : PathChoice) → map without_id (longer_by front c) ≡ map without_id (longer_by other d)
      → (map without_id front ≡ map without_id other) × (c ≡ d)

-- what a node's choice states is that choice
abbrev said : PathChoice → Choice
said c = record { n = c.shape.n; dep = c.shape.dep; q = c.shape.q; park = c.option }

module _ (laws : CountLaws) (night : Night) (i : IsInstance night) (start : List Block) (nodes : List Node) (h : AreNodes night nodes) (all : (k : ℕ) → 1 ≤ k → k < length nodes
    → IsPlaced night start nodes k) where
  abbrev pub path : ℕ → List Block
  path k = path_at night start nodes k

  -- a node's path and its parent's
  pub longer : (k : ℕ) → (some : 1 ≤ k) → (lt : k < length nodes) → path k ≡ longer_by (path (parent nodes k)) (choice_from night (path (parent nodes k)) (all k some lt).choice)
  longer k some lt = child_path night nodes h start k some lt ∙ ap (λ (o : Option Choice). longer_with night (path (parent nodes k)) o) (all k some lt).is

  -- ---- no two are the same

  one_choice : (p q : List Block) (a b : Choice) → choice_from night p a ≡ choice_from night q b → a ≡ b
  one_choice p q a b e = ap said e

  module _ (depth : ℕ) (j k : ℕ) (lj : j < length nodes) (lk : k < length nodes) (some : 1 ≤ j) (more : 1 ≤ k)
      (above : map without_id (path (parent nodes j)) ≡ map without_id (path (parent nodes k)) → parent nodes j ≡ parent nodes k)
      (same : map without_id (path j) ≡ map without_id (path k)) where
    both : (map without_id (path (parent nodes j)) ≡ map without_id (path (parent nodes k)))
        × (choice_from night (path (parent nodes j)) (all j some lj).choice ≡ choice_from night (path (parent nodes k)) (all k more lk).choice)
    both = laws.once (path (parent nodes j)) (path (parent nodes k)) (choice_from night (path (parent nodes j)) (all j some lj).choice)
        (choice_from night (path (parent nodes k)) (all k more lk).choice)
        (ap (map without_id) (sym (longer j some lj)) ∙ same ∙ ap (map without_id) (longer k more lk))

    up : parent nodes j ≡ parent nodes k
    up = above both.0

    alike : (all j some lj).choice ≡ (all k more lk).choice
    alike = one_choice (path (parent nodes j)) (path (parent nodes k)) (all j some lj).choice (all k more lk).choice both.1

    one_node : j ≡ k
    one_node = ⊎_elim
        (λ less. absurd ((all k more lk).once j less (subst (λ (p : ℕ). IsChildOf nodes p j) up (its_child night nodes h j some lj)) ((all j some lj).is ∙ ap Some alike)))
        (λ ge. ⊎_elim
        (λ later. absurd ((all j some lj).once k later (subst (λ (p : ℕ). IsChildOf nodes p k) (sym up) (its_child night nodes h k more lk))
        ((all k more lk).is ∙ ap Some (sym alike))))
        (λ le. omega (arith, ge, le))
        (cases_lt k j))
        (cases_lt j k)

  one_at : (depth j k : ℕ) → j < length nodes → k < length nodes → depth_at nodes j ≡ depth → depth_at nodes k ≡ depth → map without_id (path j) ≡ map without_id (path k) → j ≡ k
  one_at zero j k lj lk dj dk same = omega (arith, root_only night nodes h j lj dj, root_only night nodes h k lk dk)
  one_at (suc depth) j k lj lk dj dk same =
      let some = not_root night nodes h j depth lj dj in
      let more = not_root night nodes h k depth lk dk in
      let fj = parent_found night nodes h j some lj in
      let fk = parent_found night nodes h k more lk in
      one_node depth j k lj lk some more (λ e. one_at depth (parent nodes j) (parent nodes k) (omega (arith, fj.before, lj)) (omega (arith, fk.before, lk))
      (omega (arith, fj.depth, dj)) (omega (arith, fk.depth, dk)) e) same

  -- two nodes whose paths are the same but for ids are one
  pub one_path : (j k : ℕ) → j < length nodes → k < length nodes → map without_id (path j) ≡ map without_id (path k) → j ≡ k
  one_path j k lj lk same =
      let sizes = ap length same in
      let dj = path_size night nodes h start j lj in
      let dk = path_size night nodes h start k lk in
      one_at (depth_at nodes j) j k lj lk refl (omega (arith, sizes, dj, dk, length-map (path j) without_id, length-map (path k) without_id)) same

  -- ---- each is a partial plan

  module _ (pins : List Block) (first : IsPartialPlan night pins start) where
    partial_down : (depth k : ℕ) → k < length nodes → depth_at nodes k ≡ depth → IsPartialPlan night pins (path k)
    partial_down zero k lt e = subst (IsPartialPlan night pins) (sym (ap path (root_only night nodes h k lt e) ∙ root_path night nodes h start (omega (arith, lt)))) first
    partial_down (suc depth) k lt e =
        let some = not_root night nodes h k depth lt e in
        let f = parent_found night nodes h k some lt in
        let up = partial_down depth (parent nodes k) (omega (arith, f.before, lt)) (omega (arith, f.depth, e)) in
        let p = all k some lt in
        subst (IsPartialPlan night pins) (sym (longer k some lt)) ((laws.grows night pins (path (parent nodes k)) (choice_from night (path (parent nodes k)) p.choice) up p.there).1
        (subst (λ (b : List Block). RunsThrough night (placed b)) (longer k some lt) p.through))

    pub is_partial : (k : ℕ) → k < length nodes → IsPartialPlan night pins (path k)
    is_partial k lt = partial_down (depth_at nodes k) k lt refl

    short : (k : ℕ) → k < length nodes → length (path k) ≤ unit_total night
    short k lt = let p = is_partial k lt in laws.most night (path k) (all_within night (path k) p.each) p.apart

    listed_down : (depth k : ℕ) → k < length nodes → depth_at nodes k ≡ depth → In (path k) (plans (unit_total night) night start)
    listed_down zero k lt e = subst (λ (p : List Block). In p (plans (unit_total night) night start))
        (sym (ap path (root_only night nodes h k lt e) ∙ root_path night nodes h start (omega (arith, lt)))) (starts (unit_total night) night start)
    listed_down (suc depth) k lt e =
        let some = not_root night nodes h k depth lt e in
        let f = parent_found night nodes h k some lt in
        let up = listed_down depth (parent nodes k) (omega (arith, f.before, lt)) (omega (arith, f.depth, e)) in
        let p = all k some lt in
        let c = choice_from night (path (parent nodes k)) p.choice in
        let go : RunsThrough night (placed (longer_by (path (parent nodes k)) c)) = subst (λ (b : List Block). RunsThrough night (placed b)) (longer k some lt) p.through in
        let size : length (path (parent nodes k)) < length start + unit_total night = omega
        (arith, short k lt, ap length (longer k some lt), length_longer (path (parent nodes k)) c) in
        subst (λ (b : List Block). In b (plans (unit_total night) night start)) (sym (longer k some lt))
        (goes_on (unit_total night) night start (path (parent nodes k)) c up size ((laws.at_path night (path (parent nodes k)) c i).1 p.there) go)

    -- so they are at most as many as the partial plans that begin with the start
    pub at_most : length nodes ≤ partial_plans night start
    at_most = omega (
      arith,
      counted (unit_total night) night start,
      few (length nodes) path (plans (unit_total night) night start) (λ k lt. listed_down (depth_at nodes k) k lt refl)
          (λ j k lt low e. let one = one_path j k (omega (arith, lt, low)) low (ap (map without_id) e) in omega (arith, lt, one)),
    )
