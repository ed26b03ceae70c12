-- Children of a node, one after the other.
use Rattle.std.specs.Prelude.{◌≢◌, IsTrue, ◌↔◌, Bool, true, false, Option, Some, None}
use Rattle.std.proofs.Common.{◌≡◌, ⊎_elim, ℕ, ◌+◌, ◌<◌, ◌≤◌, List, length, sym, ap, subst, ◌∙◌, arith}
use Rattle.std.proofs.lemmas.Bool.{cases_lt}
use Rattle.shunt_instance.specs.defs.Instance.{Night}
use Rattle.shunt_blocks.specs.declared.records.Block.{Block}
use Rattle.shunt_choices.specs.defs.Choices.{Choice as PathChoice}
use Rattle.shunt_proof.specs.declared.records.Choice.{Choice}
use Rattle.shunt_proof.specs.declared.records.Node.{Node}
use Rattle.shunt_proof.specs.defs.Nodes.{node_at, AreNodes}
use Rattle.shunt_proof.specs.defs.Trees.{depth_at, IsChildOf, path_at, choice_from, stated_choice}
use Rattle.shunt_proof.specs.defs.Proves.{IsListed}
use Rattle.shunt_checker.specs.defs.NodeFaults.{HasTwin}
use Rattle.shunt_checker.specs.defs.Children.{HasChild, StatesAt, said}

-- what follows below, of one list of nodes
pub record ChildLaws (nodes : List Node) : Type 0 where
  pub are : (k j : ℕ) → k < j → j < length nodes → depth_at nodes j ≡ depth_at nodes k + 1 → ((i : ℕ) → k < i → i < j → depth_at nodes k < depth_at nodes i) → IsChildOf nodes k j
  pub later : (k j : ℕ) → IsChildOf nodes k j → k < j
  pub between : (k j i : ℕ) → IsChildOf nodes k j → k < i → i < j → depth_at nodes k < depth_at nodes i

-- they are those of the law on children
pub child_laws : (night : Night) (nodes : List Node) → AreNodes night nodes
    → ((night : Night) (nodes : List Node) (k j : ℕ) → AreNodes night nodes → k < j → j < length nodes → depth_at nodes j ≡ depth_at nodes k + 1
    → ((i : ℕ) → k < i → i < j → depth_at nodes k < depth_at nodes i) → IsChildOf nodes k j)
    → ((night : Night) (nodes : List Node) (k j : ℕ) → AreNodes night nodes → IsChildOf nodes k j → k < j)
    → ((night : Night) (nodes : List Node) (k j i : ℕ) → AreNodes night nodes → IsChildOf nodes k j → k < i → i < j → depth_at nodes k < depth_at nodes i)
    → ChildLaws nodes
child_laws night nodes h are later between = record {
  are = λ k j after lt deep inner. are night nodes k j h after lt deep inner;
  later = λ k j child. later night nodes k j h child;
  between = λ k j i child after before. between night nodes k j i h child after before;
}

-- no child of a node below a number has this choice
abbrev pub NoneBelow : List Node → ℕ → Choice → ℕ → Type 0
NoneBelow nodes k choice n = (j : ℕ) → j < n → IsChildOf nodes k j → (node_at nodes j).choice ≢ Some choice

-- all nodes between are deeper
abbrev pub AreDeeper : List Node → ℕ → ℕ → Type 0
AreDeeper nodes k n = (i : ℕ) → k < i → i < n → depth_at nodes k < depth_at nodes i

module _ (nodes : List Node) (laws : ChildLaws nodes) (k : ℕ) (choice : Choice) where
  pub none_at_first : (n : ℕ) → n ≤ k + 1 → NoneBelow nodes k choice n
  none_at_first n le j lt child same = let later = laws.later k j child in omega (arith, lt, later, le)

  pub none_deeper_at_first : AreDeeper nodes k (k + 1)
  none_deeper_at_first i lt less = omega (arith, lt, less)

  pub none_more : (n : ℕ) → NoneBelow nodes k choice n → (IsChildOf nodes k n → (node_at nodes n).choice ≢ Some choice) → NoneBelow nodes k choice (n + 1)
  none_more n below here j lt child same = ⊎_elim
      (λ less. below j less child same)
      (λ past. let e : j ≡ n = omega (arith, lt, past) in
      here (subst (λ (i : ℕ). IsChildOf nodes k i) e child) (subst (λ (i : ℕ). (node_at nodes i).choice ≡ Some choice) e same))
      (cases_lt j n)

  pub deeper_more : (n : ℕ) → AreDeeper nodes k n → depth_at nodes k < depth_at nodes n → AreDeeper nodes k (n + 1)
  deeper_more n below here i lt less = ⊎_elim
      (λ before. below i lt before)
      (λ past. let e : i ≡ n = omega (arith, less, past) in subst (λ (j : ℕ). depth_at nodes k < depth_at nodes j) (sym e) here)
      (cases_lt i n)

  -- ---- a look ahead

  pub child_found : (n : ℕ) → k < n → n < length nodes → AreDeeper nodes k n → depth_at nodes n ≡ depth_at nodes k + 1 → (node_at nodes n).choice ≡ Some choice
      → HasChild nodes k choice
  child_found n after lt deeper depth same = record { child = n; below = laws.are k n after lt depth deeper; same = same }

  -- a node that doesn't state it at the children's depth is no child that states it
  pub not_stated : (n deep : ℕ) (b : Bool) → deep ≡ depth_at nodes k + 1 → IsTrue b ↔ StatesAt nodes deep choice n → b ≡ false → IsChildOf nodes k n
      → (node_at nodes n).choice ≢ Some choice
  not_stated n deep b e is never child same = let t : b ≡ true = is.1 (record { depth = child.depth ∙ sym e; same = same }) in cc

  -- behind a node that is no deeper there is no child
  pub none_behind : (n : ℕ) → k < n → depth_at nodes n ≤ depth_at nodes k → NoneBelow nodes k choice n → HasChild nodes k choice → ⊥
  none_behind n after shallow below h = ⊎_elim
      (λ less. below h.child less h.below h.same)
      (λ past. ⊎_elim
      (λ behind. let deep = laws.between k h.child n h.below after behind in omega (arith, deep, shallow))
      (λ at. let e : h.child ≡ n = omega (arith, past, at) in
      let depth : depth_at nodes n ≡ depth_at nodes k + 1 = subst (λ (i : ℕ). depth_at nodes i ≡ depth_at nodes k + 1) e h.below.depth in
      omega (arith, depth, shallow))
      (cases_lt n h.child))
      (cases_lt h.child n)

  pub none_of_all : (n : ℕ) → length nodes ≤ n → NoneBelow nodes k choice n → HasChild nodes k choice → ⊥
  none_of_all n le below h = let there = h.below.there in below h.child (omega (arith, there, le)) h.below h.same

-- ---- twins

module _ (nodes : List Node) (laws : ChildLaws nodes) (p k : ℕ) (child : IsChildOf nodes p k) (choice : Choice) where
  behind : (j : ℕ) → p ≤ j → depth_at nodes j ≡ depth_at nodes k → p < j
  behind j le depth = ⊎_elim
      (λ less. less)
      (λ past. let e : j ≡ p = omega (arith, le, past) in let deep = child.depth in let same : depth_at nodes j
      ≡ depth_at nodes p = ap (depth_at nodes) e in absurd (omega (arith, deep, same, depth)))
      (cases_lt p j)

  pub twin_found : (j : ℕ) → p ≤ j → j < k → depth_at nodes j ≡ depth_at nodes k → (node_at nodes j).choice ≡ Some choice → HasTwin nodes k choice
  twin_found j le before depth same =
      let after = behind j le depth in
      let there = child.there in
      let deep = child.depth in
      record {
        twin = j;
        before = before;
        below = subst (λ (q : ℕ). IsChildOf nodes q j) (sym child.parent)
            (laws.are p j after (omega (arith, before, there)) (omega (arith, depth, deep)) (λ i lt less. laws.between p k i child lt (omega (arith, less, before))));
        same = same;
      }

  pub no_twin : (n : ℕ) → k ≤ n → NoneBelow nodes p choice n → HasTwin nodes k choice → ⊥
  no_twin n le below h = let before = h.before in below h.twin (omega (arith, before, le)) (subst (λ (q : ℕ). IsChildOf nodes q h.twin) child.parent h.below) h.same

-- ---- listed choices

stated_is : (night : Night) (path : List Block) (o : Option Choice) (choice : Choice) → stated_choice night path o ≡ Some (choice_from night path choice) → o ≡ Some choice
stated_is night path None choice e = absurd cc
stated_is night path (Some d) choice e =
    let same : choice_from night path d ≡ choice_from night path choice = cc in
    ap (λ (c : PathChoice). Some (said c)) same

pub listed_is : (night : Night) (start : List Block) (nodes : List Node) (k : ℕ) (choice : Choice) (b : Bool) → IsTrue b ↔ HasChild nodes k choice
    → IsTrue b ↔ IsListed night start nodes k (choice_from night (path_at night start nodes k) choice)
listed_is night start nodes k choice b is = (
  λ t. let h = is.0 t in record { child = h.child; below = h.below; states = ap (λ (o : Option Choice). stated_choice night (path_at night start nodes k) o) h.same },
  λ l. is.1 (record { child = l.child; below = l.below; same = stated_is night (path_at night start nodes k) (node_at nodes l.child).choice choice l.states }),
)
