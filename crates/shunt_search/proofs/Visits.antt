-- What a visit of a child rests on.
use Rattle.std.specs.Prelude.{All, Option, Some, None, unwrap_or}
use Rattle.std.proofs.Common.{◌≡◌, ℕ, ◌+◌, ◌<◌, ◌≤◌, List, [], ◌∷◌, length, take, subst, ap, ◌∙◌, arith}
use Rattle.std.proofs.lemmas.List.{length-append, length-take-le}
use Rattle.shunt_base.specs.declared.duals.Case.{Case}
use Rattle.shunt_instance.specs.defs.Instance.{Night, IsInstance}
use Rattle.shunt_blocks.specs.declared.records.Block.{Block}
use Rattle.shunt_proof.specs.defs.Nodes.{AreStatable, FitsNode}
use Rattle.shunt_search.specs.declared.child.Child.{Child}
use Rattle.shunt_search.specs.declared.notes.NodeNoted.{NodeNoted}
use Rattle.shunt_search.specs.declared.notes.NodeNoted.TheVariants as noted
use Rattle.shunt_search.specs.defs.Yards.{IsNextBlock}
use Rattle.shunt_search.specs.defs.WalkStates.{kept, goal_of, IsNodeOf, IsInStock, node_below, place_of}

-- what is known of the nodes of children
abbrev pub NextLaw : Type 0
NextLaw = (night : Night) (stock : List (List Case)) (start path : List Block) (t : Child) (how : NodeNoted) → IsInstance night → All (AreStatable night) stock
    → IsInStock stock how
    → IsNextBlock night (take (kept t) path) t.block
    → length start < t.block.id → t.block.id ≤ length start + 160 → IsNodeOf night start path t (node_below (length start) t.block stock how)

module _ (night : Night) (path : List Block) (t : Child) (next : IsNextBlock night (take (kept t) path) t.block) where
  pub deep : (pins : ℕ) → pins ≤ kept t → pins < t.block.id
  deep pins le = let id = next.id in omega (arith, le, id)

  pub few : (pins : ℕ) (now : List Block) → now ≡ goal_of path t → length now ≤ 160 → t.block.id ≤ pins + 160
  few pins now e le =
      let id = next.id in
      let long : length now ≡ length (take (kept t) path) + 1 = ap (λ (l : List Block). length l) e ∙ length-append (take (kept t) path) (t.block ∷ []) in
      omega (arith, id, long, le)

  pub fits : NextLaw → IsInstance night → (stock : List (List Case)) → All (AreStatable night) stock → (how : NodeNoted) → IsInStock stock how → (pins : ℕ) → pins ≤ length path
      → pins < t.block.id → t.block.id ≤ pins + 160 → FitsNode night (node_below pins t.block stock how)
  fits law formed stock statable how there pins le deep few =
      let size = length-take-le pins path le in
      subst (λ n. FitsNode night (node_below n t.block stock how)) size
      (law night stock (take pins path) path t how formed statable there next (omega (arith, size, deep)) (omega (arith, size, few))).fits

-- the place of a node's cases is in the stock
pub place_in : (stock : List (List Case)) (how : NodeNoted) (above place : ℕ) → place_of how above ≡ Some place → above < length stock → IsInStock stock how → place < length stock
place_in stock noted.Whole above place e below there = absurd (other e)
  where
    other : None ≡ Some place → ⊥
    other e = cc
place_in stock noted.Same above place e below there = subst (λ (k : ℕ). k < length stock) (ap (λ (o : Option ℕ). unwrap_or o 0) e) below
place_in stock (noted.Own own) above place e below there = subst (λ (k : ℕ). k < length stock) (ap (λ (o : Option ℕ). unwrap_or o 0) e) there
