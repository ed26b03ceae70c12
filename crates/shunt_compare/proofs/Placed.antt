-- Which block of a feasible plan has a unit.
use Rattle.std.proofs.Common.{◌≡◌, ℕ, ◌<◌, true, List, arith, subst, sym, ap, ◌∙◌}
use Rattle.shunt_lists.specs.defs.Members.{In}
use Rattle.shunt_lists.proofs.Members.{in_to}
use Rattle.shunt_instance.specs.defs.Instance.{Night, unit_total}
use Rattle.shunt_blocks.specs.declared.records.Block.{Block}
use Rattle.shunt_blocks.specs.defs.Shapes.{shape_of, begins_at}
use Rattle.shunt_blocks.specs.defs.Blocks.{IsBlock}
use Rattle.shunt_blocks.specs.defs.Lists.{IsFeasible, has_unit}
use Rattle.shunt_compare.specs.declared.records.Placement.{Placement}
use Rattle.shunt_compare.specs.declared.records.Change.{Change}
use Rattle.shunt_compare.specs.defs.Changes.{placement_of, IsPlacement, IsChange, IsRegrouped}
use Rattle.shunt_blocks.proofs.Held.{holder, one_holder}
use Rattle.shunt_blocks.proofs.Shapes.{begins_itself as begins}

module _ (night : Night) (blocks : List Block) (h : IsFeasible night blocks) where
  pub is_block : (b : Block) → In b blocks → IsBlock night b
  is_block b there = let c = in_to blocks b there in subst (IsBlock night) c.2 (h.each c.0 b c.1)

  pub some_with : (u : ℕ) → u < unit_total night → (b : Block) × In b blocks × (has_unit night (shape_of b) u ≡ true)
  some_with u lt = holder (λ b. has_unit night (shape_of b) u) blocks (omega (arith, h.covers.units u lt))

  pub one_with : (u : ℕ) (b c : Block) → u < unit_total night → In b blocks → In c blocks → has_unit night (shape_of b) u ≡ true → has_unit night (shape_of c) u ≡ true → b ≡ c
  one_with u b c lt = one_holder (λ x. has_unit night (shape_of x) u) blocks b c (omega (arith, h.covers.units u lt))

  -- what the plan does with a unit is one thing
  pub one_placement : (u : ℕ) (x y : Placement) → u < unit_total night → IsPlacement night blocks u x → IsPlacement night blocks u y → x ≡ y
  one_placement u x y lt p q = p.is ∙ (ap (λ (b : Block). placement_of night b u) (one_with u p.block q.block lt p.there q.there p.has q.has) ∙ sym q.is)

  -- the block that begins at a unit is the one that has it
  pub begins_with : (u : ℕ) (b c : Block) → u < unit_total night → In b blocks → begins_at night b ≡ u → In c blocks → has_unit night (shape_of c) u ≡ true → b ≡ c
  begins_with u b c lt there e other has = one_with u b c lt there other (subst (λ (v : ℕ). has_unit night (shape_of b) v ≡ true) e
      (begins night b (is_block b there).shape.within.n)) has

-- no unit that both plans place alike is changed
pub no_change : (night : Night) (was now : List Block) (u : ℕ) (x y : Placement) → IsFeasible night was → IsFeasible night now → u < unit_total night →
    IsPlacement night was u x → IsPlacement night now u y → x ≡ y → (c : Change) → c.unit ≡ u → IsChange night was now c → ⊥
no_change night was now u x y before after lt p q e c at h = h.differs (one_placement night was before u c.was x lt (subst (λ (v : ℕ). IsPlacement night was v c.was) at h.before) p
    ∙ (e ∙ one_placement night now after u y c.now lt q (subst (λ (v : ℕ). IsPlacement night now v c.now) at h.after)))

-- each unit is changed in one way
pub one_change : (night : Night) (was now : List Block) → IsFeasible night was → IsFeasible night now → (c d : Change) → c.unit < unit_total night → d.unit ≡ c.unit →
    IsChange night was now c → IsChange night was now d → d ≡ c
one_change night was now before after c d lt e h k = same e
    (one_placement night was before c.unit d.was c.was lt (subst (λ (v : ℕ). IsPlacement night was v d.was) e k.before) h.before)
    (one_placement night now after c.unit d.now c.now lt (subst (λ (v : ℕ). IsPlacement night now v d.now) e k.after) h.after)
  where
    same : d.unit ≡ c.unit → d.was ≡ c.was → d.now ≡ c.now → d ≡ c
    same u w n = ap (λ (x : ℕ). record { unit = x; was = d.was; now = d.now }) u
        ∙ (ap (λ (x : Placement). record { unit = c.unit; was = x; now = d.now }) w ∙ ap (λ (x : Placement). record { unit = c.unit; was = c.was; now = x }) n)

-- one block begins at each unit
pub one_beginning : (night : Night) (was now : List Block) → IsFeasible night now → (b c : Block) (u : ℕ) → u < unit_total night → begins_at night b ≡ u → begins_at night c ≡ u →
    IsRegrouped was now b → IsRegrouped was now c → c ≡ b
one_beginning night was now after b c u lt e f h k = begins_with night now after u c b lt k.there f h.there
    (subst (λ (v : ℕ). has_unit night (shape_of b) v ≡ true) e (begins night b (is_block night now after b h.there).shape.within.n))
