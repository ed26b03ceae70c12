-- What units and positions cost that no block of a path has.
use Rattle.std.specs.Prelude.{cond, ◌==◌, not, Bool, true, false, slice_index_or}
use Rattle.std.proofs.Common.{◌≡◌, ℕ, suc, ◌+◌, ◌<◌, List, refl, ap, subst, ◌∙◌, arith}
use Rattle.shunt_lists.specs.defs.Below.{sum_below}
use Rattle.std.proofs.lemmas.List.FromFn.{get_or-map-range_with_len}
use Rattle.shunt_instance.specs.defs.Instance.{Night, unit_total, position_total}
use Rattle.shunt_blocks.specs.declared.records.Block.{Block}
use Rattle.shunt_blocks.specs.defs.Lists.{times_unit, times_position}
use Rattle.shunt_choices.specs.defs.Paths.{masks_of}

turned : (a : Bool) (p : ℕ) → cond (not a) 0 p ≡ cond a p 0
turned true p = refl
turned false p = refl

pub unit_part : (night : Night) (blocks : List Block) (u p : ℕ) (b d : Bool) → u < unit_total night → b ≡ slice_index_or (masks_of night blocks).units u d
    → cond b 0 p ≡ cond (times_unit night blocks u == 0) p 0
unit_part night blocks u p b d lt e =
    ap (λ (x : Bool). cond x 0 p) (e ∙ get_or-map-range_with_len (λ k. not (times_unit night blocks k == 0)) 0 (unit_total night) u u d lt (omega arith))
    ∙ turned (times_unit night blocks u == 0) p

pub position_part : (night : Night) (blocks : List Block) (v p : ℕ) (b d : Bool) → v < position_total night → b ≡ slice_index_or (masks_of night blocks).places v d
    → cond b 0 p ≡ cond (times_position night blocks v == 0) p 0
position_part night blocks v p b d lt e =
    ap (λ (x : Bool). cond x 0 p) (e ∙ get_or-map-range_with_len (λ k. not (times_position night blocks k == 0)) 0 (position_total night) v v d lt (omega arith))
    ∙ turned (times_position night blocks v == 0) p

pub units_sum : (night : Night) (blocks : List Block) (xs : List Bool) (u p part : ℕ) (d : Bool) → xs ≡ (masks_of night blocks).units → u < unit_total night
    → part ≡ cond (slice_index_or xs u d) 0 p → part ≡ cond (times_unit night blocks u == 0) p 0
units_sum night blocks xs u p part d e lt is = is ∙ unit_part night blocks u p (slice_index_or xs u d) d lt (ap (λ (ys : List Bool). slice_index_or ys u d) e)

pub positions_sum : (night : Night) (blocks : List Block) (xs : List Bool) (v p part : ℕ) (d : Bool) → xs ≡ (masks_of night blocks).places → v < position_total night
    → part ≡ cond (slice_index_or xs v d) 0 p → part ≡ cond (times_position night blocks v == 0) p 0
positions_sum night blocks xs v p part d e lt is = is ∙ position_part night blocks v p (slice_index_or xs v d) d lt (ap (λ (ys : List Bool). slice_index_or ys v d) e)

-- one part more
pub one_more : (f : ℕ → ℕ) (n sum part : ℕ) → sum ≡ sum_below n f → part ≡ f n → sum + part ≡ sum_below (n + 1) f
one_more f n sum part es ep =
    let next : suc n ≡ n + 1 = omega arith in
    let here : sum + part ≡ sum_below n f + f n = omega (arith, es, ep) in
    subst (λ (m : ℕ). sum + part ≡ sum_below m f) next here
