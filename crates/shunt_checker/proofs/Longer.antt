-- The sum of a case at a path with one more choice.
use Rattle.std.specs.Prelude.{None, ◌-ℤ◌}
use Rattle.std.proofs.Common.{◌≡◌, ℕ, ◌+◌, List, [], ◌∷◌, ◌++◌, length, Option, ℤ, ◌+ℤ◌, sym, ap, subst, ◌∙◌, arith}
use Rattle.std.proofs.lemmas.Int.{ints}
use Rattle.shunt_base.specs.declared.duals.Price.{Price}
use Rattle.shunt_base.specs.declared.duals.Case.{Case}
use Rattle.shunt_instance.specs.defs.Instance.{Night}
use Rattle.shunt_blocks.specs.declared.records.Shape.{Shape}
use Rattle.shunt_blocks.specs.declared.records.Block.{Block}
use Rattle.shunt_blocks.specs.declared.records.Park.{Park}
use Rattle.shunt_blocks.specs.defs.Shapes.{shape_of}
use Rattle.shunt_choices.specs.defs.Paths.{Masks, masks_of}
use Rattle.shunt_choices.specs.defs.Choices.{longer_by, chosen}
use Rattle.shunt_prices.specs.defs.Prices.{price_part_with}
use Rattle.shunt_prices.specs.defs.Cases.{IsFreeBlock, weight, weight_with, duals_over}
use Rattle.shunt_prices.specs.defs.Bounds.{sum_at}
use Rattle.shunt_checker.specs.defs.Lows.{offer_of}
use Rattle.shunt_prices.proofs.Counts.{no_part}

pub unparked : (night : Night) (prices : List Price) (s : Shape) (park : Option Park) → park ≡ None → 0 ≡ price_part_with night prices s park
unparked night prices s park e = sym (ap (price_part_with night prices s) e ∙ no_part night prices s)

grown : (old new sum w over z W O : ℤ) → new ≡ old +ℤ (W -ℤ O) → sum ≡ old → w ≡ W → over ≡ O → z ≡ sum +ℤ (w -ℤ over) → z ≡ new
grown old new sum w over z W O step es ew eo ez = omega (arith, ints, step, es, ew, eo, ez)

-- what the law on longer paths says of one path and case
abbrev pub SumLaw : Night → List Block → ℕ → Case → Type 0
SumLaw night path from case = (b : Block) → IsFreeBlock night (masks_of night path) (shape_of b) b.park
    → sum_at night (path ++ b ∷ []) from case ≡ sum_at night path from case +ℤ (weight night case b -ℤ duals_over night case.duals (shape_of b))

pub longer_is : (night : Night) (path : List Block) (covered : Masks) (from : ℕ) (case : Case) (s : Shape) (park : Option Park) (sum w over z : ℤ) → SumLaw night path from case
    → covered ≡ masks_of night path → IsFreeBlock night covered s park → sum ≡ sum_at night path from case → w ≡ weight_with night case s park
    → over ≡ duals_over night case.duals s
    → z ≡ sum +ℤ (w -ℤ over) → z ≡ sum_at night (longer_by path (offer_of s park)) from case
longer_is night path covered from case s park sum w over z law ec free es ew eo ez =
    grown (sum_at night path from case) (sum_at night (longer_by path (offer_of s park)) from case) sum w over z (weight_with night case s park) (duals_over night case.duals s)
    (law (chosen (length path + 1) (offer_of s park)) (subst (λ (m : Masks). IsFreeBlock night m s park) ec free)) es ew eo ez
