-- Sums of signed numbers as code has them, and the sum of a case from its parts.
use Rattle.std.proofs.Common.{◌≡◌, ℕ, List, ℤ, subst}
use Rattle.shunt_base.specs.declared.duals.Duals.{Duals}
use Rattle.shunt_instance.specs.defs.Instance.{Night}
use Rattle.shunt_blocks.specs.declared.records.Block.{Block}
use Rattle.shunt_prices.specs.defs.Sums.{sum_z}
use Rattle.shunt_prices.specs.defs.Cases.{weight}
use Rattle.shunt_dual.specs.defs.Weighed.{case_of}

-- ---- the sum of a case

pub weights_are : (night : Night) (to : ℕ) (m n : ℤ) (d : Duals) (bs path : List Block) (w : ℤ) → m ≡ n → bs ≡ path → w ≡ sum_z (weight night (case_of m d)) bs
    → w ≡ sum_z (weight night (record { to = to; multiplier = n; duals = d })) path
weights_are night to m n d bs path w em eb e =
    subst (λ (x : ℤ). w ≡ sum_z (weight night (case_of x d)) path) em (subst (λ (ys : List Block). w ≡ sum_z (weight night (case_of m d)) ys) eb e)
