-- The table of shares, from its entries in a row.
use Rattle.std.specs.Prelude.{Option, None, slice_index_or}
use Rattle.std.proofs.Common.{◌≡◌, ℕ, ◌+◌, ◌*◌, ◌/◌, ◌%◌, ◌<◌, List, length, refl, ◌∙◌, subst, arith}
use Rattle.std.proofs.lemmas.Nat.{mul-add-lt, div-mul-add, mod-mul-add}
use Rattle.shunt_instance.specs.defs.Instance.{Night, unit_total, position_total}
use Rattle.shunt_dual.specs.defs.Shares.{IsEntry, AreShares}

pub are_shares : (night : Night) (entries : List (Option ℕ)) (positions cells : ℕ) → positions ≡ position_total night → cells ≡ unit_total night * position_total night
    → length entries ≡ cells → ((k : ℕ) → k < cells → IsEntry night (k / positions) (k % positions) (slice_index_or entries k None))
    → AreShares night (record { units = unit_total night; positions = position_total night; entries = entries })
are_shares night entries positions cells pe ce size each = record {
  units = refl;
  positions = refl;
  size = size ∙ ce;
  each = λ u v ul vl.
      let w = position_total night in
      let at = u * w + v in
      let within : at < cells = omega (arith, mul-add-lt u w v (unit_total night) ul vl, ce) in
      let is : IsEntry night (at / w) (at % w) (slice_index_or entries at None) = subst (λ (p : ℕ). IsEntry night (at / p) (at % p) (slice_index_or entries at None)) pe
      (each at within) in
      subst (λ (a : ℕ). IsEntry night a v (slice_index_or entries at None)) (div-mul-add u w v vl)
      (subst (λ (b : ℕ). IsEntry night (at / w) b (slice_index_or entries at None)) (mod-mul-add u w v vl) is);
}
