-- Signed numbers as code holds them.
use mir.Syntax.{w64}
use mir.Val.{to_z, of_z}
use Rattle.std.specs.Prelude.{◌-ℤ◌}
use Rattle.std.proofs.Common.{◌≡◌, ℤ, ◌+ℤ◌, arith}
use Rattle.std.proofs.lemmas.Int.{ints}
use Rattle.shunt_prices.specs.defs.Sums.{IsWithin}
use Rattle.shunt_checker.specs.defs.Tallies.{IsInWord}

pub seen_sum : (z : ℤ) → IsWithin 4100000000000000000 z → to_z w64 (of_z w64 z) ≡ z
seen_sum z h = omega (arith, ints, h.low, h.high)

pub seen_lone : (z : ℤ) → IsWithin 4080000000000000000 z → to_z w64 (of_z w64 z) ≡ z
seen_lone z h = omega (arith, ints, h.low, h.high)

pub seen_with : (lone fall : ℤ) → IsWithin 4080000000000000000 lone → IsWithin 639999999999360 fall
    → to_z w64 (of_z w64 (to_z w64 (of_z w64 lone) +ℤ to_z w64 (of_z w64 fall))) ≡ lone +ℤ fall
seen_with lone fall l f = omega (arith, ints, l.low, l.high, f.low, f.high)

pub seen_choice : (whole fall gained : ℤ) → IsWithin 4050000000000000000 whole → IsWithin 639999999999360 fall → IsWithin 23056939999999983 gained
    → to_z w64 (of_z w64 (to_z w64 (of_z w64 (to_z w64 (of_z w64 whole) +ℤ to_z w64 (of_z w64 fall))) -ℤ to_z w64 (of_z w64 gained))) ≡ whole +ℤ fall -ℤ gained
seen_choice whole fall gained w f g = omega (arith, ints, w.low, w.high, f.low, f.high, g.low, g.high)

pub choice_within : (whole fall gained : ℤ) → IsWithin 4050000000000000000 whole → IsWithin 639999999999360 fall → IsWithin 23056939999999983 gained
    → IsWithin 4100000000000000000 (whole +ℤ fall -ℤ gained)
choice_within whole fall gained w f g = record {
  low = omega (arith, ints, w.low, w.high, f.low, f.high, g.low, g.high);
  high = omega
      (arith, ints, w.low, w.high, f.low, f.high, g.low, g.high);
}

pub with_within : (lone fall : ℤ) → IsWithin 4080000000000000000 lone → IsWithin 639999999999360 fall → IsWithin 4100000000000000000 (lone +ℤ fall)
with_within lone fall l f = record { low = omega (arith, ints, l.low, l.high, f.low, f.high); high = omega (arith, ints, l.low, l.high, f.low, f.high) }

pub seen_word : (z : ℤ) → IsInWord z → to_z w64 (of_z w64 z) ≡ z
seen_word z h = omega (arith, ints, h.low, h.high)
