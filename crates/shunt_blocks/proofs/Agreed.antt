-- Tests hold exactly when their facts do.
use Rattle.std.specs.Prelude.{◌↔◌, is_some, IsTrue, Option, Some, None}
use Rattle.std.proofs.Common.{ℕ, refl, arith}
use Rattle.std.proofs.lemmas.Bool.Decides.{nat_tests}
use Rattle.shunt_instance.specs.defs.Instance.{Night}
use Rattle.shunt_blocks.specs.declared.records.Shape.{Shape}
use Rattle.shunt_blocks.specs.declared.records.Park.{Park}
use Rattle.shunt_blocks.specs.defs.Shapes.{HasUnit, HasPosition, IsOnTrack, IsPair, is_pair}
use Rattle.shunt_blocks.specs.defs.Ways.{park_way_in, park_way_out, permits_units}
use Rattle.shunt_blocks.specs.defs.Blocks.{IsOption, is_option}
use Rattle.shunt_blocks.specs.defs.Lists.{has_unit, has_position}
use Rattle.shunt_lists.proofs.Tests.{all_three, from_three}

pub unit_test : (night : Night) (s : Shape) (u : ℕ) → IsTrue (has_unit night s u) ↔ HasUnit night s u
unit_test night s u = (λ e. record { from = grind (arith, nat_tests); to = grind (arith, nat_tests) }, λ h. grind (arith, nat_tests, h.from, h.to))

pub position_test : (night : Night) (s : Shape) (v : ℕ) → IsTrue (has_position night s v) ↔ HasPosition night s v
position_test night s v = (λ e. record { from = grind (arith, nat_tests); to = grind (arith, nat_tests) }, λ h. grind (arith, nat_tests, h.from, h.to))

pub pair_test : (night : Night) (u v : ℕ) → IsTrue (is_pair night u v) ↔ IsPair night u v
pair_test night u v = (λ e. record { kind = grind (arith, nat_tests); ready = grind (arith, nat_tests) }, λ h. grind (arith, nat_tests, h.kind, h.ready))

pub option_test : (night : Night) (s : Shape) (o : Option Park) → IsOnTrack night.station o → IsTrue (is_option night s o) ↔ IsOption night s o
unfolding is_option
option_test night s None low = (λ e. tt, λ h. refl)
option_test night s (Some k) low = (
  λ e. let three = all_three (is_some (park_way_in night s k)) (is_some (park_way_out night s.dep k)) (permits_units night s k.track) e in
      record { track = low; permitted = three.2; way_in = three.0; way_out = three.1 },
  λ h. from_three (is_some (park_way_in night s k)) (is_some (park_way_out night s.dep k)) (permits_units night s k.track) h.way_in h.way_out h.permitted,
)
