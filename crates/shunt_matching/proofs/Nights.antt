-- The types of a night's units and positions are the station's.
use Rattle.std.proofs.Common.{◌≡◌, ◌<◌, length, ap, arith}
use Rattle.std.proofs.lemmas.List.{length-map}
use Rattle.shunt_instance.specs.defs.Instance.{Night, IsInstance, unit_total, position_total}
use Rattle.shunt_instance.specs.defs.Matching.{Entry, unit_entries, position_entries}
use Rattle.shunt_instance.proofs.Facts.{unit_at_is, position_at_is, unit_entry_is, position_entry_is}
use Rattle.shunt_matching.specs.defs.Counts.{HasKindsBelow}
use Rattle.shunt_instance.proofs.Orders.{opened}

pub length-unit_entries : (night : Night) → length (unit_entries night) ≡ unit_total night
length-unit_entries night = length-map _ _

pub length-position_entries : (night : Night) → length (position_entries night) ≡ position_total night
length-position_entries night = length-map _ _

pub unit_kinds : (night : Night) → IsInstance night → HasKindsBelow (length night.station.types) (unit_entries night)
unit_kinds night is = λ i lt.
    let there : i < unit_total night = omega (arith, length-unit_entries night) in
    omega (arith, (unit_at_is night i (opened night is) there).kind_in, ap (λ (e : Entry). e.kind) (unit_entry_is night i there))

pub position_kinds : (night : Night) → IsInstance night → HasKindsBelow (length night.station.types) (position_entries night)
position_kinds night is = λ i lt.
    let there : i < position_total night = omega (arith, length-position_entries night) in
    omega (arith, (position_at_is night i (opened night is) there).kind_in, ap (λ (e : Entry). e.kind) (position_entry_is night i there))
