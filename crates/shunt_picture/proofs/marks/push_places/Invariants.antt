use Rattle.std.proofs.Common.{◌≡◌, ◌++◌, drop}
use Rattle.std.specs.List.{flat_map}
use Rattle.shunt_picture.specs.defs.Marks.{place_text}
use Rattle.shunt_picture.proofs.marks.push_places.Given as goal

abbrev pub invariant-loop-place : goal.invariant-loop-place
invariant-loop-place l = l.text ++ flat_map (place_text l.kind) (drop l.place-index l.places) ≡ l.fn.text ++ flat_map (place_text l.kind) l.places
