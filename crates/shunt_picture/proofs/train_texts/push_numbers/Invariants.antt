use Rattle.std.proofs.Common.{◌≡◌, ◌++◌, drop}
use Rattle.std.specs.List.{flat_map}
use Rattle.shunt_picture.specs.defs.PictureTexts.{number_text}
use Rattle.shunt_picture.proofs.train_texts.push_numbers.Given as goal

abbrev pub invariant-loop-place : goal.invariant-loop-place
invariant-loop-place l = l.text ++ flat_map number_text (drop l.place-index l.places) ≡ l.fn.text ++ flat_map number_text l.places
