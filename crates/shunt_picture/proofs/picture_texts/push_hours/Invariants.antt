use Rattle.std.proofs.Common.{◌≡◌, ◌≤◌, ◌-◌, ◌++◌}
use Rattle.std.specs.List.{flat_map, range_with_len}
use Rattle.shunt_picture.specs.defs.PictureTexts.{hour_text}
use Rattle.shunt_picture.proofs.picture_texts.push_hours.Given as goal

abbrev pub invariant-loop-hour : goal.invariant-loop-hour
invariant-loop-hour l = record {
  from : l.picture.from ≤ l.hour;
  to : l.hour - l.picture.from ≤ l.picture.to - l.picture.from;
  text : l.text ≡ l.fn.text ++ flat_map (hour_text l.picture) (range_with_len l.picture.from (l.hour - l.picture.from));
}
