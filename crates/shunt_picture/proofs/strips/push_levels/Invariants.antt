use Rattle.std.proofs.Common.{◌≡◌, ◌++◌, drop}
use Rattle.std.specs.List.{flat_map}
use Rattle.shunt_picture.specs.defs.LaneTexts.{level_text}
use Rattle.shunt_picture.proofs.strips.push_levels.Given as goal

abbrev pub invariant-loop-level : goal.invariant-loop-level
invariant-loop-level l = l.text ++ flat_map (level_text l.from l.lane) (drop l.level-index l.levels) ≡ l.fn.text ++ flat_map (level_text l.from l.lane) l.levels
