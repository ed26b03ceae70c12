use Rattle.std.proofs.Common.{◌≡◌, ◌++◌, drop}
use Rattle.std.specs.List.{flat_map}
use Rattle.shunt_picture.specs.defs.BarTexts.{bar_text}
use Rattle.shunt_picture.proofs.strips.push_bars.Given as goal

abbrev pub invariant-loop-bar : goal.invariant-loop-bar
invariant-loop-bar l = l.text ++ flat_map (bar_text l.from l.kinds l.lane) (drop l.bar-index l.bars) ≡ l.fn.text ++ flat_map (bar_text l.from l.kinds l.lane) l.bars
