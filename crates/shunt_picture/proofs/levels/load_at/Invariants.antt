use Rattle.std.proofs.Common.{◌≡◌, ◌≤◌, ◌*◌, take}
use Rattle.shunt_picture.specs.defs.Levels.{load_at}
use Rattle.shunt_picture.proofs.levels.load_at.Given as goal

abbrev pub invariant-loop-stay : goal.invariant-loop-stay
invariant-loop-stay l = record {
  load : l.load ≡ load_at (take l.stay-index l.stays) l.minute;
  small : l.load ≤ 4294967295 * l.stay-index;
}
