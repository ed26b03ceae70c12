use Rattle.std.proofs.Common.{◌≡◌, ◌≤◌, ◌+◌, ◌-◌, ◌*◌, length}
use Rattle.shunt_blocks.specs.defs.Shapes.{AreRunsWithin}
use Rattle.shunt_choices.specs.defs.Cursors.{options_left}
use Rattle.shunt_choices.proofs.types.OptionsIterator.next.Given as goal

abbrev pub invariant-candidates : goal.invariant-candidates
invariant-candidates l = record {
  shape : AreRunsWithin l.self-inside.instance.now l.self-inside.shape;
  within : l.self-inside.at ≤ l.end;
  end : l.end ≡ 4 * length l.self-inside.instance.now.station.tracks + 1;
  left : options_left l.self-inside.instance.now l.self-inside.shape l.self-inside.at ≡ l.fn.self;
}

abbrev pub decreases-candidates : goal.decreases-candidates
decreases-candidates l = l.end - l.self-inside.at
