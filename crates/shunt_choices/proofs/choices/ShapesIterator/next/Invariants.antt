use Rattle.std.proofs.Common.{◌≡◌, ◌<◌, ◌≤◌, ◌+◌, ◌-◌, ◌*◌}
use Rattle.shunt_instance.specs.defs.Instance.{unit_total, position_total}
use Rattle.shunt_choices.specs.defs.Cursors.{shapes_left}
use Rattle.shunt_choices.proofs.choices.ShapesIterator.next.Given as goal

abbrev pub invariant-cells : goal.invariant-cells
invariant-cells l = record {
  unit : l.self-inside.u < unit_total l.self-inside.instance.now;
  within : l.self-inside.v ≤ l.total;
  total : l.total ≡ position_total l.self-inside.instance.now;
  few : l.total ≤ 160;
  left : shapes_left l.self-inside.instance.now l.self-inside.u l.self-inside.reach l.self-inside.most l.self-inside.n l.self-inside.v ≡ l.fn.self;
}

abbrev pub decreases-cells : goal.decreases-cells
decreases-cells l = (l.self-inside.most - l.self-inside.n) * 161 + (160 - l.self-inside.v)
