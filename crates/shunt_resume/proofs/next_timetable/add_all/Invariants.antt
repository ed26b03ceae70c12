use Rattle.std.proofs.Common.{◌≡◌, drop}
use Rattle.shunt_resume.specs.defs.Resumed.{train_runs, with_runs}
use Rattle.shunt_resume.proofs.next_timetable.add_all.Given as goal

abbrev pub invariant-added : goal.invariant-added
invariant-added l = with_runs (train_runs l.instance l.minute (drop l.block-index l.blocks) l.name) l.placed.items ≡ with_runs (train_runs l.instance l.minute l.blocks l.name) l.fn.placed.items
