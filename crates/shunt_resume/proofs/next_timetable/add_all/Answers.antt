use Rattle.std.proofs.Common.{rules, length, ◌<◌, ◌∙◌}
use Rattle.shunt_resume.specs.defs.Resumed.{runs_for}
use Rattle.shunt_resume.proofs.Adding.{blocks_on}
use Rattle.shunt_resume.proofs.next_timetable.add_all.Goals as goal

pub added-preserved : goal.added-preserved
added-preserved c =
    let lt : c.added.block-index < length c.args.blocks.now = search rules in
    blocks_on (runs_for c.args.instance.now c.args.minute c.args.name.now) c.args.blocks.now c.added.block-index _ c.added.placed.items c.add_for.new.placed.items lt
    c.in_ok-add_for.ensures
    ∙ c.added.invariant
