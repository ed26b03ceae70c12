use Rattle.std.proofs.Common.{◌∙◌}
use Rattle.shunt_picture.specs.defs.Words.{fault_line}
use Rattle.shunt_picture.proofs.words.push_fault_lines.Goals as goal
use Rattle.shunt_lists.proofs.Lists.{lines_more as one_more}

pub loop-fault-preserved : goal.loop-fault-preserved
loop-fault-preserved c = one_more fault_line c.args.faults.now c.loop-fault.fault-index _ c.loop-fault.text c.push_fault_line.new.text c.loop-fault-test.true
    c.in_ok-push_fault_line.ensures ∙ c.loop-fault.invariant
