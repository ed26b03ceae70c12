use Rattle.std.proofs.Common.{◌∙◌}
use Rattle.shunt_picture.specs.defs.Words.{fault_text}
use Rattle.shunt_picture.proofs.words.push_numbers.Goals as goal
use Rattle.shunt_lists.proofs.Lists.{lines_more as one_more}

pub loop-fault-preserved : goal.loop-fault-preserved
loop-fault-preserved c = one_more (fault_text) c.args.faults.now c.loop-fault.fault-index _ c.loop-fault.text c.push_fault.new.text c.loop-fault-test.true
    c.in_ok-push_fault.ensures ∙ c.loop-fault.invariant
