use Rattle.std.proofs.Common.{◌-◌, arith}
use Rattle.shunt_picture.specs.defs.Told.{is_marked}
use Rattle.shunt_picture.proofs.Ranges.{noted_more}
use Rattle.shunt_picture.proofs.told.faults_of.Goals as goal

pub loop-kind-preserved : goal.loop-kind-preserved
loop-kind-preserved c =
    let from = c.loop-kind.invariant.from in
    let lt = c.loop-kind-test.true in
    record {
      from = omega (arith, from);
      to = omega (arith, lt);
      faults = noted_more (is_marked c.args.findings.now c.args.id) 5 (c.loop-kind.kind - 5) _ c.loop-kind.kind c.loop-kind.faults.items c.note_fault.new.faults.items
          (omega (arith, from)) (omega (arith, from)) c.loop-kind.invariant.faults c.in_ok-note_fault.ensures;
    }
