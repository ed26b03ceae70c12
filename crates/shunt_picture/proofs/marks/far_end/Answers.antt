use Rattle.std.proofs.Common.{arith}
use Rattle.shunt_picture.specs.defs.Layouts.{end_of}
use Rattle.shunt_picture.proofs.Widest.{widest_noted, widest_all}
use Rattle.shunt_picture.proofs.marks.far_end.Goals as goal

pub loop-train-preserved : goal.loop-train-preserved
loop-train-preserved c =
    let least = c.loop-train.invariant.least in
    let is = c.farther-far.ensures in
    record {
      least = omega (arith, least, is);
      trains = widest_noted (end_of c.args.from) c.args.trains.now c.loop-train.train-index c.train-item.result c.loop-train.far _ c.loop-train-test.true c.train-item.is
          c.loop-train.invariant.trains is;
    }

pub returns-clause-trains : goal.returns-clause-trains
returns-clause-trains c = widest_all (end_of c.args.from) c.args.trains.now c.loop-train.train-index c.loop-train.far c.loop-train.invariant.trains c.loop-train-test.false
