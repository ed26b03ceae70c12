use Rattle.shunt_cross.proofs.Bounds.{pairs_fit}
use Rattle.shunt_cross.proofs.clash.pairs.Goals as goal

pub overflow_add-pairs : goal.overflow_add-pairs
overflow_add-pairs c = record {
  fits = pairs_fit c.args.stays.now c.requires.stays c.requires.few c.loop-stay.stay-index c.loop-stay.pairs c.crossed_by-pairs.result _
      c.loop-stay-test.true c.loop-stay.invariant c.crossed_by-pairs.ensures;
}
