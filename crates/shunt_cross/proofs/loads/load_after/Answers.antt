use Rattle.shunt_cross.proofs.Bounds.{load_fits}
use Rattle.shunt_cross.proofs.loads.load_after.Goals as goal

pub overflow_add-total : goal.overflow_add-total
overflow_add-total c = record {
  fits = load_fits c.args.stays.now c.args.stay.now.track.0 c.args.stay.now.enter c.requires.stays c.requires.few c.loop-other.other-index
      c.loop-other.total c.length_at-total.result _ c.loop-other-test.true c.loop-other.invariant c.length_at-total.ensures;
}
