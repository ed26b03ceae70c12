use Rattle.std.proofs.Common.{rules, None}
use Rattle.shunt_choices.proofs.Trails.{length_units, length_places, covered_next}
use Rattle.shunt_choices.proofs.covered.Covered.of.Goals as goal

pub set-requires-clause-units : goal.set-requires-clause-units
set-requires-clause-units c = search (rules, length_units)

pub set-requires-clause-places : goal.set-requires-clause-places
set-requires-clause-places c = search (rules, length_places)

pub loop-k-preserved : goal.loop-k-preserved
loop-k-preserved c = record {
  done = covered_next (record { unit_in = c.places.ensures.unit_in; position_in = c.places.ensures.position_in }) c.args.instance.now c.args.blocks.now
      c.loop-k.k (record { id = 0; arr = record { 0 = 0 }; p = 0; n = 0; dep = record { 0 = 0 }; q = 0; park = None }) c.loop-k.covered c.set.new.self c.loop-k.invariant.done
      (search rules) (search rules) (search rules) (search rules);
}
