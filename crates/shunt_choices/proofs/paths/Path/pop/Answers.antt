use Rattle.std.proofs.Common.{rules}
use Rattle.shunt_choices.proofs.Masks.{length_filled}
use Rattle.shunt_choices.proofs.Trails.{length_units, length_places, popped}
use Rattle.shunt_choices.proofs.paths.Path.pop.Goals as goal

pub set-requires-clause-units : goal.set-requires-clause-units
set-requires-clause-units c = search (rules, length_units)

pub set-requires-clause-places : goal.set-requires-clause-places
set-requires-clause-places c = search (rules, length_places)

pub invariant_of-self-2 : goal.invariant_of-self-2
invariant_of-self-2 c = search (rules, length_filled)

pub returns-clause-of : goal.returns-clause-of
returns-clause-of c = let is = popped (record { unit_in = c.places.ensures.unit_in; position_in = c.places.ensures.position_in }) c.args.instance.now c.args.self.now
    c.pop.new.self.items c.in_ok-block.block c.set.new.self c.requires.of (search rules) (search rules) (search rules) in search (rules, is)
