use Rattle.std.proofs.Common.{rules, sym, subst}
use Rattle.shunt_choices.specs.defs.Paths.{IsTrailOf}
use Rattle.shunt_choices.proofs.Masks.{length_filled}
use Rattle.shunt_choices.proofs.Trails.{pushed, room, length_units, length_places, covered_pushed}
use Rattle.shunt_choices.proofs.paths.Path.push.Goals as goal

pub set-requires-clause-units : goal.set-requires-clause-units
set-requires-clause-units c = search (rules, length_units)

pub set-requires-clause-places : goal.set-requires-clause-places
set-requires-clause-places c = search (rules, length_places)

pub unreachable-requires : goal.unreachable-requires
unreachable-requires c = let room_for = room c.few_blocks.ensures.fewer in search (rules, room_for, length_units)

pub invariant_of-self : goal.invariant_of-self
invariant_of-self c = search (rules, length_filled)

pub returns-clause-new : goal.returns-clause-new
returns-clause-new c = let covered = covered_pushed (record { unit_in = c.places.ensures.unit_in; position_in = c.places.ensures.position_in }) c.args.instance.now
    c.args.self.now.blocks c.args.block c.args.self.now.covered c.set.new.self c.requires.of.covered c.requires.in_range (search rules) (search rules) in search (rules, covered)

pub returns-clause-of : goal.returns-clause-of
returns-clause-of c = let is = pushed (record { unit_in = c.places.ensures.unit_in; position_in = c.places.ensures.position_in }) c.args.instance.now c.args.self.now c.args.block
    c.requires.of c.requires.in_range c.requires.units c.requires.positions in subst (IsTrailOf c.args.instance.now) (sym (returns-clause-new c)) is
