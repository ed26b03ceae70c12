use Rattle.std.proofs.Common.{List, subst}
use Rattle.shunt_instance.specs.declared.records.Permit.{Permit}
use Rattle.shunt_instance.specs.declared.records.Route.{Route}
use Rattle.shunt_instance.specs.declared.records.Train.{Train}
use Rattle.shunt_instance.specs.defs.Tables.{AreFirsts, AreCosts, AreNamed, ArePairs}
use Rattle.shunt_instance.proofs.Looked.{sorted_trains, formed_of, entries_of}
use Rattle.shunt_instance.proofs.joined.Instance.join.Goals as goal

pub number_units-requires-clause-few : goal.number_units-requires-clause-few
number_units-requires-clause-few c = (sorted_trains _ _ _ _ c.requires.timetable.arrive c.deref.ensures.value c.in_ok-arrive.ensures).few

pub number_units-requires-clause-short : goal.number_units-requires-clause-short
number_units-requires-clause-short c = λ k d lt. ((sorted_trains _ _ _ _ c.requires.timetable.arrive c.deref.ensures.value c.in_ok-arrive.ensures).each k d lt).few

pub number_positions-requires-clause-few : goal.number_positions-requires-clause-few
number_positions-requires-clause-few c = (sorted_trains _ _ _ _ c.requires.timetable.depart c.deref-2.ensures.value c.in_ok-depart.ensures).few

pub number_positions-requires-clause-short : goal.number_positions-requires-clause-short
number_positions-requires-clause-short c = λ k d lt. ((sorted_trains _ _ _ _ c.requires.timetable.depart c.deref-2.ensures.value c.in_ok-depart.ensures).each k d lt).few

pub ready_minutes-requires-clause-trains : goal.ready_minutes-requires-clause-trains
ready_minutes-requires-clause-trains c = sorted_trains _ _ _ _ c.requires.timetable.arrive c.deref-3.ensures.value c.in_ok-arrive.ensures

pub leave_minutes-requires-clause-few : goal.leave_minutes-requires-clause-few
leave_minutes-requires-clause-few c = (sorted_trains _ _ _ _ c.requires.timetable.depart c.deref-5.ensures.value c.in_ok-depart.ensures).few

pub first_numbers-requires-clause-few : goal.first_numbers-requires-clause-few
first_numbers-requires-clause-few c = (sorted_trains _ _ _ _ c.requires.timetable.arrive c.deref-7.ensures.value c.in_ok-arrive.ensures).few

pub first_numbers-requires-clause-short : goal.first_numbers-requires-clause-short
first_numbers-requires-clause-short c = λ k d lt. ((sorted_trains _ _ _ _ c.requires.timetable.arrive c.deref-7.ensures.value c.in_ok-arrive.ensures).each k d lt).few

pub first_numbers-requires-2-clause-few : goal.first_numbers-requires-2-clause-few
first_numbers-requires-2-clause-few c = (sorted_trains _ _ _ _ c.requires.timetable.depart c.deref-8.ensures.value c.in_ok-depart.ensures).few

pub first_numbers-requires-2-clause-short : goal.first_numbers-requires-2-clause-short
first_numbers-requires-2-clause-short c = λ k d lt. ((sorted_trains _ _ _ _ c.requires.timetable.depart c.deref-8.ensures.value c.in_ok-depart.ensures).each k d lt).few

pub invariant_of-result : goal.invariant_of-result
invariant_of-result c = record {
  formed = formed_of c.args.station c.args.timetable.arrive c.args.timetable.depart c.in_ok-arrive.arrive.items c.in_ok-depart.depart.items c.requires.station c.requires.timetable
      c.in_ok-arrive.ensures c.in_ok-depart.ensures;
  entries = entries_of c.args.station _ _ _ _ _ _ _ _ _ _ _ _ c.deref.ensures.value c.deref-2.ensures.value c.in_ok-units.ensures c.in_ok-positions.ensures c.deref-3.ensures.value
      c.deref-4.ensures.value c.in_ok-ready.ensures c.deref-5.ensures.value c.deref-6.ensures.value c.in_ok-leaves.ensures;
  units_before = subst (λ (ts : List Train). AreFirsts ts c.in_ok-first_units.first_units.items) c.deref-7.ensures.value c.in_ok-first_units.ensures;
  positions_before = subst (λ (ts : List Train). AreFirsts ts c.in_ok-first_positions.first_positions.items) c.deref-8.ensures.value c.in_ok-first_positions.ensures;
  route_costs = subst (λ (rs : List Route). AreCosts rs c.in_ok-costs.costs.items) c.as_slice.ensures c.in_ok-costs.ensures;
  named_tracks = subst (λ (ps : List Permit). AreNamed ps c.in_ok-named.named.items) c.as_slice-2.ensures c.in_ok-named.ensures;
  named_pairs = subst (λ (ps : List Permit). ArePairs ps c.in_ok-pairs.pairs.items) c.as_slice-3.ensures c.in_ok-pairs.ensures;
}
