use Rattle.std.proofs.Common.{◌≤◌, ◌+◌, ◌∙◌, ltb, ap, subst, sym, length, arith}
use Rattle.shunt_stays.specs.defs.Crossings.{overs_in}
use Rattle.shunt_timeline.specs.declared.events.StayEvent.{StayEvent}
use Rattle.shunt_timeline.specs.defs.Levels.{is_crossed, gets_over, has_blocked}
use Rattle.shunt_timeline.specs.defs.Kept.{IsKeptTrack, IsLevel}
use Rattle.shunt_timeline.proofs.Places.{counted_within}
use Rattle.shunt_timeline.proofs.Others.{load_bound}
use Rattle.shunt_timeline.proofs.Insertions.{Came, few_events, small_events, left_fits, kept_new, pairs_new, overs_new, entry_small}
use Rattle.shunt_timeline.proofs.Steps.{flag, byte_within, byte_is}
use Rattle.shunt_timeline.proofs.track.TrackTimeline.insert.Goals as goal

pub raise_between-met-requires-clause-small : goal.raise_between-met-requires-clause-small
raise_between-met-requires-clause-small c = small_events c.requires.kept.0 c.args.stay.now c.args.self.now.events.items c.requires.kept.1 c.requires.kept.2 c.requires.kept.3

pub raise_between-met-requires-clause-few : goal.raise_between-met-requires-clause-few
raise_between-met-requires-clause-few c =
    let n : length c.args.self.now.events.items + 2 ≤ 131072 = few_events c.requires.kept.0 c.args.stay.now c.args.self.now.events.items c.requires.kept.1 c.requires.kept.2
    c.requires.kept.3 in
    omega (arith, c.args.self.now.events.ok.0)

pub entry_of-entry-requires-clause-left : goal.entry_of-entry-requires-clause-left
entry_of-entry-requires-clause-left c =
    let came : Came c.args.stay.now c.args.self.now.events.items c.deref.result.now c.arrival_of-from.result c.raise_between-met.result c.args.self.now.length = record {
      same = c.deref.ensures.value;
      from = c.arrival_of-from.ensures.from;
      to = c.arrival_of-from.ensures.to;
      order = c.arrival_of-from.ensures.order;
      before = c.arrival_of-from.ensures.before;
      others = c.arrival_of-from.ensures.others;
      crossed = c.raise_between-met.ensures.crossed;
      over = c.raise_between-met.ensures.over;
      left = c.raise_between-met.ensures.left;
      blocked = c.raise_between-met.ensures.blocked;
    } in
    left_fits c.args.stay.now c.args.self.now.events.items c.deref.result.now c.arrival_of-from.result c.raise_between-met.result c.args.self.now.length came c.requires.kept.0
    c.requires.kept.1 c.requires.kept.3

pub entry_of-entry-requires-clause-blocked : goal.entry_of-entry-requires-clause-blocked
entry_of-entry-requires-clause-blocked c = counted_within (has_blocked c.args.stay.now) c.arrival_of-from.result.from c.arrival_of-from.result.to c.raise_between-met.result.blocked
    c.args.self.now.events.items c.arrival_of-from.ensures.order (few_events c.requires.kept.0 c.args.stay.now c.args.self.now.events.items c.requires.kept.1 c.requires.kept.2
    c.requires.kept.3) c.raise_between-met.ensures.blocked

pub entry_of-entry-requires-clause-load : goal.entry_of-entry-requires-clause-load
entry_of-entry-requires-clause-load c =
    let level : IsLevel c.requires.kept.0 c.args.stay.now.track.0 c.args.stay.now.enter c.arrival_of-from.result.before = c.arrival_of-from.ensures.before c.requires.kept.0
    c.requires.kept.1 (subst (λ l. IsKeptTrack c.requires.kept.0 c.args.stay.now.track.0 l) (sym c.deref.ensures.value) c.requires.kept.3) in
    let most = load_bound c.requires.kept.0 c.args.stay.now.track.0 c.args.stay.now.enter c.requires.kept.1.2 in
    omega (arith, level.load, c.requires.kept.2)

pub overflow_add-result : goal.overflow_add-result
overflow_add-result c =
    let came : Came c.args.stay.now c.args.self.now.events.items c.deref.result.now c.arrival_of-from.result c.raise_between-met.result c.args.self.now.length = record {
      same = c.deref.ensures.value;
      from = c.arrival_of-from.ensures.from;
      to = c.arrival_of-from.ensures.to;
      order = c.arrival_of-from.ensures.order;
      before = c.arrival_of-from.ensures.before;
      others = c.arrival_of-from.ensures.others;
      crossed = c.raise_between-met.ensures.crossed;
      over = c.raise_between-met.ensures.over;
      left = c.raise_between-met.ensures.left;
      blocked = c.raise_between-met.ensures.blocked;
    } in
    let own : c.entry_of-entry.result.crossings ≤ 65536 = entry_small c.args.stay.now c.args.self.now.events.items c.deref.result.now c.arrival_of-from.result
    c.raise_between-met.result c.args.self.now.length came c.requires.kept.0 c.requires.kept.1 c.requires.kept.3 c.entry_of-entry.result c.leave_of.result
    (record {
      is = record { stay = c.entry_of-entry.ensures.stay; kind = c.entry_of-entry.ensures.enters };
      crossings = c.entry_of-entry.ensures.crossings;
      standing =
          c.entry_of-entry.ensures.standing;
      load = c.entry_of-entry.ensures.load;
    })
    (record {
      is = record { stay = ap (λ (e : StayEvent). e.stay) c.leave_of.ensures; kind = ap (λ (e : StayEvent). e.enters) c.leave_of.ensures };
      crossings = ap
          (λ (e : StayEvent). e.crossings) c.leave_of.ensures;
      standing = ap (λ (e : StayEvent). e.standing) c.leave_of.ensures;
      load = ap (λ (e : StayEvent). e.load) c.leave_of.ensures;
    })
    c.requires.kept.2 in
    let crossed : c.raise_between-met.result.crossed ≤ 131072 = counted_within (is_crossed c.args.stay.now) c.arrival_of-from.result.from c.arrival_of-from.result.to
    c.raise_between-met.result.crossed c.args.self.now.events.items c.arrival_of-from.ensures.order
    (few_events c.requires.kept.0 c.args.stay.now c.args.self.now.events.items c.requires.kept.1 c.requires.kept.2 c.requires.kept.3) c.raise_between-met.ensures.crossed in
    record { fits = omega arith }

pub overflow_add-result-2 : goal.overflow_add-result-2
overflow_add-result-2 c =
    let over : c.raise_between-met.result.over ≤ 131072 = counted_within (gets_over c.args.stay.now c.args.self.now.length) c.arrival_of-from.result.from
    c.arrival_of-from.result.to c.raise_between-met.result.over c.args.self.now.events.items c.arrival_of-from.ensures.order
    (few_events c.requires.kept.0 c.args.stay.now c.args.self.now.events.items c.requires.kept.1 c.requires.kept.2 c.requires.kept.3) c.raise_between-met.ensures.over in
    let one : c.from-2.result ≤ 1 = byte_within (ltb c.from.result c.entry_of-entry.result.load) c.from-2.result c.from-2.ensures in
    record { fits = omega arith }

pub returns-clause-kept : goal.returns-clause-kept
returns-clause-kept c = λ stays a k.
    let came : Came c.args.stay.now c.args.self.now.events.items c.deref.result.now c.arrival_of-from.result c.raise_between-met.result c.args.self.now.length = record {
      same = c.deref.ensures.value;
      from = c.arrival_of-from.ensures.from;
      to = c.arrival_of-from.ensures.to;
      order = c.arrival_of-from.ensures.order;
      before = c.arrival_of-from.ensures.before;
      others = c.arrival_of-from.ensures.others;
      crossed = c.raise_between-met.ensures.crossed;
      over = c.raise_between-met.ensures.over;
      left = c.raise_between-met.ensures.left;
      blocked = c.raise_between-met.ensures.blocked;
    } in
    kept_new c.args.stay.now c.args.self.now.events.items c.deref.result.now c.arrival_of-from.result c.raise_between-met.result c.args.self.now.length came stays a k
    c.entry_of-entry.result c.leave_of.result
    (record {
      is = record { stay = c.entry_of-entry.ensures.stay; kind = c.entry_of-entry.ensures.enters };
      crossings = c.entry_of-entry.ensures.crossings;
      standing =
          c.entry_of-entry.ensures.standing;
      load = c.entry_of-entry.ensures.load;
    })
    (record {
      is = record { stay = ap (λ (e : StayEvent). e.stay) c.leave_of.ensures; kind = ap (λ (e : StayEvent). e.enters) c.leave_of.ensures };
      crossings = ap
          (λ (e : StayEvent). e.crossings) c.leave_of.ensures;
      standing = ap (λ (e : StayEvent). e.standing) c.leave_of.ensures;
      load = ap (λ (e : StayEvent). e.load) c.leave_of.ensures;
    })
    c.raise_between-met.new.events.items c.put_pair.new.events.items c.raise_between-met.ensures.events c.put_pair.ensures.events

pub returns-clause-pairs : goal.returns-clause-pairs
returns-clause-pairs c = λ stays a k.
    let came : Came c.args.stay.now c.args.self.now.events.items c.deref.result.now c.arrival_of-from.result c.raise_between-met.result c.args.self.now.length = record {
      same = c.deref.ensures.value;
      from = c.arrival_of-from.ensures.from;
      to = c.arrival_of-from.ensures.to;
      order = c.arrival_of-from.ensures.order;
      before = c.arrival_of-from.ensures.before;
      others = c.arrival_of-from.ensures.others;
      crossed = c.raise_between-met.ensures.crossed;
      over = c.raise_between-met.ensures.over;
      left = c.raise_between-met.ensures.left;
      blocked = c.raise_between-met.ensures.blocked;
    } in
    pairs_new c.args.stay.now c.args.self.now.events.items c.deref.result.now c.arrival_of-from.result c.raise_between-met.result c.args.self.now.length came stays a k
    c.entry_of-entry.result c.leave_of.result
    (record {
      is = record { stay = c.entry_of-entry.ensures.stay; kind = c.entry_of-entry.ensures.enters };
      crossings = c.entry_of-entry.ensures.crossings;
      standing =
          c.entry_of-entry.ensures.standing;
      load = c.entry_of-entry.ensures.load;
    })
    (record {
      is = record { stay = ap (λ (e : StayEvent). e.stay) c.leave_of.ensures; kind = ap (λ (e : StayEvent). e.enters) c.leave_of.ensures };
      crossings = ap
          (λ (e : StayEvent). e.crossings) c.leave_of.ensures;
      standing = ap (λ (e : StayEvent). e.standing) c.leave_of.ensures;
      load = ap (λ (e : StayEvent). e.load) c.leave_of.ensures;
    })

pub returns-clause-over : goal.returns-clause-over
returns-clause-over c = λ stays lengths a k is.
    let came : Came c.args.stay.now c.args.self.now.events.items c.deref.result.now c.arrival_of-from.result c.raise_between-met.result c.args.self.now.length = record {
      same = c.deref.ensures.value;
      from = c.arrival_of-from.ensures.from;
      to = c.arrival_of-from.ensures.to;
      order = c.arrival_of-from.ensures.order;
      before = c.arrival_of-from.ensures.before;
      others = c.arrival_of-from.ensures.others;
      crossed = c.raise_between-met.ensures.crossed;
      over = c.raise_between-met.ensures.over;
      left = c.raise_between-met.ensures.left;
      blocked = c.raise_between-met.ensures.blocked;
    } in
    overs_new c.args.stay.now c.args.self.now.events.items c.deref.result.now c.arrival_of-from.result c.raise_between-met.result c.args.self.now.length came stays a k
    c.entry_of-entry.result c.leave_of.result
    (record {
      is = record { stay = c.entry_of-entry.ensures.stay; kind = c.entry_of-entry.ensures.enters };
      crossings = c.entry_of-entry.ensures.crossings;
      standing =
          c.entry_of-entry.ensures.standing;
      load = c.entry_of-entry.ensures.load;
    })
    (record {
      is = record { stay = ap (λ (e : StayEvent). e.stay) c.leave_of.ensures; kind = ap (λ (e : StayEvent). e.enters) c.leave_of.ensures };
      crossings = ap
          (λ (e : StayEvent). e.crossings) c.leave_of.ensures;
      standing = ap (λ (e : StayEvent). e.standing) c.leave_of.ensures;
      load = ap (λ (e : StayEvent). e.load) c.leave_of.ensures;
    })
    lengths is
    ∙ ap (λ n. overs_in lengths stays + (c.raise_between-met.result.over + n)) (sym
    (c.from-2.ensures ∙ byte_is (ltb c.from.result c.entry_of-entry.result.load) ∙ ap (λ n. flag (ltb n c.entry_of-entry.result.load)) c.from.ensures))
