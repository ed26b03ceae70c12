use Rattle.std.proofs.Common.{◌≤◌, ◌+◌, ◌-◌, ◌∙◌, ltb, false, List, take, drop, ap, subst, sym, refl, length, arith}
use Rattle.std.specs.List.{count_by}
use Rattle.shunt_lists.specs.defs.Members.{In}
use Rattle.shunt_stays.specs.defs.Crossings.{overs_in}
use Rattle.shunt_timeline.specs.declared.events.StayEvent.{StayEvent}
use Rattle.shunt_timeline.specs.defs.Levels.{is_crossed, gets_over, has_left, has_blocked}
use Rattle.shunt_timeline.specs.defs.Kept.{IsKeptTrack, IsLevel}
use Rattle.shunt_timeline.proofs.Places.{counted_within}
use Rattle.shunt_timeline.proofs.Others.{load_bound}
use Rattle.shunt_timeline.proofs.Insertions.{Came, few_events, small_events, left_fits, pairs_new, overs_new, entry_small}
use Rattle.shunt_timeline.proofs.Steps.{flag, byte_within, byte_is}
use Rattle.shunt_timeline.proofs.track.TrackTimeline.share_with.Goals as goal

pub meet_between-met-requires-clause-small : goal.meet_between-met-requires-clause-small
meet_between-met-requires-clause-small c = λ e h. small_events c.requires.0 c.args.stay.now c.args.self.now.events.items c.requires.1 c.requires.2 c.requires.3 e
    (subst (λ (l : List StayEvent). In e l) c.deref-2.ensures.value h)

pub meet_between-met-requires-clause-few : goal.meet_between-met-requires-clause-few
meet_between-met-requires-clause-few c =
    let n : length c.args.self.now.events.items + 2 ≤ 131072 = few_events c.requires.0 c.args.stay.now c.args.self.now.events.items c.requires.1 c.requires.2 c.requires.3 in
    omega (arith, ap length c.deref-2.ensures.value)

pub entry_of-entry-requires-clause-left : goal.entry_of-entry-requires-clause-left
entry_of-entry-requires-clause-left c =
    let came : Came c.args.stay.now c.args.self.now.events.items c.deref.result.now c.arrival_of-from.result c.meet_between-met.result c.args.self.now.length = record {
      same = c.deref.ensures.value;
      from = c.arrival_of-from.ensures.from;
      to = c.arrival_of-from.ensures.to;
      order = c.arrival_of-from.ensures.order;
      before = c.arrival_of-from.ensures.before;
      others = c.arrival_of-from.ensures.others;
      crossed = c.meet_between-met.ensures.crossed ∙ ap (λ l. count_by (is_crossed c.args.stay.now)
          (take (c.arrival_of-from.result.to - c.arrival_of-from.result.from) (drop c.arrival_of-from.result.from l))) c.deref-2.ensures.value;
      over = c.meet_between-met.ensures.over ∙ ap (λ l. count_by (gets_over c.args.stay.now c.args.self.now.length)
          (take (c.arrival_of-from.result.to - c.arrival_of-from.result.from) (drop c.arrival_of-from.result.from l))) c.deref-2.ensures.value;
      left = c.meet_between-met.ensures.left ∙ ap (λ l. count_by (has_left c.args.stay.now)
          (take (c.arrival_of-from.result.to - c.arrival_of-from.result.from) (drop c.arrival_of-from.result.from l))) c.deref-2.ensures.value;
      blocked = c.meet_between-met.ensures.blocked ∙ ap (λ l. count_by (has_blocked c.args.stay.now)
          (take (c.arrival_of-from.result.to - c.arrival_of-from.result.from) (drop c.arrival_of-from.result.from l))) c.deref-2.ensures.value;
    } in
    left_fits c.args.stay.now c.args.self.now.events.items c.deref.result.now c.arrival_of-from.result c.meet_between-met.result c.args.self.now.length came c.requires.0
    c.requires.1 c.requires.3

pub entry_of-entry-requires-clause-blocked : goal.entry_of-entry-requires-clause-blocked
entry_of-entry-requires-clause-blocked c = counted_within (has_blocked c.args.stay.now) c.arrival_of-from.result.from c.arrival_of-from.result.to c.meet_between-met.result.blocked
    c.args.self.now.events.items c.arrival_of-from.ensures.order (few_events c.requires.0 c.args.stay.now c.args.self.now.events.items c.requires.1 c.requires.2 c.requires.3)
    (c.meet_between-met.ensures.blocked ∙ ap (λ l. count_by (has_blocked c.args.stay.now)
    (take (c.arrival_of-from.result.to - c.arrival_of-from.result.from) (drop c.arrival_of-from.result.from l))) c.deref-2.ensures.value)

pub entry_of-entry-requires-clause-load : goal.entry_of-entry-requires-clause-load
entry_of-entry-requires-clause-load c =
    let level : IsLevel c.requires.0 c.args.stay.now.track.0 c.args.stay.now.enter c.arrival_of-from.result.before = c.arrival_of-from.ensures.before c.requires.0 c.requires.1
    (subst (λ l. IsKeptTrack c.requires.0 c.args.stay.now.track.0 l) (sym c.deref.ensures.value) c.requires.3) in
    let most = load_bound c.requires.0 c.args.stay.now.track.0 c.args.stay.now.enter c.requires.1.2 in
    omega (arith, level.load, c.requires.2)

pub overflow_add-result : goal.overflow_add-result
overflow_add-result c =
    let came : Came c.args.stay.now c.args.self.now.events.items c.deref.result.now c.arrival_of-from.result c.meet_between-met.result c.args.self.now.length = record {
      same = c.deref.ensures.value;
      from = c.arrival_of-from.ensures.from;
      to = c.arrival_of-from.ensures.to;
      order = c.arrival_of-from.ensures.order;
      before = c.arrival_of-from.ensures.before;
      others = c.arrival_of-from.ensures.others;
      crossed = c.meet_between-met.ensures.crossed ∙ ap (λ l. count_by (is_crossed c.args.stay.now)
          (take (c.arrival_of-from.result.to - c.arrival_of-from.result.from) (drop c.arrival_of-from.result.from l))) c.deref-2.ensures.value;
      over = c.meet_between-met.ensures.over ∙ ap (λ l. count_by (gets_over c.args.stay.now c.args.self.now.length)
          (take (c.arrival_of-from.result.to - c.arrival_of-from.result.from) (drop c.arrival_of-from.result.from l))) c.deref-2.ensures.value;
      left = c.meet_between-met.ensures.left ∙ ap (λ l. count_by (has_left c.args.stay.now)
          (take (c.arrival_of-from.result.to - c.arrival_of-from.result.from) (drop c.arrival_of-from.result.from l))) c.deref-2.ensures.value;
      blocked = c.meet_between-met.ensures.blocked ∙ ap (λ l. count_by (has_blocked c.args.stay.now)
          (take (c.arrival_of-from.result.to - c.arrival_of-from.result.from) (drop c.arrival_of-from.result.from l))) c.deref-2.ensures.value;
    } in
    let own : c.entry_of-entry.result.crossings ≤ 65536 = entry_small c.args.stay.now c.args.self.now.events.items c.deref.result.now c.arrival_of-from.result
    c.meet_between-met.result c.args.self.now.length came c.requires.0 c.requires.1 c.requires.3 c.entry_of-entry.result
    (record { stay = c.args.stay.now; enters = false; crossings = 0; standing = c.arrival_of-from.result.others.standing; load = c.arrival_of-from.result.others.load })
    (record {
      is = record { stay = c.entry_of-entry.ensures.stay; kind = c.entry_of-entry.ensures.enters };
      crossings = c.entry_of-entry.ensures.crossings;
      standing =
          c.entry_of-entry.ensures.standing;
      load = c.entry_of-entry.ensures.load;
    })
    (record { is = record { stay = refl; kind = refl }; crossings = refl; standing = refl; load = refl }) c.requires.2 in
    let crossed : c.meet_between-met.result.crossed ≤ 131072 = counted_within (is_crossed c.args.stay.now) c.arrival_of-from.result.from c.arrival_of-from.result.to
    c.meet_between-met.result.crossed c.args.self.now.events.items c.arrival_of-from.ensures.order
    (few_events c.requires.0 c.args.stay.now c.args.self.now.events.items c.requires.1 c.requires.2 c.requires.3)
    (c.meet_between-met.ensures.crossed ∙ ap (λ l. count_by (is_crossed c.args.stay.now)
    (take (c.arrival_of-from.result.to - c.arrival_of-from.result.from) (drop c.arrival_of-from.result.from l))) c.deref-2.ensures.value) in
    record { fits = omega arith }

pub overflow_add-result-2 : goal.overflow_add-result-2
overflow_add-result-2 c =
    let over : c.meet_between-met.result.over ≤ 131072 = counted_within (gets_over c.args.stay.now c.args.self.now.length) c.arrival_of-from.result.from c.arrival_of-from.result.to
    c.meet_between-met.result.over c.args.self.now.events.items c.arrival_of-from.ensures.order
    (few_events c.requires.0 c.args.stay.now c.args.self.now.events.items c.requires.1 c.requires.2 c.requires.3)
    (c.meet_between-met.ensures.over ∙ ap (λ l. count_by (gets_over c.args.stay.now c.args.self.now.length)
    (take (c.arrival_of-from.result.to - c.arrival_of-from.result.from) (drop c.arrival_of-from.result.from l))) c.deref-2.ensures.value) in
    let one : c.from-2.result ≤ 1 = byte_within (ltb c.from.result c.entry_of-entry.result.load) c.from-2.result c.from-2.ensures in
    record { fits = omega arith }

pub returns-clause-pairs : goal.returns-clause-pairs
returns-clause-pairs c = λ stays a k.
    let came : Came c.args.stay.now c.args.self.now.events.items c.deref.result.now c.arrival_of-from.result c.meet_between-met.result c.args.self.now.length = record {
      same = c.deref.ensures.value;
      from = c.arrival_of-from.ensures.from;
      to = c.arrival_of-from.ensures.to;
      order = c.arrival_of-from.ensures.order;
      before = c.arrival_of-from.ensures.before;
      others = c.arrival_of-from.ensures.others;
      crossed = c.meet_between-met.ensures.crossed ∙ ap (λ l. count_by (is_crossed c.args.stay.now)
          (take (c.arrival_of-from.result.to - c.arrival_of-from.result.from) (drop c.arrival_of-from.result.from l))) c.deref-2.ensures.value;
      over = c.meet_between-met.ensures.over ∙ ap (λ l. count_by (gets_over c.args.stay.now c.args.self.now.length)
          (take (c.arrival_of-from.result.to - c.arrival_of-from.result.from) (drop c.arrival_of-from.result.from l))) c.deref-2.ensures.value;
      left = c.meet_between-met.ensures.left ∙ ap (λ l. count_by (has_left c.args.stay.now)
          (take (c.arrival_of-from.result.to - c.arrival_of-from.result.from) (drop c.arrival_of-from.result.from l))) c.deref-2.ensures.value;
      blocked = c.meet_between-met.ensures.blocked ∙ ap (λ l. count_by (has_blocked c.args.stay.now)
          (take (c.arrival_of-from.result.to - c.arrival_of-from.result.from) (drop c.arrival_of-from.result.from l))) c.deref-2.ensures.value;
    } in
    pairs_new c.args.stay.now c.args.self.now.events.items c.deref.result.now c.arrival_of-from.result c.meet_between-met.result c.args.self.now.length came stays a k
    c.entry_of-entry.result (record {
      stay = c.args.stay.now;
      enters = false;
      crossings = 0;
      standing = c.arrival_of-from.result.others.standing;
      load =
          c.arrival_of-from.result.others.load;
    })
    (record {
      is = record { stay = c.entry_of-entry.ensures.stay; kind = c.entry_of-entry.ensures.enters };
      crossings = c.entry_of-entry.ensures.crossings;
      standing =
          c.entry_of-entry.ensures.standing;
      load = c.entry_of-entry.ensures.load;
    })
    (record { is = record { stay = refl; kind = refl }; crossings = refl; standing = refl; load = refl })

pub returns-clause-over : goal.returns-clause-over
returns-clause-over c = λ stays lengths a k is.
    let came : Came c.args.stay.now c.args.self.now.events.items c.deref.result.now c.arrival_of-from.result c.meet_between-met.result c.args.self.now.length = record {
      same = c.deref.ensures.value;
      from = c.arrival_of-from.ensures.from;
      to = c.arrival_of-from.ensures.to;
      order = c.arrival_of-from.ensures.order;
      before = c.arrival_of-from.ensures.before;
      others = c.arrival_of-from.ensures.others;
      crossed = c.meet_between-met.ensures.crossed ∙ ap (λ l. count_by (is_crossed c.args.stay.now)
          (take (c.arrival_of-from.result.to - c.arrival_of-from.result.from) (drop c.arrival_of-from.result.from l))) c.deref-2.ensures.value;
      over = c.meet_between-met.ensures.over ∙ ap (λ l. count_by (gets_over c.args.stay.now c.args.self.now.length)
          (take (c.arrival_of-from.result.to - c.arrival_of-from.result.from) (drop c.arrival_of-from.result.from l))) c.deref-2.ensures.value;
      left = c.meet_between-met.ensures.left ∙ ap (λ l. count_by (has_left c.args.stay.now)
          (take (c.arrival_of-from.result.to - c.arrival_of-from.result.from) (drop c.arrival_of-from.result.from l))) c.deref-2.ensures.value;
      blocked = c.meet_between-met.ensures.blocked ∙ ap (λ l. count_by (has_blocked c.args.stay.now)
          (take (c.arrival_of-from.result.to - c.arrival_of-from.result.from) (drop c.arrival_of-from.result.from l))) c.deref-2.ensures.value;
    } in
    overs_new c.args.stay.now c.args.self.now.events.items c.deref.result.now c.arrival_of-from.result c.meet_between-met.result c.args.self.now.length came stays a k
    c.entry_of-entry.result (record {
      stay = c.args.stay.now;
      enters = false;
      crossings = 0;
      standing = c.arrival_of-from.result.others.standing;
      load =
          c.arrival_of-from.result.others.load;
    })
    (record {
      is = record { stay = c.entry_of-entry.ensures.stay; kind = c.entry_of-entry.ensures.enters };
      crossings = c.entry_of-entry.ensures.crossings;
      standing =
          c.entry_of-entry.ensures.standing;
      load = c.entry_of-entry.ensures.load;
    })
    (record { is = record { stay = refl; kind = refl }; crossings = refl; standing = refl; load = refl }) lengths is
    ∙ ap (λ n. overs_in lengths stays + (c.meet_between-met.result.over + n)) (sym
    (c.from-2.ensures ∙ byte_is (ltb c.from.result c.entry_of-entry.result.load) ∙ ap (λ n. flag (ltb n c.entry_of-entry.result.load)) c.from.ensures))
