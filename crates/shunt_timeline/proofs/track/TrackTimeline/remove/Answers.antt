use Rattle.std.proofs.Common.{◌≡◌, ◌≤◌, ◌<◌, ◌+◌, ◌-◌, ◌∙◌, ltb, ap, subst, sym, length, arith}
use Rattle.shunt_stays.specs.defs.Crossings.{overs_in}
use Rattle.shunt_timeline.specs.defs.Levels.{IsPlace, is_crossed, gets_over, lowered}
use Rattle.shunt_timeline.proofs.Steps.{flag, byte_is, byte_within}
use Rattle.shunt_timeline.proofs.Removals.{Went, gone_in, gone_length, kept_left, pairs_left, overs_left, entry_in, small_before, few_before, lowered_within}
use Rattle.shunt_timeline.proofs.track.TrackTimeline.remove.Goals as goal

pub lower_between-met-requires-clause-small : goal.lower_between-met-requires-clause-small
lower_between-met-requires-clause-small c = λ e h. small_before c.requires.0 c.args.stay.now c.args.self.now.events.items c.requires.1 c.requires.2 c.requires.3 e
    (gone_in c.departure_of-from.result.from c.departure_of-from.result.to c.args.self.now.events.items c.take_pair-entry.new.events.items e c.take_pair-entry.ensures.events h)

pub lower_between-met-requires-clause-few : goal.lower_between-met-requires-clause-few
lower_between-met-requires-clause-few c =
    let n : length c.take_pair-entry.new.events.items + 2 ≡ length c.args.self.now.events.items = gone_length c.departure_of-from.result.from c.departure_of-from.result.to
    c.args.self.now.events.items c.take_pair-entry.new.events.items c.departure_of-from.ensures.order
    (subst (λ l. c.departure_of-from.result.to < length l) c.deref.ensures.value c.departure_of-from.ensures.within) c.take_pair-entry.ensures.events in
    let m : length c.args.self.now.events.items ≤ 131072 = few_before c.requires.0 c.args.stay.now c.args.self.now.events.items c.requires.1 c.requires.2 c.requires.3 in
    omega (arith, c.take_pair-entry.new.events.ok.0)

pub overflow_add-result : goal.overflow_add-result
overflow_add-result c =
    let went : Went c.args.stay.now c.args.self.now.events.items c.take_pair-entry.new.events.items c.lower_between-met.new.events.items c.departure_of-from.result.from
    c.departure_of-from.result.to c.take_pair-entry.result c.lower_between-met.result c.args.self.now.length = record {
      first = subst (λ l. IsPlace l c.args.stay.now.enter c.departure_of-from.result.from) c.deref.ensures.value c.departure_of-from.ensures.from;
      last = subst (λ l. IsPlace l c.args.stay.now.leave c.departure_of-from.result.to) c.deref.ensures.value c.departure_of-from.ensures.to;
      taken = c.take_pair-entry.ensures.entry;
      left = c.take_pair-entry.ensures.events;
      made = c.lower_between-met.ensures.events;
      crossed = c.lower_between-met.ensures.crossed;
      over = c.lower_between-met.ensures.over;
    } in
    let own = (small_before c.requires.0 c.args.stay.now c.args.self.now.events.items c.requires.1 c.requires.2 c.requires.3 c.take_pair-entry.result
    (entry_in c.args.stay.now c.args.self.now.events.items c.take_pair-entry.new.events.items c.lower_between-met.new.events.items c.departure_of-from.result.from
    c.departure_of-from.result.to c.take_pair-entry.result c.lower_between-met.result c.args.self.now.length went c.requires.0 c.requires.1 c.requires.3)).crossings in
    let n : length c.take_pair-entry.new.events.items + 2 ≡ length c.args.self.now.events.items = gone_length c.departure_of-from.result.from c.departure_of-from.result.to
    c.args.self.now.events.items c.take_pair-entry.new.events.items c.departure_of-from.ensures.order
    (subst (λ l. c.departure_of-from.result.to < length l) c.deref.ensures.value c.departure_of-from.ensures.within) c.take_pair-entry.ensures.events in
    let m : length c.args.self.now.events.items ≤ 131072 = few_before c.requires.0 c.args.stay.now c.args.self.now.events.items c.requires.1 c.requires.2 c.requires.3 in
    let crossed : c.lower_between-met.result.crossed ≤ 131072 = lowered_within (is_crossed c.args.stay.now) (lowered c.args.stay.now) c.departure_of-from.result.from
    (c.departure_of-from.result.to - 1 - c.departure_of-from.result.from) c.lower_between-met.result.crossed c.take_pair-entry.new.events.items
    (omega arith) c.lower_between-met.ensures.crossed in
    record { fits = omega arith }

pub overflow_add-result-2 : goal.overflow_add-result-2
overflow_add-result-2 c =
    let n : length c.take_pair-entry.new.events.items + 2 ≡ length c.args.self.now.events.items = gone_length c.departure_of-from.result.from c.departure_of-from.result.to
    c.args.self.now.events.items c.take_pair-entry.new.events.items c.departure_of-from.ensures.order
    (subst (λ l. c.departure_of-from.result.to < length l) c.deref.ensures.value c.departure_of-from.ensures.within) c.take_pair-entry.ensures.events in
    let m : length c.args.self.now.events.items ≤ 131072 = few_before c.requires.0 c.args.stay.now c.args.self.now.events.items c.requires.1 c.requires.2 c.requires.3 in
    let over : c.lower_between-met.result.over ≤ 131072 = lowered_within (gets_over c.args.stay.now c.args.self.now.length)
    (lowered c.args.stay.now) c.departure_of-from.result.from (c.departure_of-from.result.to - 1 - c.departure_of-from.result.from) c.lower_between-met.result.over
    c.take_pair-entry.new.events.items (omega arith) c.lower_between-met.ensures.over in
    let one : c.from-2.result ≤ 1 = byte_within (ltb c.from.result c.take_pair-entry.result.load) c.from-2.result c.from-2.ensures in
    record { fits = omega arith }

pub returns-clause-kept : goal.returns-clause-kept
returns-clause-kept c = λ stays a k.
    let went : Went c.args.stay.now c.args.self.now.events.items c.take_pair-entry.new.events.items c.lower_between-met.new.events.items c.departure_of-from.result.from
    c.departure_of-from.result.to c.take_pair-entry.result c.lower_between-met.result c.args.self.now.length = record {
      first = subst (λ l. IsPlace l c.args.stay.now.enter c.departure_of-from.result.from) c.deref.ensures.value c.departure_of-from.ensures.from;
      last = subst (λ l. IsPlace l c.args.stay.now.leave c.departure_of-from.result.to) c.deref.ensures.value c.departure_of-from.ensures.to;
      taken = c.take_pair-entry.ensures.entry;
      left = c.take_pair-entry.ensures.events;
      made = c.lower_between-met.ensures.events;
      crossed = c.lower_between-met.ensures.crossed;
      over = c.lower_between-met.ensures.over;
    } in
    kept_left c.args.stay.now c.args.self.now.events.items c.take_pair-entry.new.events.items c.lower_between-met.new.events.items c.departure_of-from.result.from
    c.departure_of-from.result.to c.take_pair-entry.result c.lower_between-met.result c.args.self.now.length went stays a k

pub returns-clause-pairs : goal.returns-clause-pairs
returns-clause-pairs c = λ stays a k.
    let went : Went c.args.stay.now c.args.self.now.events.items c.take_pair-entry.new.events.items c.lower_between-met.new.events.items c.departure_of-from.result.from
    c.departure_of-from.result.to c.take_pair-entry.result c.lower_between-met.result c.args.self.now.length = record {
      first = subst (λ l. IsPlace l c.args.stay.now.enter c.departure_of-from.result.from) c.deref.ensures.value c.departure_of-from.ensures.from;
      last = subst (λ l. IsPlace l c.args.stay.now.leave c.departure_of-from.result.to) c.deref.ensures.value c.departure_of-from.ensures.to;
      taken = c.take_pair-entry.ensures.entry;
      left = c.take_pair-entry.ensures.events;
      made = c.lower_between-met.ensures.events;
      crossed = c.lower_between-met.ensures.crossed;
      over = c.lower_between-met.ensures.over;
    } in
    pairs_left c.args.stay.now c.args.self.now.events.items c.take_pair-entry.new.events.items c.lower_between-met.new.events.items c.departure_of-from.result.from
    c.departure_of-from.result.to c.take_pair-entry.result c.lower_between-met.result c.args.self.now.length went stays a k

pub returns-clause-over : goal.returns-clause-over
returns-clause-over c = λ stays lengths a k is.
    let went : Went c.args.stay.now c.args.self.now.events.items c.take_pair-entry.new.events.items c.lower_between-met.new.events.items c.departure_of-from.result.from
    c.departure_of-from.result.to c.take_pair-entry.result c.lower_between-met.result c.args.self.now.length = record {
      first = subst (λ l. IsPlace l c.args.stay.now.enter c.departure_of-from.result.from) c.deref.ensures.value c.departure_of-from.ensures.from;
      last = subst (λ l. IsPlace l c.args.stay.now.leave c.departure_of-from.result.to) c.deref.ensures.value c.departure_of-from.ensures.to;
      taken = c.take_pair-entry.ensures.entry;
      left = c.take_pair-entry.ensures.events;
      made = c.lower_between-met.ensures.events;
      crossed = c.lower_between-met.ensures.crossed;
      over = c.lower_between-met.ensures.over;
    } in
    overs_left c.args.stay.now c.args.self.now.events.items c.take_pair-entry.new.events.items c.lower_between-met.new.events.items c.departure_of-from.result.from
    c.departure_of-from.result.to c.take_pair-entry.result c.lower_between-met.result c.args.self.now.length went stays a k lengths is
    ∙ ap (λ n. overs_in lengths stays + (n + c.lower_between-met.result.over)) (sym
    (c.from-2.ensures ∙ byte_is (ltb c.from.result c.take_pair-entry.result.load) ∙ ap (λ n. flag (ltb n c.take_pair-entry.result.load)) c.from.ensures))
