use Rattle.std.specs.Prelude.{pos, map, None, Option, Some}
use Rattle.std.proofs.Common.{◌≡◌, ℕ, ℤ, List, ◌+◌, ◌-◌, ◌<◌, ◌≤◌, ◌∙◌, length, slice_index_or, refl, ap, sym, subst, arith}
use Rattle.std.proofs.lemmas.List.{get_or_default}
use Rattle.shunt_lists.specs.defs.Members.{In}
use Rattle.shunt_lists.proofs.Members.{in_place}
use Rattle.shunt_lists.proofs.Options.{if_ok}
use Rattle.shunt_prices.specs.defs.Sums.{IsWithin}
use Rattle.shunt_stacks.specs.defs.Spans.{best, best_with, greater, greatest_of}
use Rattle.shunt_stacks.proofs.Steps.{joined}
use Rattle.shunt_recount.specs.declared.moments.Stop.{Stop}
use Rattle.shunt_recount.specs.defs.Visits.{span_of}
use Rattle.shunt_recount.specs.defs.Moments.{event_at, fixed_of, free_of, events_of, stop_spans, IsMoment, IsValue, AreGains}
use Rattle.shunt_recount.proofs.Listed.{some_long, none_long}
use Rattle.shunt_recount.proofs.Ranked.{StepLaws, rank_same, first_gain, next_is, stop_there, span_is, inside_until, few_events, behind_is}
use Rattle.shunt_recount.proofs.Rowed.{longer}
use Rattle.shunt_recount.proofs.Small.{gain_small, seen}
use Rattle.shunt_recount.proofs.Stepped.{left_with, turned}
use Rattle.shunt_recount.proofs.values.+values.Goals as goal

pub filled-next_gain-requires : goal.filled-next_gain-requires
filled-next_gain-requires t c =
    let m = c.decreases in
    let back = c.requires.back in
    let long = c.len.ensures in
    let few = c.gains-test.true in
    let same = c.deref.ensures.len in (
      omega (arith, m),
      (
        c.requires.moments,
        (
          c.gains.invariant.known,
          (
            c.requires.end,
            (
              c.requires.top,
              (omega (arith, back, long, few, same), subst (AreGains c.args.moments.now c.args.key.end c.args.key.room) (sym c.deref.ensures.value) c.gains.invariant.gains),
            ),
          ),
        ),
      ),
    )

pub filled-gains-preserved : goal.filled-gains-preserved
filled-gains-preserved t c =
    let m = c.args.moments.now in
    let end = c.args.key.end in
    let top = c.args.key.top in
    let room = c.args.key.room in
    let back = c.requires.back in
    let few = c.gains-test.true in
    let long = c.len.ensures in
    let same : length c.deref.result.now ≡ length c.gains.gains.items = ap length c.deref.ensures.value in
    record {
      known = c.in_ok-gain.ensures.known;
      gains = longer m end top room c.gains.gains.items c.push.new.self.items c.in_ok-gain.gain c.in_ok-push.ensures.items c.requires.top (omega (arith, back, few, long))
          (λ top' j rank sum. let own : top' ≡ top = rank_same (events_of m) end top' top rank c.requires.top in
          subst (λ (i : ℕ). IsValue m i end room c.in_ok-gain.gain) (omega (arith, own, sum, same)) c.in_ok-gain.ensures.is) c.gains.invariant.gains;
    }

pub greatest-with_stop-requires : goal.greatest-with_stop-requires
greatest-with_stop-requires t c =
    let d : Stop = record { visit = record { comes = 0; inside = 0; until = 0; gone = 0; length = 0; gain = pos 0 }; inside = 0; until = 0; gone = 0 } in
    let m = c.decreases in (
      omega (arith, m),
      (
        c.requires.moments,
        (
          c.stops.invariant.known,
          (
            c.requires.end,
            (
              c.requires.top,
              (
                c.requires.some,
                (
                  c.requires.few,
                  (
                    c.requires.gains,
                    c.requires.stops (slice_index_or c.args.stops.now c.stops.stop-index d) (in_place c.args.stops.now c.stops.stop-index d c.stops-test.true),
                  ),
                ),
              ),
            ),
          ),
        ),
      ),
    )

pub greatest-stops-preserved : goal.greatest-stops-preserved
greatest-stops-preserved t c =
    let d : Stop = record { visit = record { comes = 0; inside = 0; until = 0; gone = 0; length = 0; gain = pos 0 }; inside = 0; until = 0; gone = 0 } in
    let m = c.args.moments.now in
    let stops = c.args.stops.now in
    let i = c.stops.stop-index in
    let at = c.requires.stops (slice_index_or stops i d) (in_place stops i d c.stops-test.true) in
    let comes = at.comes in
    record {
      known = c.in_ok-with_stop.ensures.known;
      is = λ n le. let value = best_with (best n (fixed_of m) (free_of m)) c.args.key.end c.args.key.room in
          ap (left_with value stops (i + 1)) c.greater-gain.ensures
          ∙ turned value stops i d c.stops.gain c.in_ok-with_stop.field-0 _ c.stops-test.true (c.in_ok-with_stop.ensures.is n (omega (arith, le, comes)))
          (c.stops.invariant.is n le);
    }

pub next_gain-returns-then-is_empty-clause-is : goal.next_gain-returns-then-is_empty-clause-is
next_gain-returns-then-is_empty-clause-is t c =
    let none = none_long (length c.args.gains.now) _ c.is_empty.ensures c.if-is_empty.true in
    let laws : StepLaws = record { steps = c.nests.ensures.steps; at_none = c.nests.ensures.at_none } in
    subst (λ (j : ℕ). IsValue c.args.moments.now j c.args.key.end c.args.key.room (Some (pos 0))) (omega (arith, none))
    (first_gain laws c.args.moments.now c.requires.moments c.args.key.end c.args.key.top c.args.key.room c.requires.end c.requires.top)

pub next_gain-greatest-requires : goal.next_gain-greatest-requires
next_gain-greatest-requires t c =
    let v = c.args.moments.now in
    let k = c.args.key.top - length c.args.gains.now in
    let few = c.requires.few in
    let top = c.requires.top.within in
    let some = some_long (length c.args.gains.now) _ c.is_empty.ensures c.if-is_empty.false in
    let count = c.requires.moments.count in
    let lt : k < length v.list.items = omega (arith, some, few, top, count) in
    let moment = subst (IsMoment (fixed_of v) (free_of v) (events_of v) (event_at (events_of v) k)) (sym c.index-moment.ensures)
    (c.requires.moments.each k c.index-moment.result.now lt) in
    let m = c.decreases in (
      omega (arith, m),
      (
        c.requires.moments,
        (
          c.requires.known,
          (
            c.requires.end,
            (
              c.requires.top,
              (
                omega (arith, some),
                (
                  few,
                  (
                    c.requires.gains,
                    λ s i. stop_there v k c.index-moment.result.now moment s (subst (λ (l : List Stop). In s l) c.deref.ensures.value i),
                  ),
                ),
              ),
            ),
          ),
        ),
      ),
    )

pub next_gain-returns-clause-is : goal.next_gain-returns-clause-is
next_gain-returns-clause-is t c =
    let v = c.args.moments.now in
    let gains = c.args.gains.now in
    let end = c.args.key.end in
    let room = c.args.key.room in
    let k = c.args.key.top - length gains in
    let mo = c.index-moment.result.now in
    let few = c.requires.few in
    let top = c.requires.top.within in
    let some = some_long (length gains) _ c.is_empty.ensures c.if-is_empty.false in
    let count = c.requires.moments.count in
    let lt : k < length v.list.items = omega (arith, some, few, top, count) in
    let moment = subst (IsMoment (fixed_of v) (free_of v) (events_of v) (event_at (events_of v) k)) (sym c.index-moment.ensures) (c.requires.moments.each k mo lt) in
    let laws : StepLaws = record { steps = c.nests.ensures.steps; at_none = c.nests.ensures.at_none } in
    let behind = c.requires.gains c.args.key.top (k + 1) (length gains - 1) c.requires.top (omega (arith, some, few)) (omega (arith, some)) in
    if_ok (λ (g : Option ℤ). (n : ℕ) → end ≤ event_at (events_of v) k + n → g ≡ greater c.without.result
    (greatest_of (map (best_with (best n (fixed_of v) (free_of v)) end room) (stop_spans c.deref.result.now))))
    (IsValue v k end room) c.greatest.result
    (λ g is. next_is laws v c.requires.moments end c.args.key.top room k c.requires.end c.requires.top (omega (arith, some, few)) mo mo.is_fixed refl moment
    c.without.result (slice_index_or gains (length gains - 1) None) g c.without.ensures.fixed c.without.ensures.free behind
    (λ n enough. is n enough ∙ ap (λ (l : List Stop). greater c.without.result
    (greatest_of (map (best_with (best n (fixed_of v) (free_of v)) end room) (stop_spans l)))) c.deref.ensures.value)) c.greatest.ensures.is

pub value-returns-in-Some-clause-is : goal.value-returns-in-Some-clause-is
value-returns-in-Some-clause-is t c = let passed = c.requires.passed in
    c.in-Some.ensures c.args.moments.now c.args.passed c.requires.known c.requires.top (omega (arith, passed))

pub value-filled-requires : goal.value-filled-requires
value-filled-requires t c =
    let m = c.decreases in (
      omega (arith, m),
      (
        c.requires.moments,
        (
          c.taken-begun.ensures.known c.args.moments.now c.requires.known,
          (c.requires.end, (c.requires.top, (omega arith, c.taken-begun.ensures.gains c.args.moments.now c.requires.known))),
        ),
      ),
    )

pub value-returns-clause-is : goal.value-returns-clause-is
value-returns-clause-is t c =
    let m = c.args.moments.now in
    let passed = c.requires.passed in
    let gains = c.in_ok-gains.gains.items in
    let back = c.args.key.top - c.args.passed in
    let value = c.in_ok-gains.ensures.gains c.args.key.top c.args.passed back c.requires.top (omega (arith, passed)) c.in_ok-gains.ensures.long in
    subst (IsValue m c.args.passed c.args.key.end c.args.key.room) (get_or_default gains back None c.index-gain.result.now c.in_ok-gains.ensures.long ∙ sym c.index-gain.ensures) value

pub with_stop-offset_bounds-gains-key : goal.with_stop-offset_bounds-gains-key
with_stop-offset_bounds-gains-key t c =
    let m = c.args.moments.now in
    let few = few_events (fixed_of m) (free_of m) m.end (events_of m) c.requires.moments.events in
    let top = c.requires.top.within in
    let small = c.requires.moments.small in
    omega (arith, few, top, small)

pub with_stop-bounds-gains-key : goal.with_stop-bounds-gains-key
with_stop-bounds-gains-key t c = (behind_is c.args.moments.now c.requires.moments c.args.key.end c.args.key.top c.args.key.room c.args.gains.now c.args.stop c.requires.some
    c.requires.few c.requires.top c.requires.stop c.if-visit-key.false c.requires.gains).0

pub with_stop-value-requires : goal.with_stop-value-requires
with_stop-value-requires t c =
    let some = c.requires.some in
    let few = c.requires.few in
    let top = c.requires.top.within in
    let k = c.args.key.top - length c.args.gains.now in
    let lt : k < length (events_of c.args.moments.now) = omega (arith, some, few, top) in
    let is = span_is c.args.moments.now c.requires.moments k lt c.args.stop c.requires.stop in
    let leaves : c.args.stop.visit.until < c.args.stop.visit.gone = is.leaves in
    let gone = c.if-visit-key.false in
    let end = c.requires.end in
    let m = c.decreases in (
      omega (arith, m, leaves, gone),
      (
        c.requires.moments,
        (
          c.requires.known,
          (omega (arith, leaves, gone, end), (c.requires.stop.ranks.until, inside_until c.args.moments.now c.requires.moments k lt c.args.stop c.requires.stop)),
        ),
      ),
    )

pub with_stop-together-requires-clause-gain : goal.with_stop-together-requires-clause-gain
with_stop-together-requires-clause-gain t c =
    let w = c.requires.moments.visits.small.gains (span_of c.args.stop.visit) c.requires.stop.ours in
    subst (IsWithin 16000000000000) (sym (seen c.args.stop.visit.gain w)) w

pub with_stop-together-requires-clause-inside : goal.with_stop-together-requires-clause-inside
with_stop-together-requires-clause-inside t c =
    let m = c.args.moments.now in
    let v = c.requires.moments.visits in
    let is = v.own.spans (span_of c.args.stop.visit) c.requires.stop.ours in
    gain_small (fixed_of m) (free_of m) v.own v.small _ _ _ c.in_ok-inside.inside (c.in_ok-inside.ensures.is c.args.stop.visit.inside c.requires.stop.ranks.inside is.stays)

pub with_stop-together-requires-clause-behind : goal.with_stop-together-requires-clause-behind
with_stop-together-requires-clause-behind t c =
    let m = c.args.moments.now in
    let v = c.requires.moments.visits in
    gain_small (fixed_of m) (free_of m) v.own v.small c.args.stop.visit.gone c.args.key.end c.args.key.room _ (behind_is m c.requires.moments c.args.key.end c.args.key.top
    c.args.key.room c.args.gains.now c.args.stop c.requires.some c.requires.few c.requires.top c.requires.stop c.if-visit-key.false c.requires.gains).1

pub with_stop-returns-clause-is : goal.with_stop-returns-clause-is
with_stop-returns-clause-is t c =
    let m = c.args.moments.now in
    let v = c.requires.moments.visits in
    let visit = c.args.stop.visit in
    let is = v.own.spans (span_of visit) c.requires.stop.ours in
    let a : visit.comes < visit.inside = is.enters in
    let b : visit.inside ≤ visit.until = is.stays in
    let d : visit.until < visit.gone = is.leaves in
    let f = c.if-visit-key.false in
    let few = c.if-visit-key-2.false in
    let own = seen visit.gain (v.small.gains (span_of visit) c.requires.stop.ours) in
    let inside = c.in_ok-inside.ensures.is visit.inside c.requires.stop.ranks.inside b in
    let behind = (behind_is m c.requires.moments c.args.key.end c.args.key.top c.args.key.room c.args.gains.now c.args.stop c.requires.some c.requires.few c.requires.top
    c.requires.stop f c.requires.gains).1 in
    λ n le. joined (best n (fixed_of m) (free_of m)) c.args.key.end c.args.key.room (span_of visit) _ c.in_ok-inside.inside _ _
    (omega (arith, f)) (omega (arith, few)) own (inside n (omega (arith, le, a, b, d, f))) (behind n (omega (arith, le, a, b, d))) c.together.ensures
