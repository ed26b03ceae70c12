use mir.Syntax.{w64}
use mir.Val.{to_z, of_z}
use Rattle.std.specs.Prelude.{Some}
use Rattle.std.proofs.Common.{◌≡◌, ◌∙◌, ℕ, ℤ, List, sym, subst, arith}
use Rattle.std.proofs.lemmas.Int.{ints}
use Rattle.shunt_base.specs.declared.duals.Case.{Case}
use Rattle.shunt_choices.proofs.Given.{PlaceLaws}
use Rattle.shunt_prices.specs.defs.Prices.{track_length}
use Rattle.shunt_stacks.specs.defs.Stacks.{blocks_of}
use Rattle.shunt_stacks.specs.defs.Fillings.{IsStackGain}
use Rattle.shunt_stacks.specs.defs.Numbers.{fixed_spans, free_spans, entry_number, leave_number}
use Rattle.shunt_stacks.specs.defs.Spans.{Span}
use Rattle.shunt_recount.specs.defs.Visits.{spans_of, AreSmall, IsBest}
use Rattle.shunt_recount.specs.defs.Moments.{fixed_of, free_of}
use Rattle.shunt_recount.specs.defs.Places.{IsTableOf}
use Rattle.shunt_recount.specs.defs.Offers.{stack_at, blocks_in, offer_spans, AreOffersOf}
use Rattle.shunt_recount.proofs.Spanned.{same_spans, offers_within, offers_small, all_small}
use Rattle.shunt_recount.proofs.Gained.{tells}
use Rattle.shunt_recount.proofs.gains.stack_gain.Goals as goal
use Rattle.shunt_blocks.proofs.Shapes.{all_within}
use Rattle.shunt_stacks.proofs.Sums.{own_lists as moved_own}
use Rattle.shunt_lists.proofs.Lists.{moved_both}

pub free_visits-requires-clause-within : goal.free_visits-requires-clause-within
free_visits-requires-clause-within c = offers_within c.args.instance.now c.args.blocks.now c.requires.offers.0 (stack_at c.args.end) c.args.offers.now c.requires.offers.2

pub free_visits-requires-clause-small : goal.free_visits-requires-clause-small
free_visits-requires-clause-small c = offers_small c.args.instance.now c.args.blocks.now c.requires.offers.0 (stack_at c.args.end) c.args.offers.now c.requires.offers.2

pub greatest_gain-requires-clause-own : goal.greatest_gain-requires-clause-own
greatest_gain-requires-clause-own c =
    let night = c.args.instance.now in
    let formed = c.units.ensures.formed in
    let stack = stack_at c.args.end in
    let case = c.requires.offers.0 in
    let of = c.requires.offers.2 in
    let fixed = fixed_spans night (entry_number night) (leave_number night) (blocks_of stack c.args.blocks.now) in
    let free = free_spans night (entry_number night) (leave_number night) case (blocks_in c.args.offers.now) in
    moved_own fixed free (spans_of c.in_ok-fixed.fixed.items) (spans_of c.in_ok-free.free.items) c.in_ok-fixed.ensures
    (c.in_ok-free.ensures ∙ same_spans night case c.args.offers.now of.gains)
    (c.gains_by_events.ensures.own night c.args.blocks.now (blocks_in c.args.offers.now) case stack 5760000 (entry_number night)
    (leave_number night) formed c.requires.each c.requires.apart (c.gains_by_events.ensures.numbers night formed) of.free)

pub greatest_gain-requires-clause-small : goal.greatest_gain-requires-clause-small
greatest_gain-requires-clause-small c =
    let night = c.args.instance.now in
    let formed = c.units.ensures.formed in
    let stack = stack_at c.args.end in
    let case = c.requires.offers.0 in
    let of = c.requires.offers.2 in
    let places : PlaceLaws = record { unit_in = c.places.ensures.unit_in; position_in = c.places.ensures.position_in } in
    moved_both AreSmall (fixed_spans night (entry_number night) (leave_number night) (blocks_of stack c.args.blocks.now)) (offer_spans night c.args.offers.now)
    (spans_of c.in_ok-fixed.fixed.items) (spans_of c.in_ok-free.free.items)
    c.in_ok-fixed.ensures c.in_ok-free.ensures
    (all_small night places (c.gains_by_events.ensures.numbers night formed) c.args.blocks.now stack c.args.offers.now (all_within night c.args.blocks.now c.requires.each)
    (offers_within night c.args.blocks.now case stack c.args.offers.now of) (offers_small night c.args.blocks.now case stack c.args.offers.now of)
    (c.unit_numbers.ensures.units_few night formed))

pub unreachable-requires : goal.unreachable-requires
unreachable-requires c =
    let night = c.args.instance.now in
    let formed = c.units.ensures.formed in
    let stack = stack_at c.args.end in
    let case = c.requires.offers.0 in
    let of = c.requires.offers.2 in
    let there = c.gains_there.ensures.gain night c.args.blocks.now case stack formed (all_within night c.args.blocks.now c.requires.each) c.requires.apart c.requires.through in
    let is = tells (IsStackGain night c.args.blocks.now case stack) c.room_on-room.result (track_length night stack.track.0)
    (fixed_spans night (entry_number night) (leave_number night) (blocks_of stack c.args.blocks.now))
    (free_spans night (entry_number night) (leave_number night) case (blocks_in c.args.offers.now)) (spans_of c.in_ok-fixed.fixed.items)
    (spans_of c.in_ok-free.free.items) c.in_ok-greatest.greatest.gain c.room_on-room.ensures.exact
    c.in_ok-fixed.ensures (c.in_ok-free.ensures ∙ same_spans night case c.args.offers.now of.gains) c.in_ok-greatest.ensures.is
    (λ most. c.gains_by_events.ensures.gain night c.args.blocks.now (blocks_in c.args.offers.now) case stack 5760000 (entry_number night)
    (leave_number night) most formed c.requires.each c.requires.apart (c.gains_by_events.ensures.numbers night formed) of.free) in
    c.in_default.not-Some there.0 ((is there.0).1 there.1)

pub returns-clause-exact : goal.returns-clause-exact
returns-clause-exact c = λ other offers.
    let night = c.args.instance.now in
    let path = c.args.blocks.now in
    let formed = c.units.ensures.formed in
    let stack = stack_at c.args.end in
    let is = λ (case : Case) (of : AreOffersOf night path case stack c.args.offers.now).
    tells (IsStackGain night path case stack) c.room_on-room.result (track_length night stack.track.0)
    (fixed_spans night (entry_number night) (leave_number night) (blocks_of stack path))
    (free_spans night (entry_number night) (leave_number night) case (blocks_in c.args.offers.now)) (spans_of c.in_ok-fixed.fixed.items)
    (spans_of c.in_ok-free.free.items) c.in_ok-greatest.greatest.gain c.room_on-room.ensures.exact
    c.in_ok-fixed.ensures (c.in_ok-free.ensures ∙ same_spans night case c.args.offers.now of.gains) c.in_ok-greatest.ensures.is
    (λ most. c.gains_by_events.ensures.gain night path (blocks_in c.args.offers.now) case stack 5760000 (entry_number night)
    (leave_number night) most formed c.requires.each c.requires.apart (c.gains_by_events.ensures.numbers night formed) of.free) in
    let own = (is c.requires.offers.0 c.requires.offers.2 c.in-Some.gain).0 c.in-Some.is in
    let small = c.sums_fit.ensures.gain night path c.requires.offers.0 stack c.in-Some.gain formed
    (all_within night path c.requires.each) c.requires.apart c.requires.through c.requires.offers.1 own in
    let seen : to_z w64 (of_z w64 c.in-Some.gain) ≡ c.in-Some.gain = omega (arith, ints, small.low, small.high) in
    subst (IsStackGain night path other stack) (sym seen) ((is other offers c.in-Some.gain).0 c.in-Some.is)

pub returns-clause-small : goal.returns-clause-small
returns-clause-small c =
    let night = c.args.instance.now in
    let path = c.args.blocks.now in
    let formed = c.units.ensures.formed in
    let stack = stack_at c.args.end in
    let case = c.requires.offers.0 in
    let of = c.requires.offers.2 in
    let is = tells (IsStackGain night path case stack) c.room_on-room.result (track_length night stack.track.0)
    (fixed_spans night (entry_number night) (leave_number night) (blocks_of stack path))
    (free_spans night (entry_number night) (leave_number night) case (blocks_in c.args.offers.now)) (spans_of c.in_ok-fixed.fixed.items)
    (spans_of c.in_ok-free.free.items) c.in_ok-greatest.greatest.gain c.room_on-room.ensures.exact
    c.in_ok-fixed.ensures (c.in_ok-free.ensures ∙ same_spans night case c.args.offers.now of.gains) c.in_ok-greatest.ensures.is
    (λ most. c.gains_by_events.ensures.gain night path (blocks_in c.args.offers.now) case stack 5760000 (entry_number night)
    (leave_number night) most formed c.requires.each c.requires.apart (c.gains_by_events.ensures.numbers night formed) of.free) in
    let small = c.sums_fit.ensures.gain night path case stack c.in-Some.gain formed (all_within night path c.requires.each) c.requires.apart c.requires.through c.requires.offers.1
    ((is c.in-Some.gain).0 c.in-Some.is) in
    record { low = omega (arith, ints, small.low, small.high); high = omega (arith, ints, small.low, small.high) }

pub returns-clause-table : goal.returns-clause-table
returns-clause-table c =
    let night = c.args.instance.now in
    let path = c.args.blocks.now in
    let formed = c.units.ensures.formed in
    let stack = stack_at c.args.end in
    let case = c.requires.offers.0 in
    let of = c.requires.offers.2 in
    let is = tells (IsStackGain night path case stack) c.room_on-room.result (track_length night stack.track.0)
    (fixed_spans night (entry_number night) (leave_number night) (blocks_of stack path))
    (free_spans night (entry_number night) (leave_number night) case (blocks_in c.args.offers.now)) (spans_of c.in_ok-fixed.fixed.items)
    (spans_of c.in_ok-free.free.items) c.in_ok-greatest.greatest.gain c.room_on-room.ensures.exact
    c.in_ok-fixed.ensures (c.in_ok-free.ensures ∙ same_spans night case c.args.offers.now of.gains) c.in_ok-greatest.ensures.is
    (λ most. c.gains_by_events.ensures.gain night path (blocks_in c.args.offers.now) case stack 5760000 (entry_number night)
    (leave_number night) most formed c.requires.each c.requires.apart (c.gains_by_events.ensures.numbers night formed) of.free) in
    let small = c.sums_fit.ensures.gain night path case stack c.in-Some.gain formed (all_within night path c.requires.each) c.requires.apart c.requires.through c.requires.offers.1
    ((is c.in-Some.gain).0 c.in-Some.is) in
    let seen : to_z w64 (of_z w64 c.in-Some.gain) ≡ c.in-Some.gain = omega (arith, ints, small.low, small.high) in
    let t = c.in_ok-greatest.greatest.table in
    let fixed = fixed_spans night (entry_number night) (leave_number night) (blocks_of stack path) in
    record {
      table = subst (λ (ys : List Span). IsTableOf fixed ys 5760000 t) c.in_ok-free.ensures
          (subst (λ (xs : List Span). IsTableOf xs (spans_of c.in_ok-free.free.items) 5760000 t) c.in_ok-fixed.ensures c.in_ok-greatest.ensures.table);
      whole = subst (λ (z : ℤ). IsBest (fixed_of t.moments) (free_of t.moments) 0 5760000 (track_length night stack.track.0) (Some z)) (sym seen)
          (subst (λ (r : ℕ). IsBest (fixed_of t.moments) (free_of t.moments) 0 5760000 r (Some c.in-Some.gain)) c.room_on-room.ensures.exact
          (subst (IsBest (fixed_of t.moments) (free_of t.moments) 0 5760000 c.room_on-room.result) c.in-Some.is c.in_ok-greatest.ensures.whole));
    }
