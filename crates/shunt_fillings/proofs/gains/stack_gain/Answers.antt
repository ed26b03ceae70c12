use mir.Syntax.{w64}
use mir.Val.{to_z, of_z}
use Rattle.std.proofs.Common.{◌≡◌, sym, subst, arith}
use Rattle.std.proofs.lemmas.Int.{ints}
use Rattle.shunt_prices.specs.defs.Prices.{track_length}
use Rattle.shunt_stacks.specs.defs.Fillings.{IsStackGain}
use Rattle.shunt_gains.specs.defs.Events.{entry_of, leave_of, events_in}
use Rattle.shunt_fillings.specs.defs.Pieces.{seen, blocks_in, fixed_of_stack, spans_with}
use Rattle.shunt_fillings.proofs.Tabled.{gain_told, table_again}
use Rattle.shunt_fillings.proofs.gains.stack_gain.Goals as goal
use Rattle.shunt_blocks.proofs.Shapes.{all_within as blocks_within}

pub unreachable-requires : goal.unreachable-requires
unreachable-requires c =
    let there = c.gains_there.ensures.gain c.args.instance.now c.args.path.now c.requires.candidates.0 (seen c.args.stack) c.units.ensures.formed
    (blocks_within c.args.instance.now c.args.path.now c.requires.each) c.requires.apart c.requires.through in
    let told = gain_told (IsStackGain c.args.instance.now c.args.path.now c.requires.candidates.0 (seen c.args.stack)) c.args.instance.now c.args.events.now c.requires.candidates.0 c.args.path.now (seen c.args.stack)
    c.args.candidates.now c.requires.candidates.2 c.in_ok-table.table c.in_ok-table.ensures c.len.result c.track_length-room.result (track_length c.args.instance.now c.args.stack.track.0)
    c.len.ensures c.track_length-room.ensures c.in_ok-gain.field-0 c.in_ok-gain.ensures.best
    (λ most. c.gains_by_events.ensures.gain c.args.instance.now c.args.path.now (blocks_in c.args.candidates.now) c.requires.candidates.0 (seen c.args.stack) (events_in c.args.events.now)
    (entry_of c.args.events.now) (leave_of c.args.events.now) most c.units.ensures.formed c.requires.each c.requires.apart c.requires.events.numbers (c.requires.candidates.2).free) in
    c.in_default.not-Some there.0 ((told there.0).1 there.1)

pub returns-clause-exact : goal.returns-clause-exact
returns-clause-exact c =
    let first = c.requires.candidates in
    let told = gain_told (IsStackGain c.args.instance.now c.args.path.now c.requires.candidates.0 (seen c.args.stack)) c.args.instance.now c.args.events.now c.requires.candidates.0 c.args.path.now (seen c.args.stack)
    c.args.candidates.now c.requires.candidates.2 c.in_ok-table.table c.in_ok-table.ensures c.len.result c.track_length-room.result (track_length c.args.instance.now c.args.stack.track.0)
    c.len.ensures c.track_length-room.ensures c.in_ok-gain.field-0 c.in_ok-gain.ensures.best
    (λ most. c.gains_by_events.ensures.gain c.args.instance.now c.args.path.now (blocks_in c.args.candidates.now) c.requires.candidates.0 (seen c.args.stack) (events_in c.args.events.now)
    (entry_of c.args.events.now) (leave_of c.args.events.now) most c.units.ensures.formed c.requires.each c.requires.apart c.requires.events.numbers (c.requires.candidates.2).free) in
    let is = (told c.in-Some.gain).0 c.in-Some.is in
    let small = c.sums_fit.ensures.gain c.args.instance.now c.args.path.now first.0 (seen c.args.stack) c.in-Some.gain c.units.ensures.formed
    (blocks_within c.args.instance.now c.args.path.now c.requires.each) c.requires.apart c.requires.through first.1 is in
    let own : to_z w64 (of_z w64 c.in-Some.gain) ≡ c.in-Some.gain = omega (arith, ints, small.low, small.high) in
    λ case are.
    let here = gain_told (IsStackGain c.args.instance.now c.args.path.now case (seen c.args.stack)) c.args.instance.now c.args.events.now case c.args.path.now (seen c.args.stack)
    c.args.candidates.now are c.in_ok-table.table c.in_ok-table.ensures c.len.result c.track_length-room.result (track_length c.args.instance.now c.args.stack.track.0)
    c.len.ensures c.track_length-room.ensures c.in_ok-gain.field-0 c.in_ok-gain.ensures.best
    (λ most. c.gains_by_events.ensures.gain c.args.instance.now c.args.path.now (blocks_in c.args.candidates.now) case (seen c.args.stack) (events_in c.args.events.now)
    (entry_of c.args.events.now) (leave_of c.args.events.now) most c.units.ensures.formed c.requires.each c.requires.apart c.requires.events.numbers (are).free) in
    subst (IsStackGain c.args.instance.now c.args.path.now case (seen c.args.stack)) (sym own) ((here c.in-Some.gain).0 c.in-Some.is)

pub returns-clause-small : goal.returns-clause-small
returns-clause-small c =
    let first = c.requires.candidates in
    let told = gain_told (IsStackGain c.args.instance.now c.args.path.now c.requires.candidates.0 (seen c.args.stack)) c.args.instance.now c.args.events.now c.requires.candidates.0 c.args.path.now (seen c.args.stack)
    c.args.candidates.now c.requires.candidates.2 c.in_ok-table.table c.in_ok-table.ensures c.len.result c.track_length-room.result (track_length c.args.instance.now c.args.stack.track.0)
    c.len.ensures c.track_length-room.ensures c.in_ok-gain.field-0 c.in_ok-gain.ensures.best
    (λ most. c.gains_by_events.ensures.gain c.args.instance.now c.args.path.now (blocks_in c.args.candidates.now) c.requires.candidates.0 (seen c.args.stack) (events_in c.args.events.now)
    (entry_of c.args.events.now) (leave_of c.args.events.now) most c.units.ensures.formed c.requires.each c.requires.apart c.requires.events.numbers (c.requires.candidates.2).free) in
    let is = (told c.in-Some.gain).0 c.in-Some.is in
    let small = c.sums_fit.ensures.gain c.args.instance.now c.args.path.now first.0 (seen c.args.stack) c.in-Some.gain c.units.ensures.formed
    (blocks_within c.args.instance.now c.args.path.now c.requires.each) c.requires.apart c.requires.through first.1 is in
    record { low = omega (arith, ints, small.low, small.high); high = omega (arith, ints, small.low, small.high) }

pub returns-clause-table : goal.returns-clause-table
returns-clause-table c =
    table_again (fixed_of_stack c.args.instance.now c.args.events.now c.args.path.now (seen c.args.stack)) (spans_with c.args.instance.now c.args.events.now c.args.candidates.now)
    (events_in c.args.events.now) c.in_ok-table.table _ c.in_ok-table.ensures c.in_ok-gain.ensures.table
