use Rattle.std.proofs.Common.{◌<◌, ◌+◌, ◌-◌, ◌++◌, ◌∷◌, [], ◌∙◌, pos, ap, arith}
use Rattle.shunt_blocks.specs.defs.Shapes.{unit_from, position_from}
use Rattle.shunt_choices.proofs.Given.{PlaceLaws}
use Rattle.shunt_stacks.specs.defs.Spans.{Span}
use Rattle.shunt_stacks.specs.defs.Numbers.{span_of, apart_of}
use Rattle.shunt_gains.specs.defs.Events.{entry_of, leave_of, events_in}
use Rattle.shunt_fillings.specs.defs.Pieces.{seen, blocks_in, fixed_of_stack, spans_with}
use Rattle.shunt_fillings.proofs.Tabled.{table_again}
use Rattle.shunt_fillings.proofs.Joined.{gains_beside}
use Rattle.shunt_fillings.proofs.Apart.{longer_each, longer_apart}
use Rattle.shunt_fillings.proofs.besides.gain_beside.Goals as goal

pub beside-requires-clause-table : goal.beside-requires-clause-table
beside-requires-clause-table c = c.requires.table.1.table

pub beside-requires-clause-few : goal.beside-requires-clause-few
beside-requires-clause-few c = let same = c.requires.table.1.events_same in let few = c.requires.scene.events.few in omega (arith, same, few)

pub beside-requires-clause-comes : goal.beside-requires-clause-comes
beside-requires-clause-comes c =
    let s = c.args.scene.now in
    let within = c.requires.shape in
    let u = unit_from s.instance.now c.args.shape in
    let inside = c.places.ensures.unit_in s.instance.now c.args.shape u within (record { from = omega arith; to = omega (arith, within.n) }) in
    let there : entry_of s.events.now u < events_in s.events.now = c.requires.scene.events.numbers.entries_in u inside in
    let same = c.requires.table.1.events_same in
    let from = ap (λ (p : Span). p.from)
    (c.piece_of-own.ensures ∙ ap (span_of c.args.scene.now.instance.now (entry_of c.args.scene.now.events.now) (leave_of c.args.scene.now.events.now) (λ z. pos 0)) c.block_on-block.ensures) in
    omega (arith, there, same, from)

pub beside-requires-clause-until : goal.beside-requires-clause-until
beside-requires-clause-until c =
    let s = c.args.scene.now in
    let within = c.requires.shape in
    let v = position_from s.instance.now c.args.shape + (c.args.shape.n - 1) in
    let inside = c.places.ensures.position_in s.instance.now c.args.shape v within (record { from = omega arith; to = omega (arith, within.n) }) in
    let there : leave_of s.events.now v < events_in s.events.now = c.requires.scene.events.numbers.leaves_in v inside in
    let same = c.requires.table.1.events_same in
    let until = ap (λ (p : Span). p.until)
    (c.piece_of-own.ensures ∙ ap (span_of c.args.scene.now.instance.now (entry_of c.args.scene.now.events.now) (leave_of c.args.scene.now.events.now) (λ z. pos 0)) c.block_on-block.ensures) in
    omega (arith, there, same, until)

pub returns-clause-table : goal.returns-clause-table
returns-clause-table c = λ ks is.
    table_again (fixed_of_stack c.args.scene.now.instance.now c.args.scene.now.events.now c.args.scene.now.path.now.blocks (seen c.args.stack))
    (spans_with c.args.scene.now.instance.now c.args.scene.now.events.now ks) (events_in c.args.scene.now.events.now) _ _ is c.beside.ensures.table

pub returns-clause-beside : goal.returns-clause-beside
returns-clause-beside c =
    let s = c.args.scene.now in
    let night = s.instance.now in
    let e = s.events.now in
    let path = s.path.now.blocks in
    let stack = seen c.args.stack in
    let formed = c.units.ensures.formed in
    let numbers = c.requires.scene.events.numbers in
    let places : PlaceLaws = record { unit_in = c.places.ensures.unit_in; position_in = c.places.ensures.position_in } in
    λ case ks are is.
    gains_beside night e path case stack ks are c.args.table.now is c.args.shape c.piece_of-own.result
    (c.piece_of-own.ensures ∙ ap (span_of c.args.scene.now.instance.now (entry_of c.args.scene.now.events.now) (leave_of c.args.scene.now.events.now) (λ z. pos 0)) c.block_on-block.ensures)
    c.track_length-room.result
    c.track_length-room.ensures c.beside.result c.beside.ensures.beside
    (λ b same of may.
    let free = c.choices_by_events.ensures.blocks night path (blocks_in ks) b case stack formed may.free are.free in
    let each = longer_each night path b c.requires.scene.each may in
    let apart = longer_apart places night s.path.now c.requires.scene.path b may in
    record {
      own = c.gains_by_events.ensures.own night (path ++ b ∷ []) (apart_of night b (blocks_in ks)) case stack (events_in e) (entry_of e) (leave_of e) formed each apart numbers free;
      agree = λ x y out. c.choices_by_events.ensures.agree night path (blocks_in ks) b case stack (events_in e) (entry_of e) (leave_of e) x y formed numbers are.free may.free of out;
      gains = λ most. c.gains_by_events.ensures.gain night (path ++ b ∷ []) (apart_of night b (blocks_in ks)) case stack (events_in e) (entry_of e) (leave_of e) most
          formed each apart numbers free;
    })
