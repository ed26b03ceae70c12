use Rattle.std.specs.Prelude.{IfOk}
use Rattle.std.proofs.Common.{◌∙◌, ℕ, subst}
use Rattle.shunt_stacks.specs.defs.Numbers.{free_spans}
use Rattle.shunt_gains.specs.defs.Events.{entry_of, leave_of, events_in}
use Rattle.shunt_gains.specs.defs.Tables.{spans_of, AreSmall, IsTableOf}
use Rattle.shunt_fillings.specs.defs.Pieces.{seen, blocks_in, fixed_of_stack, spans_with}
use Rattle.shunt_fillings.proofs.Tabled.{all_within, little_gains, all_small, free_same, table_of}
use Rattle.shunt_fillings.proofs.gains.stack_table.Goals as goal
use Rattle.shunt_lists.proofs.Options.{if_ok}
use Rattle.shunt_lists.proofs.Lists.{moved_both}
use Rattle.shunt_blocks.proofs.Shapes.{all_within as blocks_within}
use Rattle.shunt_stacks.proofs.Sums.{own_lists}

pub fixed_pieces-requires-clause-within : goal.fixed_pieces-requires-clause-within
fixed_pieces-requires-clause-within c = blocks_within c.args.instance.now c.args.path.now c.requires.each

pub free_pieces-requires-clause-within : goal.free_pieces-requires-clause-within
free_pieces-requires-clause-within c = all_within c.args.instance.now c.args.events.now c.requires.candidates.0 c.args.path.now
    (seen c.args.stack) c.args.candidates.now c.requires.candidates.2

pub free_pieces-requires-clause-small : goal.free_pieces-requires-clause-small
free_pieces-requires-clause-small c = little_gains c.args.instance.now c.args.events.now c.requires.candidates.0 c.args.path.now
    (seen c.args.stack) c.args.candidates.now c.requires.candidates.2

pub new-requires-clause-own : goal.new-requires-clause-own
new-requires-clause-own c =
    let night = c.args.instance.now in
    let e = c.args.events.now in
    let path = c.args.path.now in
    let stack = seen c.args.stack in
    let ks = c.args.candidates.now in
    let case = c.requires.candidates.0 in
    let are = c.requires.candidates.2 in
    own_lists (fixed_of_stack night e path stack) (free_spans night (entry_of e) (leave_of e) case (blocks_in ks)) (spans_of c.in_ok-fixed.fixed.items)
    (spans_of c.in_ok-free.free.items)
    c.in_ok-fixed.ensures (c.in_ok-free.ensures ∙ free_same night e case path stack ks are)
    (c.gains_by_events.ensures.own night path (blocks_in ks) case stack (events_in e) (entry_of e)
    (leave_of e) c.units.ensures.formed c.requires.each c.requires.apart c.requires.events.numbers are.free)

pub new-requires-clause-small : goal.new-requires-clause-small
new-requires-clause-small c =
    let night = c.args.instance.now in
    let e = c.args.events.now in
    let path = c.args.path.now in
    let stack = seen c.args.stack in
    let ks = c.args.candidates.now in
    moved_both AreSmall (fixed_of_stack night e path stack) (spans_with night e ks) (spans_of c.in_ok-fixed.fixed.items) (spans_of c.in_ok-free.free.items)
    c.in_ok-fixed.ensures c.in_ok-free.ensures (all_small night e c.requires.candidates.0 path stack ks c.requires.candidates.2)

pub returns : goal.returns
returns c =
    let night = c.args.instance.now in
    let e = c.args.events.now in
    if_ok (IsTableOf (spans_of c.in_ok-fixed.fixed.items) (spans_of c.in_ok-free.free.items) (events_in e))
    (IsTableOf (fixed_of_stack night e c.args.path.now (seen c.args.stack)) (spans_with night e c.args.candidates.now) (events_in e)) c.new.result
    (λ t is. table_of (spans_of c.in_ok-fixed.fixed.items) (spans_of c.in_ok-free.free.items) _ _ c.in_ok-fixed.ensures c.in_ok-free.ensures (events_in e) t is)
    (subst (λ (n : ℕ). IfOk c.new.result (IsTableOf (spans_of c.in_ok-fixed.fixed.items) (spans_of c.in_ok-free.free.items) n)) c.len.ensures c.new.ensures)
