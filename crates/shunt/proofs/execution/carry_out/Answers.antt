use Rattle.std.proofs.Common.{inl, refl}
use Rattle.shunt_inputs.specs.defs.Writes.{known}
use Rattle.shunt_inputs.proofs.HeardSteps.{first_still, view_still}
use Rattle.shunt.specs.declared.status.Status.TheVariants as status
use Rattle.shunt.specs.defs.Replies.{IsReplyOver}
use Rattle.shunt.specs.defs.Calls.{call_of}
use Rattle.shunt.specs.defs.Ends.{seen, telling}
use Rattle.shunt.proofs.Firsts.{delivered, fault_rose, led_fault, led_input, led_memory}
use Rattle.shunt.proofs.ToldFiles.{known_ends, known_early, view_of}
use Rattle.shunt.proofs.execution.carry_out.Goals as goal

pub returns-in-Ok-clause-ends : goal.returns-in-Ok-clause-ends
returns-in-Ok-clause-ends g c = λ before after are.
    let S = g.S.Store in
    let O = g.O.Sink in
    let e = c.in-Ok.ensures in
    let call = call_of c.args.command in
    let t = telling S.told S.heard S.stored c.args.store.now in
    let u = telling S.told S.heard S.stored c.deliver.new.store in
    let old = seen (S.told c.args.store.now) S.stored S.faults O.told O.faults c.args.store.now c.args.out.now in
    let new = seen (S.told c.deliver.new.store) S.stored S.faults O.told O.faults c.deliver.new.store c.deliver.new.out in
    let start = known (S.told c.args.store.now) (S.stored c.args.store.now) in
    let mid = known (S.told c.answer_to.new.store) (S.stored c.answer_to.new.store) in
    let leads = e.leads before (view_still _ _ _ _ before c.deliver.ensures.heard (view_of t u before after are)) in
    known_ends t u old new before after refl refl refl refl call _ are (delivered call before _ start mid _ _ _ _ new _ e.cause.later leads c.deliver.ensures.ends)

pub returns-in-Err-Input-clause-ends : goal.returns-in-Err-Input-clause-ends
returns-in-Err-Input-clause-ends g c = λ before after are.
    let S = g.S.Store in
    let O = g.O.Sink in
    let e = c.in-Err-Input.ensures in
    let call = call_of c.args.command in
    let d = c.deliver-in-Err-Input in
    let t = telling S.told S.heard S.stored c.args.store.now in
    let u = telling S.told S.heard S.stored d.new.store in
    let old = seen (S.told c.args.store.now) S.stored S.faults O.told O.faults c.args.store.now c.args.out.now in
    let new = seen (S.told d.new.store) S.stored S.faults O.told O.faults d.new.store d.new.out in
    let start = known (S.told c.args.store.now) (S.stored c.args.store.now) in
    let mid = known (S.told c.answer_to.new.store) (S.stored c.answer_to.new.store) in
    let leads = e.leads before (view_still _ _ _ _ before d.ensures.heard (view_of t u before after are)) in
    known_ends t u old new before after refl refl refl refl call _ are (delivered call before _ start mid _ _ _ _ new _ e.cause.later
    (led_input (IsReplyOver call before) start mid _ _ _ c.in-Err-Input.field-0-is c.refused.ensures leads) d.ensures.ends)

pub returns-in-Err-Fault-clause-ends : goal.returns-in-Err-Fault-clause-ends
returns-in-Err-Fault-clause-ends g c = λ before after are.
    let S = g.S.Store in
    let O = g.O.Sink in
    let e = c.in-Err-Fault.ensures in
    let t = telling S.told S.heard S.stored c.args.store.now in
    let u = telling S.told S.heard S.stored c.answer_to.new.store in
    let old = seen (S.told c.args.store.now) S.stored S.faults O.told O.faults c.args.store.now c.args.out.now in
    let new = seen (S.told c.answer_to.new.store) S.stored S.faults O.told O.faults c.answer_to.new.store c.args.out.now in
    let start = known (S.told c.args.store.now) (S.stored c.args.store.now) in
    let end = known (S.told c.answer_to.new.store) (S.stored c.answer_to.new.store) in
    let stays = led_fault (IsReplyOver (call_of c.args.command) before) start end _ c.in-Err-Fault.field-0-is (e.leads before (view_of t u before after are)) in
    inl (known_early t u old new before after refl refl refl refl status.Store are (fault_rose _ _ _ c.in-Err-Fault.field-0-is e.cause, refl, stays.0, stays.1))

pub returns-in-Err-Memory-clause-ends : goal.returns-in-Err-Memory-clause-ends
returns-in-Err-Memory-clause-ends g c = λ before after are.
    let S = g.S.Store in
    let O = g.O.Sink in
    let e = c.in-Err-Memory.ensures in
    let t = telling S.told S.heard S.stored c.args.store.now in
    let u = telling S.told S.heard S.stored c.answer_to.new.store in
    let old = seen (S.told c.args.store.now) S.stored S.faults O.told O.faults c.args.store.now c.args.out.now in
    let new = seen (S.told c.answer_to.new.store) S.stored S.faults O.told O.faults c.answer_to.new.store c.args.out.now in
    let start = known (S.told c.args.store.now) (S.stored c.args.store.now) in
    let end = known (S.told c.answer_to.new.store) (S.stored c.answer_to.new.store) in
    let stays = led_memory (IsReplyOver (call_of c.args.command) before) start end _ c.in-Err-Memory.field-0-is (e.leads before (view_of t u before after are)) in
    inl (known_early t u old new before after refl refl refl refl status.Memory are (refl, stays.0, stays.1))

pub returns-in-Ok-clause-heard : goal.returns-in-Ok-clause-heard
returns-in-Ok-clause-heard g c = first_still _ _ _ _ c.deliver.ensures.heard c.in-Ok.ensures.first

pub returns-in-Err-Input-clause-heard : goal.returns-in-Err-Input-clause-heard
returns-in-Err-Input-clause-heard g c = first_still _ _ _ _ c.deliver-in-Err-Input.ensures.heard c.in-Err-Input.ensures.first
