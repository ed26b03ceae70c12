use Rattle.std.proofs.Common.{ap, refl, Ok}
use Rattle.shunt_inputs.specs.defs.Writes.{known}
use Rattle.shunt.specs.defs.Calls.{call_of}
use Rattle.shunt.proofs.Asked.{asked, checked_over, compared_over, followed_over, inputs_named, passed_over, pin_checked_over, replayed_over, resumed_minute, resumed_over, rostered_over, shared_over, upgraded_over}
use Rattle.shunt.proofs.Firsts.{first_of, none_heard, improved_leads, pinned_leads, plain, planned_leads}
use Rattle.shunt.proofs.Commands.{trial_answered}
use Rattle.shunt.proofs.replies.answer_to.Goals as goal

pub reply-requires-clause-names : goal.reply-requires-clause-names
reply-requires-clause-names g c = inputs_named _ _ (ap call_of c.in-Match.is) c.requires.names

pub returns-in-Match-clause-leads : goal.returns-in-Match-clause-leads
returns-in-Match-clause-leads g c = λ view seen. asked _ _ _ view _ _ _ (ap call_of c.in-Match.is) (c.reply.ensures.leads view seen) (λ reply a. a)

pub returns-in-Match-clause-first : goal.returns-in-Match-clause-first
returns-in-Match-clause-first g c = first_of _ _ _ _ (ap call_of c.in-Match.is) c.reply.ensures.first

pub reply-requires-in-Follow-clause-names : goal.reply-requires-in-Follow-clause-names
reply-requires-in-Follow-clause-names g c = inputs_named _ _ (ap call_of c.in-Follow.is) c.requires.names

pub returns-in-Follow-clause-leads : goal.returns-in-Follow-clause-leads
returns-in-Follow-clause-leads g c = λ view seen. asked _ _ _ view _ _ _ (ap call_of c.in-Follow.is) (c.reply-in-Follow.ensures.leads view seen)
    (λ reply a. (a.0, a.1, followed_over a.0 _ _ reply a.2))

pub returns-in-Follow-clause-first : goal.returns-in-Follow-clause-first
returns-in-Follow-clause-first g c = first_of _ _ _ _ (ap call_of c.in-Follow.is) c.reply-in-Follow.ensures.first

pub reply-requires-in-Audit-clause-names : goal.reply-requires-in-Audit-clause-names
reply-requires-in-Audit-clause-names g c = inputs_named _ _ (ap call_of c.in-Audit.is) c.requires.names

pub returns-in-Audit-clause-leads : goal.returns-in-Audit-clause-leads
returns-in-Audit-clause-leads g c = λ view seen. asked _ _ _ view _ _ _ (ap call_of c.in-Audit.is) (c.reply-in-Audit.ensures.leads view seen) (λ reply a. a)

pub returns-in-Audit-clause-first : goal.returns-in-Audit-clause-first
returns-in-Audit-clause-first g c = first_of _ _ _ _ (ap call_of c.in-Audit.is) c.reply-in-Audit.ensures.first

pub reply-requires-in-Delay-clause-names : goal.reply-requires-in-Delay-clause-names
reply-requires-in-Delay-clause-names g c = inputs_named _ _ (ap call_of c.in-Delay.is) c.requires.names

pub returns-in-Delay-clause-leads : goal.returns-in-Delay-clause-leads
returns-in-Delay-clause-leads g c = λ view seen. asked _ _ _ view _ _ _ (ap call_of c.in-Delay.is) (c.reply-in-Delay.ensures.leads view seen) (λ reply a. a)

pub returns-in-Delay-clause-first : goal.returns-in-Delay-clause-first
returns-in-Delay-clause-first g c = first_of _ _ _ _ (ap call_of c.in-Delay.is) c.reply-in-Delay.ensures.first

pub reply-requires-in-Report-clause-names : goal.reply-requires-in-Report-clause-names
reply-requires-in-Report-clause-names g c = inputs_named _ _ (ap call_of c.in-Report.is) c.requires.names

pub returns-in-Report-clause-leads : goal.returns-in-Report-clause-leads
returns-in-Report-clause-leads g c = λ view seen. asked _ _ _ view _ _ _ (ap call_of c.in-Report.is) (c.reply-in-Report.ensures.leads view seen) (λ reply a. a)

pub returns-in-Report-clause-first : goal.returns-in-Report-clause-first
returns-in-Report-clause-first g c = first_of _ _ _ _ (ap call_of c.in-Report.is) c.reply-in-Report.ensures.first

pub reply-requires-in-Check-clause-names : goal.reply-requires-in-Check-clause-names
reply-requires-in-Check-clause-names g c = inputs_named _ _ (ap call_of c.in-Check.is) c.requires.names

pub returns-in-Check-clause-leads : goal.returns-in-Check-clause-leads
returns-in-Check-clause-leads g c = λ view seen. asked _ _ _ view _ _ _ (ap call_of c.in-Check.is) (c.reply-in-Check.ensures.leads view seen)
    (λ reply a. (a.0, a.1, checked_over a.0 _ _ _ _ reply a.2))

pub returns-in-Check-clause-first : goal.returns-in-Check-clause-first
returns-in-Check-clause-first g c = first_of _ _ _ _ (ap call_of c.in-Check.is) c.reply-in-Check.ensures.first

pub reply-requires-in-Compare-clause-names : goal.reply-requires-in-Compare-clause-names
reply-requires-in-Compare-clause-names g c = inputs_named _ _ (ap call_of c.in-Compare.is) c.requires.names

pub returns-in-Compare-clause-leads : goal.returns-in-Compare-clause-leads
returns-in-Compare-clause-leads g c = λ view seen. asked _ _ _ view _ _ _ (ap call_of c.in-Compare.is) (c.reply-in-Compare.ensures.leads view seen)
    (λ reply a. (a.0, a.1, compared_over a.0 _ _ _ _ reply a.2))

pub returns-in-Compare-clause-first : goal.returns-in-Compare-clause-first
returns-in-Compare-clause-first g c = first_of _ _ _ _ (ap call_of c.in-Compare.is) c.reply-in-Compare.ensures.first

pub reply-requires-in-Zones-clause-names : goal.reply-requires-in-Zones-clause-names
reply-requires-in-Zones-clause-names g c = inputs_named _ _ (ap call_of c.in-Zones.is) c.requires.names

pub returns-in-Zones-clause-leads : goal.returns-in-Zones-clause-leads
returns-in-Zones-clause-leads g c = λ view seen. asked _ _ _ view _ _ _ (ap call_of c.in-Zones.is) (c.reply-in-Zones.ensures.leads view seen)
    (λ reply a. (a.0, a.1, passed_over a.0 _ _ _ _ reply a.2))

pub returns-in-Zones-clause-first : goal.returns-in-Zones-clause-first
returns-in-Zones-clause-first g c = first_of _ _ _ _ (ap call_of c.in-Zones.is) c.reply-in-Zones.ensures.first

pub reply-requires-in-Sheet-clause-names : goal.reply-requires-in-Sheet-clause-names
reply-requires-in-Sheet-clause-names g c = inputs_named _ _ (ap call_of c.in-Sheet.is) c.requires.names

pub returns-in-Sheet-clause-leads : goal.returns-in-Sheet-clause-leads
returns-in-Sheet-clause-leads g c = λ view seen. asked _ _ _ view _ _ _ (ap call_of c.in-Sheet.is) (c.reply-in-Sheet.ensures.leads view seen) (λ reply a. a)

pub returns-in-Sheet-clause-first : goal.returns-in-Sheet-clause-first
returns-in-Sheet-clause-first g c = first_of _ _ _ _ (ap call_of c.in-Sheet.is) c.reply-in-Sheet.ensures.first

pub reply-requires-in-Draw-clause-names : goal.reply-requires-in-Draw-clause-names
reply-requires-in-Draw-clause-names g c = inputs_named _ _ (ap call_of c.in-Draw.is) c.requires.names

pub returns-in-Draw-clause-leads : goal.returns-in-Draw-clause-leads
returns-in-Draw-clause-leads g c = λ view seen. asked _ _ _ view _ _ _ (ap call_of c.in-Draw.is) (c.reply-in-Draw.ensures.leads view seen) (λ reply a. a)

pub returns-in-Draw-clause-first : goal.returns-in-Draw-clause-first
returns-in-Draw-clause-first g c = first_of _ _ _ _ (ap call_of c.in-Draw.is) c.reply-in-Draw.ensures.first

pub reply-requires-in-Page-clause-names : goal.reply-requires-in-Page-clause-names
reply-requires-in-Page-clause-names g c = inputs_named _ _ (ap call_of c.in-Page.is) c.requires.names

pub returns-in-Page-clause-leads : goal.returns-in-Page-clause-leads
returns-in-Page-clause-leads g c = λ view seen. asked _ _ _ view _ _ _ (ap call_of c.in-Page.is) (c.reply-in-Page.ensures.leads view seen) (λ reply a. a)

pub returns-in-Page-clause-first : goal.returns-in-Page-clause-first
returns-in-Page-clause-first g c = first_of _ _ _ _ (ap call_of c.in-Page.is) c.reply-in-Page.ensures.first

pub reply-requires-in-Upgrade-clause-names : goal.reply-requires-in-Upgrade-clause-names
reply-requires-in-Upgrade-clause-names g c = inputs_named _ _ (ap call_of c.in-Upgrade.is) c.requires.names

pub returns-in-Upgrade-clause-leads : goal.returns-in-Upgrade-clause-leads
returns-in-Upgrade-clause-leads g c = λ view seen. asked _ _ _ view _ _ _ (ap call_of c.in-Upgrade.is) (c.reply-in-Upgrade.ensures.leads view seen)
    (λ reply a. (a.0, a.1, upgraded_over a.0 _ _ _ _ reply a.2))

pub returns-in-Upgrade-clause-first : goal.returns-in-Upgrade-clause-first
returns-in-Upgrade-clause-first g c = first_of _ _ _ _ (ap call_of c.in-Upgrade.is) c.reply-in-Upgrade.ensures.first

pub reply-requires-in-Drivers-clause-names : goal.reply-requires-in-Drivers-clause-names
reply-requires-in-Drivers-clause-names g c = inputs_named _ _ (ap call_of c.in-Drivers.is) c.requires.names

pub returns-in-Drivers-clause-leads : goal.returns-in-Drivers-clause-leads
returns-in-Drivers-clause-leads g c = λ view seen. asked _ _ _ view _ _ _ (ap call_of c.in-Drivers.is) (c.reply-in-Drivers.ensures.leads view seen)
    (λ reply a. (a.0, a.1, shared_over a.0 _ _ _ _ _ reply a.2))

pub returns-in-Drivers-clause-first : goal.returns-in-Drivers-clause-first
returns-in-Drivers-clause-first g c = first_of _ _ _ _ (ap call_of c.in-Drivers.is) c.reply-in-Drivers.ensures.first

pub reply-requires-in-Roster-clause-names : goal.reply-requires-in-Roster-clause-names
reply-requires-in-Roster-clause-names g c = inputs_named _ _ (ap call_of c.in-Roster.is) c.requires.names

pub returns-in-Roster-clause-leads : goal.returns-in-Roster-clause-leads
returns-in-Roster-clause-leads g c = λ view seen. asked _ _ _ view _ _ _ (ap call_of c.in-Roster.is) (c.reply-in-Roster.ensures.leads view seen)
    (λ reply a. (a.0, a.1, rostered_over a.0 _ _ _ _ _ reply a.2))

pub returns-in-Roster-clause-first : goal.returns-in-Roster-clause-first
returns-in-Roster-clause-first g c = first_of _ _ _ _ (ap call_of c.in-Roster.is) c.reply-in-Roster.ensures.first

pub reply-requires-in-CheckPinned-clause-names : goal.reply-requires-in-CheckPinned-clause-names
reply-requires-in-CheckPinned-clause-names g c = inputs_named _ _ (ap call_of c.in-CheckPinned.is) c.requires.names

pub returns-in-CheckPinned-clause-leads : goal.returns-in-CheckPinned-clause-leads
returns-in-CheckPinned-clause-leads g c = λ view seen. asked _ _ _ view _ _ _ (ap call_of c.in-CheckPinned.is) (c.reply-in-CheckPinned.ensures.leads view seen)
    (λ reply a. (a.0, a.1, pin_checked_over a.0 _ _ _ _ _ reply a.2))

pub returns-in-CheckPinned-clause-first : goal.returns-in-CheckPinned-clause-first
returns-in-CheckPinned-clause-first g c = first_of _ _ _ _ (ap call_of c.in-CheckPinned.is) c.reply-in-CheckPinned.ensures.first

pub reply-requires-in-Replay-clause-names : goal.reply-requires-in-Replay-clause-names
reply-requires-in-Replay-clause-names g c = inputs_named _ _ (ap call_of c.in-Replay.is) c.requires.names

pub returns-in-Replay-clause-leads : goal.returns-in-Replay-clause-leads
returns-in-Replay-clause-leads g c = λ view seen. asked _ _ _ view _ _ _ (ap call_of c.in-Replay.is) (c.reply-in-Replay.ensures.leads view seen)
    (λ reply a. (a.0, a.1, replayed_over a.0 _ _ _ _ _ reply a.2))

pub returns-in-Replay-clause-first : goal.returns-in-Replay-clause-first
returns-in-Replay-clause-first g c = first_of _ _ _ _ (ap call_of c.in-Replay.is) c.reply-in-Replay.ensures.first

pub reply-requires-in-Resume-clause-names : goal.reply-requires-in-Resume-clause-names
reply-requires-in-Resume-clause-names g c = inputs_named _ _ (ap call_of c.in-Resume.is) c.requires.names

pub returns-in-Resume-clause-leads : goal.returns-in-Resume-clause-leads
returns-in-Resume-clause-leads g c = λ view seen. asked _ _ _ view _ _ _ (ap call_of c.in-Resume.is) (c.reply-in-Resume.ensures.leads view seen)
    (λ reply a. (a.0, a.1, resumed_over a.0 _ _ _ _ _ _ _ c.minute_of.ensures reply a.2))

pub minute_of-requires : goal.minute_of-requires
minute_of-requires g c = resumed_minute _ _ _ _ _ _ _ (ap call_of c.in-Resume.is) c.requires.names

pub returns-in-Resume-clause-first : goal.returns-in-Resume-clause-first
returns-in-Resume-clause-first g c = first_of _ _ _ _ (ap call_of c.in-Resume.is) c.reply-in-Resume.ensures.first

pub returns-in-MakePlan-clause-leads : goal.returns-in-MakePlan-clause-leads
returns-in-MakePlan-clause-leads g c = λ view seen.
    let S = g.S.Store in
    let old = known (S.told c.args.store.now) (S.stored c.args.store.now) in
    let new = known (S.told c.reply_to_plan.new.store) (S.stored c.reply_to_plan.new.store) in
    planned_leads _ _ _ _ _ _ view old new _ (ap call_of c.in-MakePlan.is) (c.reply_to_plan.ensures.leads view seen)

pub returns-in-MakePinned-clause-leads : goal.returns-in-MakePinned-clause-leads
returns-in-MakePinned-clause-leads g c = λ view seen.
    let S = g.S.Store in
    let old = known (S.told c.args.store.now) (S.stored c.args.store.now) in
    let new = known (S.told c.reply_to_pinned.new.store) (S.stored c.reply_to_pinned.new.store) in
    pinned_leads _ _ _ _ _ _ _ view old new _ (ap call_of c.in-MakePinned.is) (c.reply_to_pinned.ensures.leads view seen)

pub returns-in-Improve-clause-leads : goal.returns-in-Improve-clause-leads
returns-in-Improve-clause-leads g c = λ view seen.
    let S = g.S.Store in
    let old = known (S.told c.args.store.now) (S.stored c.args.store.now) in
    let new = known (S.told c.reply_to_improve.new.store) (S.stored c.reply_to_improve.new.store) in
    improved_leads _ _ _ _ _ _ _ _ view old new _ (ap call_of c.in-Improve.is) (c.reply_to_improve.ensures.leads view seen)

pub returns-in_ok-reply_to_trial-in-Trial-clause-leads : goal.returns-in_ok-reply_to_trial-in-Trial-clause-leads
returns-in_ok-reply_to_trial-in-Trial-clause-leads g c = λ view seen.
    let S = g.S.Store in
    let now = known (S.told c.args.store.now) (S.stored c.args.store.now) in
    let call = call_of c.args.command in
    let answer = c.in_ok-reply_to_trial-in-Trial.field-0 in
    plain call view now now (Ok answer) (refl, refl) (trial_answered view call _ _ _ _ _ _ _ (Ok answer) (ap call_of c.in-Trial.is) c.in_ok-reply_to_trial-in-Trial.ensures)

pub returns-in-MakePlan-clause-first : goal.returns-in-MakePlan-clause-first
returns-in-MakePlan-clause-first g c = first_of _ _ _ _ (ap call_of c.in-MakePlan.is) c.reply_to_plan.ensures.first

pub returns-in-MakePinned-clause-first : goal.returns-in-MakePinned-clause-first
returns-in-MakePinned-clause-first g c = first_of _ _ _ _ (ap call_of c.in-MakePinned.is) c.reply_to_pinned.ensures.first

pub returns-in-Improve-clause-first : goal.returns-in-Improve-clause-first
returns-in-Improve-clause-first g c = first_of _ _ _ _ (ap call_of c.in-Improve.is) c.reply_to_improve.ensures.first

pub returns-in_ok-reply_to_trial-in-Trial-clause-first : goal.returns-in_ok-reply_to_trial-in-Trial-clause-first
returns-in_ok-reply_to_trial-in-Trial-clause-first g c = first_of _ _ _ _ (ap call_of c.in-Trial.is) (none_heard _ _ refl)

pub returns-in_err-reply_to_trial-in-Trial-clause-first : goal.returns-in_err-reply_to_trial-in-Trial-clause-first
returns-in_err-reply_to_trial-in-Trial-clause-first g c = first_of _ _ _ _ (ap call_of c.in-Trial.is) (none_heard _ _ refl)
