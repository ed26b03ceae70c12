use Rattle.std.specs.Prelude.{IfSome}
use Rattle.std.proofs.Common.{ℕ, ◌≤◌}
use Rattle.shunt_blocks.specs.defs.Lists.{total_cost}
use Rattle.shunt_inputs.specs.defs.Writes.{known}
use Rattle.shunt_planning.proofs.Sought.{found_leads, found_open, found_not_closed}
use Rattle.shunt_planning.proofs.plan_search.search_answer.Goals as goal

pub close_file-requires : goal.close_file-requires
close_file-requires g c = found_not_closed c.args.instance.now c.args.pins.now c.args.nodes c.args.certificate.now _ _ c.in-Ok.ensures.found

pub drop_file-requires : goal.drop_file-requires
drop_file-requires g c = found_open c.args.instance.now c.args.pins.now c.args.nodes c.args.certificate.now _ _ c.in-Ok.ensures.found

pub returns-in-Ok-close_file-clause-leads : goal.returns-in-Ok-close_file-clause-leads
returns-in-Ok-close_file-clause-leads g c =
    let S = g.S.Store in
    let fits : ℕ → Type 0 = λ cost. IfSome c.args.given (λ p. cost ≤ total_cost c.args.instance.now p.now) in
    found_leads c.args.pins.now c.args.nodes c.args.plan.now c.args.certificate.now c.args.instance.now
    (S.stage c.search.new.store) c.in-Ok.solved c.in-Ok.ensures.found fits c.in-Ok.ensures.never_worse c.in-Ok.ensures.in_range c.in-Ok.ensures.cost _
    c.in-Ok-found_answer.ensures
    (known (S.told c.args.store.now) (S.stored c.args.store.now)) (known (S.told c.search.new.store) (S.stored c.search.new.store))
    (known (S.told c.close_file.new.self) (S.stored c.close_file.new.self)) (c.search.ensures.files, c.search.ensures.stored)
    c.in-Ok-close_file.ensures.ok c.in-Ok-close_file.ensures.stored
