use Rattle.std.specs.Prelude.{IfSome}
use Rattle.std.proofs.Common.{◌≤◌}
use Rattle.std.proofs.lemmas.Result.{IfOk-weaker}
use Rattle.shunt_blocks.specs.defs.Lists.{total_cost}
use Rattle.shunt_planning.proofs.Sought.{no_dearer}
use Rattle.shunt_planning.proofs.plan_search.search.Goals as goal

pub returns-in-Ok-clause-never_worse : goal.returns-in-Ok-clause-never_worse
returns-in-Ok-clause-never_worse g c =
    let night = c.args.instance.now in
    let found = c.in-Ok.found in
    IfOk-weaker c.write_found.result
    (λ s. s.cost ≤ found.walk.search.known.cost)
    (λ s. IfSome c.args.given (λ p. s.cost ≤ total_cost night p.now))
    (λ s less. no_dearer c.args.given (λ p. total_cost night p.now) _ s.cost less c.in-Ok.ensures.never_worse)
    c.write_found.ensures.cheaper
