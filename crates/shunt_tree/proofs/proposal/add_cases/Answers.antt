use Rattle.std.proofs.Common.{All, List, sym, subst}
use Rattle.shunt_base.specs.declared.duals.Case.{Case}
use Rattle.shunt_prices.specs.defs.Limits.{AreCases}
use Rattle.shunt_tree.proofs.Stocked.{cases_more}
use Rattle.shunt_tree.proofs.proposal.add_cases.Goals as goal

pub returns-clause-cases : goal.returns-clause-cases
returns-clause-cases c =
    let night = c.args.instance.now in
    let stock = c.args.stock.now.items in
    let more = cases_more night stock c.args.cases c.requires.all_cases c.requires.cases in
    subst (λ (all : List (List Case)). All (AreCases night) all) (sym c.in_ok-push.ensures.items) more
