use Rattle.std.proofs.Common.{⊎_elim, arith}
use Rattle.std.proofs.lemmas.Bool.{cases_lt}
use Rattle.shunt_search.proofs.laws.all_plans.Goals as goal

pub returns : goal.returns
returns c = λ night pins own stated most cert formed nodes usable accepted spent fewer.
    let few = c.few_nodes.ensures.accepted night pins own stated cert formed nodes usable accepted in
    let within = c.proved_bounds.ensures.accepted night pins own stated cert own formed nodes usable.apart accepted accepted.feasible accepted.keeps in
    let cost = accepted.cost in
    ⊎_elim (λ less. let all = spent less in absurd (omega (arith, all, few, fewer))) (λ past. omega (arith, past, within, cost)) (cases_lt cert.bound cert.cost)
