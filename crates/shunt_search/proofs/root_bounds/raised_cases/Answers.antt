use Rattle.std.proofs.Common.{List, [], ℤ, pos, sym, subst, arith}
use Rattle.shunt_base.specs.declared.duals.Case.{Case}
use Rattle.shunt_prices.specs.defs.Limits.{plain}
use Rattle.shunt_prices.specs.defs.Bounds.{IsBoundOf, duals_sum}
use Rattle.shunt_dual.specs.defs.Assignments.{share_total}
use Rattle.shunt_proof.specs.declared.records.Version.TheVariants.{Prices}
use Rattle.shunt_search.specs.defs.Roots.{AreRooted}
use Rattle.shunt_search.proofs.Rooted.{in_all}
use Rattle.shunt_search.proofs.root_bounds.raised_cases.Goals as goal

pub raise_prices-requires-clause-hold : goal.raise_prices-requires-clause-hold
raise_prices-requires-clause-hold c =
    let blocks = c.args.path.now.blocks in
    (c.carried_cases.ensures.sum c.args.instance.now blocks (plain c.in_ok-assigned.assigned.duals) 0 c.units.ensures.formed c.requires.each c.requires.path.apart
    c.requires.through c.in_ok-assigned.ensures.hold (omega arith)).0

pub returns : goal.returns
returns c =
    let night = c.args.instance.now in
    let blocks = c.args.path.now.blocks in
    let old = c.in_ok-assigned.assigned.duals in
    let new = c.in_ok-duals.duals in
    let more = (c.carried_cases.ensures.sum night blocks (plain old) 0 c.units.ensures.formed c.requires.each c.requires.path.apart c.requires.through c.in_ok-assigned.ensures.hold
    (omega arith)).1 in
    let total = share_total c.in_ok-table.table c.in_ok-assigned.assigned.matching.place_of in
    let is = c.in_ok-assigned.ensures.total in
    subst (λ (l : List Case). AreRooted Prices night blocks l) (sym c.one.ensures)
    (c.rooted_duals.ensures night blocks new total c.in_ok-duals.ensures.duals c.in_ok-duals.ensures.apart c.in_ok-duals.ensures.hold
    (in_all total c.in_ok-assigned.assigned.total (duals_sum night [] old) (duals_sum night blocks old)
    (duals_sum night blocks new) is c.in_ok-assigned.ensures.at_start more c.in_ok-duals.ensures.sum)
    (λ b rounds. c.in_ok-assigned.ensures.bound b (subst (λ (z : ℤ). IsBoundOf z (pos b)) (sym is) rounds)))
