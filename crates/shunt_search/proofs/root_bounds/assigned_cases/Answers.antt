use Rattle.std.proofs.Common.{List, [], ℤ, pos, sym, subst, arith}
use Rattle.shunt_base.specs.declared.duals.Case.{Case}
use Rattle.shunt_prices.specs.defs.Limits.{plain}
use Rattle.shunt_prices.specs.defs.Bounds.{IsBoundOf, duals_sum}
use Rattle.shunt_dual.specs.defs.Assignments.{share_total}
use Rattle.shunt_proof.specs.declared.records.Version.TheVariants.{Prices}
use Rattle.shunt_search.specs.defs.Roots.{AreRooted}
use Rattle.shunt_search.proofs.Rooted.{from_start, none_apart}
use Rattle.shunt_search.proofs.root_bounds.assigned_cases.Goals as goal

pub returns : goal.returns
returns c =
    let night = c.args.instance.now in
    let blocks = c.args.path.now.blocks in
    let duals = c.in_ok-assigned.assigned.duals in
    let there = c.carried_cases.ensures.sum night blocks (plain duals) 0 c.units.ensures.formed c.requires.each c.requires.path.apart c.requires.through
    c.in_ok-assigned.ensures.hold (omega arith) in
    let total = share_total c.in_ok-table.table c.in_ok-assigned.assigned.matching.place_of in
    let is = c.in_ok-assigned.ensures.total in
    subst (λ (l : List Case). AreRooted Prices night blocks l) (sym c.one.ensures)
    (c.rooted_duals.ensures night blocks duals total c.in_ok-assigned.ensures.duals (none_apart duals.prices c.in_ok-assigned.ensures.no_prices) there.0
    (from_start total c.in_ok-assigned.assigned.total (duals_sum night [] duals) (duals_sum night blocks duals) is c.in_ok-assigned.ensures.at_start there.1)
    (λ b rounds. c.in_ok-assigned.ensures.bound b (subst (λ (z : ℤ). IsBoundOf z (pos b)) (sym is) rounds)))
