use Rattle.std.proofs.Common.{sym, subst, ap, arith}
use Rattle.std.proofs.lemmas.Int.{ints}
use Rattle.shunt_search.specs.declared.judge.Judge.{Judge}
use Rattle.shunt_search.specs.defs.Judges.{version_of, IsJudge}
use Rattle.shunt_search.specs.defs.SearchStates.{IsFresh}
use Rattle.shunt_search.proofs.renewal.prepare_with_stacks.Goals as goal

pub better_root-requires-clause-known : goal.better_root-requires-clause-known
better_root-requires-clause-known g c = c.requires.root c.in_ok-yard.yard.path.blocks c.in_ok-yard.ensures.start

pub cheaper_plan-requires-clause-cases : goal.cheaper_plan-requires-clause-cases
cheaper_plan-requires-clause-cases g c = c.in_ok-better.ensures.root.rooted.statable.within

pub ready-requires-clause-opening : goal.ready-requires-clause-opening
ready-requires-clause-opening g c =
    let opening = c.requires.opening in
    let least = c.in_ok-best.ensures.cheaper in
    omega (arith, least, opening)

pub ready-requires-clause-small : goal.ready-requires-clause-small
ready-requires-clause-small g c =
    let small = c.requires.small in
    let least = c.in_ok-best.ensures.cheaper in
    omega (arith, least, small)

pub returns-clause-fresh : goal.returns-clause-fresh
returns-clause-fresh g c = subst (λ (j : Judge). IsFresh (version_of j) c.args.instance.now c.args.pins.now c.in_ok-found.found.1.tree.stock.items c.in_ok-found.found.0)
    (sym c.in_ok-found.ensures.judge) c.in_ok-found.ensures.fresh

pub returns-clause-version : goal.returns-clause-version
returns-clause-version g c = ap (λ (j : Judge). version_of j) c.in_ok-found.ensures.judge

pub returns-clause-judge : goal.returns-clause-judge
returns-clause-judge g c = subst (λ (j : Judge). IsJudge c.args.instance.now j) (sym c.in_ok-found.ensures.judge) c.in_ok-ends.ensures

pub returns-clause-floor : goal.returns-clause-floor
returns-clause-floor g c =
    let least = c.in_ok-better.ensures.floor in
    let same = c.in_ok-found.ensures.floor in
    omega (arith, ints, least, same)

pub returns-clause-cheaper : goal.returns-clause-cheaper
returns-clause-cheaper g c =
    let least = c.in_ok-best.ensures.cheaper in
    let last = c.in_ok-found.ensures.cheaper in
    omega (arith, last, least)
