use Rattle.std.proofs.Common.{sym, subst, ap}
use Rattle.shunt_search.specs.declared.judge.Judge.{Judge}
use Rattle.shunt_search.specs.defs.Judges.{version_of, IsJudge}
use Rattle.shunt_search.specs.defs.SearchStates.{IsFresh}
use Rattle.shunt_search.proofs.renewal.prepare_by_prices.Goals as goal

pub ready-requires-clause-root : goal.ready-requires-clause-root
ready-requires-clause-root g c = c.requires.root c.in_ok-yard.yard.path.blocks c.in_ok-yard.ensures.start

pub returns-clause-fresh : goal.returns-clause-fresh
returns-clause-fresh g c = subst (λ (j : Judge). IsFresh (version_of j) c.args.instance.now c.args.pins.now c.in_ok-found.found.1.tree.stock.items c.in_ok-found.found.0)
    (sym c.in_ok-found.ensures.judge) c.in_ok-found.ensures.fresh

pub returns-clause-version : goal.returns-clause-version
returns-clause-version g c = ap (λ (j : Judge). version_of j) c.in_ok-found.ensures.judge

pub returns-clause-judge : goal.returns-clause-judge
returns-clause-judge g c = subst (λ (j : Judge). IsJudge c.args.instance.now j) (sym c.in_ok-found.ensures.judge) tt
