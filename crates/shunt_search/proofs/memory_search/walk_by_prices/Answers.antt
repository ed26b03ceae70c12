use Rattle.std.specs.Prelude.{Some}
use Rattle.std.proofs.Common.{⊎_elim, sym, subst, ap, ◌∙◌, length}
use Rattle.shunt_blocks.specs.defs.Lists.{total_cost}
use Rattle.shunt_proof.specs.defs.Certificates.{case_total}
use Rattle.shunt_search.specs.declared.judge.Judge.{Judge}
use Rattle.shunt_search.specs.defs.Judges.{version_of, IsJudge}
use Rattle.shunt_search.specs.defs.SearchStates.{IsSearch, IsFresh}
use Rattle.shunt_search.proofs.Cheaper.{no_dearer}
use Rattle.shunt_search.proofs.memory_search.walk_by_prices.Goals as goal

pub keep_walk-requires-clause-judge : goal.keep_walk-requires-clause-judge
keep_walk-requires-clause-judge g c = subst (λ (j : Judge). IsJudge c.args.instance.now j) (sym c.in_ok-search.ensures.judge) tt

pub keep_walk-requires-clause-fresh : goal.keep_walk-requires-clause-fresh
keep_walk-requires-clause-fresh g c = subst (λ (j : Judge). IsFresh (version_of j) c.args.instance.now c.args.pins.now c.in_ok-search.guide.tree.stock.items
    c.in_ok-search.search) (sym c.in_ok-search.ensures.judge) c.in_ok-search.ensures.fresh

pub returns-clause-version : goal.returns-clause-version
returns-clause-version g c = c.in_ok-walk.ensures.version ∙ ap (λ (j : Judge). version_of j) c.in_ok-search.ensures.judge

pub returns-clause-search : goal.returns-clause-search
returns-clause-search g c =
    let w = c.in_ok-walk.walk in
    subst (λ (j : Judge). IsSearch (version_of j) c.args.instance.now c.args.pins.now c.in_ok-search.guide.tree.stock.items (Some w.nodes) (length w.nodes) (case_total w.nodes)
    w.search.waiting.items w.search) c.in_ok-search.ensures.judge c.in_ok-walk.ensures.search

pub returns-clause-never_worse : goal.returns-clause-never_worse
returns-clause-never_worse g c = no_dearer c.args.given (λ p. total_cost c.args.instance.now p.now) _ _ c.in_ok-walk.ensures.cheaper c.in_ok-search.ensures.never_worse

pub returns-clause-only : goal.returns-clause-only
returns-clause-only g c = λ s short. ⊎_elim (λ e. absurd cc) (λ e. absurd cc) (c.in_ok-search.ensures.only s short)
