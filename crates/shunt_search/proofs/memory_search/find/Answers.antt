use Rattle.std.proofs.Common.{⊎_elim, ℕ, subst, arith}
use Rattle.shunt_blocks.specs.defs.Lists.{total_cost}
use Rattle.shunt_search.specs.defs.Finding.{IsKept}
use Rattle.shunt_search.proofs.Cheaper.{no_dearer}
use Rattle.shunt_search.proofs.FirstBounds.{kept_over, all_of_few, first_of, found_at_once}
use Rattle.shunt_search.proofs.HandedOn.{handed_on}
use Rattle.shunt_search.proofs.memory_search.find.Goals as goal

pub returns-then-nodes-le-FEW-clause-found : goal.returns-then-nodes-le-FEW-clause-found
returns-then-nodes-le-FEW-clause-found g c =
    let same = all_of_few c.first_nodes-few.result c.args.nodes c.first_nodes-few.ensures.within
    (let few = c.if-nodes-le-FEW.true in omega (arith, few)) c.first_nodes-few.ensures.all in
    found_at_once c.args.instance.now c.args.pins.now c.args.nodes c.in_ok-walk.walk
    (first_of c.args.instance.now c.args.pins.now c.args.nodes c.first_nodes-few.result c.in_ok-walk.walk c.first_nodes-few.ensures.few c.first_nodes-few.ensures.within
    c.first_nodes-few.ensures.all c.in_ok-walk.ensures.kept c.in_ok-walk.ensures.version)
    (subst (λ (n : ℕ). IsKept c.args.instance.now c.args.pins.now n c.in_ok-walk.walk) same c.in_ok-walk.ensures.kept)
    (λ many. (let few = c.if-nodes-le-FEW.true in absurd (omega (arith, few, many))))

pub returns-then-first-walk-clause-found : goal.returns-then-first-walk-clause-found
returns-then-first-walk-clause-found g c =
    found_at_once c.args.instance.now c.args.pins.now c.args.nodes c.in_ok-walk.walk
    (first_of c.args.instance.now c.args.pins.now c.args.nodes c.first_nodes-few.result c.in_ok-walk.walk c.first_nodes-few.ensures.few c.first_nodes-few.ensures.within
    c.first_nodes-few.ensures.all c.in_ok-walk.ensures.kept c.in_ok-walk.ensures.version)
    (kept_over c.args.instance.now c.args.pins.now c.first_nodes-few.result c.args.nodes c.in_ok-walk.walk c.in_ok-walk.ensures.kept c.first_nodes-few.ensures.within
    (let over = c.if-first-walk.true in omega (arith, over)))
    (λ many. (let over = c.if-first-walk.true in omega (arith, over)))

pub find_more-requires-clause-search : goal.find_more-requires-clause-search
find_more-requires-clause-search g c = c.in_ok-walk.ensures.search

pub find_more-requires-clause-first : goal.find_more-requires-clause-first
find_more-requires-clause-first g c =
    first_of c.args.instance.now c.args.pins.now c.args.nodes c.first_nodes-few.result c.in_ok-walk.walk c.first_nodes-few.ensures.few c.first_nodes-few.ensures.within
    c.first_nodes-few.ensures.all c.in_ok-walk.ensures.kept c.in_ok-walk.ensures.version

pub returns-then-nodes-le-FEW-clause-only : goal.returns-then-nodes-le-FEW-clause-only
returns-then-nodes-le-FEW-clause-only g c = λ s short. ⊎_elim (λ e. absurd cc) (λ e. absurd cc) (c.in_ok-walk.ensures.only s short)

pub returns-then-first-walk-clause-only : goal.returns-then-first-walk-clause-only
returns-then-first-walk-clause-only g c = λ s short. ⊎_elim (λ e. absurd cc) (λ e. absurd cc) (c.in_ok-walk.ensures.only s short)

pub returns-in_err-found-clause-only : goal.returns-in_err-found-clause-only
returns-in_err-found-clause-only g c = λ s short. ⊎_elim (λ e. absurd cc) (λ e. absurd cc) (c.in_ok-walk.ensures.only s short)

pub returns-in_err-found-clause-exact : goal.returns-in_err-found-clause-exact
returns-in_err-found-clause-exact g c = λ s e. absurd (c.find_more.ensures.no_matching s
    (handed_on c.find_more.result c.from_residual-in_err-found.result c.in_err-found.field-0.0 _ c.in_err-found.was c.from_residual-in_err-found.ensures.1 e))

pub returns-clause-only : goal.returns-clause-only
returns-clause-only g c = λ s short. ⊎_elim (λ e. absurd cc) (λ e. absurd cc) (c.in_ok-walk.ensures.only s short)

pub returns-clause-never_worse : goal.returns-clause-never_worse
returns-clause-never_worse g c = no_dearer c.args.given (λ p. total_cost c.args.instance.now p.now) _ _ c.in_ok-found.ensures.cheaper c.in_ok-walk.ensures.never_worse
