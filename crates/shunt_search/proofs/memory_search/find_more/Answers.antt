use Rattle.std.specs.Prelude.{Some}
use Rattle.std.proofs.Common.{length, inr, refl, arith}
use Rattle.std.proofs.lemmas.Int.{ints}
use Rattle.shunt_proof.specs.defs.Certificates.{case_total}
use Rattle.shunt_search.proofs.FirstBounds.{high_enough, not_both}
use Rattle.shunt_search.proofs.HandedOn.{handed_on}
use Rattle.shunt_search.proofs.memory_search.find_more.Goals as goal

pub find_with_stacks-requires-clause-ground : goal.find_with_stacks-requires-clause-ground
find_with_stacks-requires-clause-ground g c =
    let w = c.args.first in
    c.searches_renewed.ensures.root c.args.instance.now c.args.pins.now c.args.guide.now.tree.stock.items (Some w.nodes) (length w.nodes) (case_total w.nodes) w.search
    c.in_ok-root.root c.requires.search c.in_ok-root.ensures.cases c.in_ok-root.ensures.floor

pub returns-then-walk-least-clause-found : goal.returns-then-walk-least-clause-found
returns-then-walk-least-clause-found g c = record {
  kept = c.in_ok-walk.ensures.kept;
  before = c.args.first;
  first = c.requires.first;
  bound = refl;
  floor =
      let high = high_enough c.args.instance.now c.args.pins.now c.args.nodes c.in_ok-walk.walk c.in_ok-walk.ensures.kept in
      let least = c.in_ok-walk.ensures.floor in
      let same = c.in_ok-root.ensures.floor in
      omega (arith, ints, high, least, same);
  few = λ le. (let many = c.requires.many in absurd (omega (arith, many, le)));
  with_stacks = λ e. omega (arith, c.if-walk-least.true);
  by_prices = λ many e. absurd (not_both _ e c.in_ok-walk.ensures.version);
}

pub find_by_prices-requires-clause-ground : goal.find_by_prices-requires-clause-ground
find_by_prices-requires-clause-ground g c =
    let w = c.args.first in
    let night = c.args.instance.now in
    let pins = c.args.pins.now in
    let kept = c.in_ok-walk.ensures.kept in
    let x = c.in_ok-walk.walk in
    c.searches_renewed.ensures.plan x.version night pins kept.stock (Some x.nodes) (length x.nodes) (case_total x.nodes) x.search c.in_ok-other.other w.search.known kept.search
    (c.searches_renewed.ensures.root night pins c.args.guide.now.tree.stock.items (Some w.nodes) (length w.nodes) (case_total w.nodes) w.search c.in_ok-other.other c.requires.search
    c.in_ok-other.ensures.cases c.in_ok-other.ensures.floor)

pub returns-clause-found : goal.returns-clause-found
returns-clause-found g c = record {
  kept = c.in_ok-last.ensures.kept;
  before = c.args.first;
  first = c.requires.first;
  bound = refl;
  floor =
      let high = high_enough c.args.instance.now c.args.pins.now c.args.nodes c.in_ok-last.last c.in_ok-last.ensures.kept in
      let least = c.in_ok-last.ensures.floor in
      let same = c.in_ok-other.ensures.floor in
      omega (arith, ints, high, least, same);
  few = λ le. (let many = c.requires.many in absurd (omega (arith, many, le)));
  with_stacks = λ e. absurd (not_both _ c.in_ok-last.ensures.version e);
  by_prices = λ many e. inr (record {
    walk = c.in_ok-walk.walk;
    kept = c.in_ok-walk.ensures.kept;
    with_stacks = c.in_ok-walk.ensures.version;
    less = omega (arith, c.if-walk-least.false);
  });
}

pub returns-clause-cheaper : goal.returns-clause-cheaper
returns-clause-cheaper g c =
    let one = c.in_ok-walk.ensures.cheaper in
    let two = c.in_ok-last.ensures.cheaper in
    omega (arith, one, two)

pub returns-in_err-walk-clause-no_matching : goal.returns-in_err-walk-clause-no_matching
returns-in_err-walk-clause-no_matching g c = λ s e. c.find_with_stacks.ensures.no_matching s
    (handed_on c.find_with_stacks.result c.from_residual-in_err-walk.result c.in_err-walk.field-0.0 _ c.in_err-walk.was c.from_residual-in_err-walk.ensures.1 e)

pub returns-in_err-last-clause-no_matching : goal.returns-in_err-last-clause-no_matching
returns-in_err-last-clause-no_matching g c = λ s e. c.find_by_prices.ensures.no_matching s
    (handed_on c.find_by_prices.result c.from_residual-in_err-last.result c.in_err-last.field-0.0 _ c.in_err-last.was c.from_residual-in_err-last.ensures.1 e)
