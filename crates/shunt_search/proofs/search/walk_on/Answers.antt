use Rattle.std.proofs.Common.{refl, sym, ◌∙◌, arith}
use Rattle.std.proofs.lemmas.Grind.{common_steps}
use Rattle.shunt_search.proofs.ToldNodes.{tells_same, tells_then}
use Rattle.shunt_search.proofs.search.walk_on.Goals as goal

pub walk-init : goal.walk-init
walk-init g c = record {
  search = c.requires.search;
  plain = refl;
  floor = refl;
  cheaper = omega arith;
  tells = tells_same (g.R.Recorder.told c.args.recorder.now);
  number = sym c.requires.first;
  few = c.requires.some;
  opened = c.requires.stage;
  own = λ night. (λ h. h, λ h. h);
  later = omega arith;
  keeps = g.R.Recorder.keeps_same _;
}

pub walk-preserved : goal.walk-preserved
walk-preserved g c =
    let before = c.walk.invariant in
    let more = c.in_ok-more.ensures in
    let one = more.more (grind (arith, common_steps)) in
    let number = before.number in
    let cheap = before.cheaper in
    let less = more.cheaper in
    let later = before.later in
    let after = c.advance.ensures.cause.later in
    record {
      search = more.search;
      plain = more.plain ∙ before.plain;
      floor = more.floor ∙ before.floor;
      cheaper = omega (arith, cheap, less);
      tells = tells_then _ _ _ before.tells more.tells;
      number = omega (arith, number, one);
      few = omega (arith, c.walk-test.true);
      opened = more.«open»;
      own = λ night. (let a = before.own night in let b = c.advance.ensures.own night in (λ h. a.0 (b.0 h), λ h. b.1 (a.1 h)));
      later = omega (arith, later, after);
      keeps = g.R.Recorder.keeps_on _ _ _ before.keeps c.advance.ensures.keeps;
    }

pub returns-in_err-more-clause-own : goal.returns-in_err-more-clause-own
returns-in_err-more-clause-own g c = λ night. (let a = c.walk.invariant.own night in let b = c.advance.ensures.own night in (λ h. a.0 (b.0 h), λ h. b.1 (a.1 h)))

pub returns-in_err-more-clause-cause : goal.returns-in_err-more-clause-cause
returns-in_err-more-clause-cause g c = record {
  later = let before = c.walk.invariant.later in let after = c.advance.ensures.cause.later in omega (arith, before, after);
  failed = λ e. (let rose = c.advance.ensures.cause.failed in let before = c.walk.invariant.later in grind (arith, common_steps));
}

pub returns-in_err-more-clause-keeps : goal.returns-in_err-more-clause-keeps
returns-in_err-more-clause-keeps g c = g.R.Recorder.keeps_on _ _ _ c.walk.invariant.keeps c.advance.ensures.keeps

pub returns-then-not-more-clause-keeps : goal.returns-then-not-more-clause-keeps
returns-then-not-more-clause-keeps g c = g.R.Recorder.keeps_on _ _ _ c.walk.invariant.keeps c.advance.ensures.keeps

pub returns-then-not-more-clause-own : goal.returns-then-not-more-clause-own
returns-then-not-more-clause-own g c = λ night. (let a = c.walk.invariant.own night in let b = c.advance.ensures.own night in (λ h. a.0 (b.0 h), λ h. b.1 (a.1 h)))
