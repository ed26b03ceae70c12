use Rattle.std.specs.List.{AllByRecursion}
use Rattle.std.proofs.Common.{get_or, subst, sym, arith}
use Rattle.std.proofs.lemmas.List.{length-replicate}
use Rattle.shunt_blocks.specs.defs.Blocks.{IsOption}
use Rattle.shunt_dual.proofs.Lightest.{CostsAtLeast, are_options, first_small, first_one, next_small, next_one, head_least, costs_are}
use Rattle.shunt_dual.proofs.shape_demands.costs_of.Goals as goal

pub options-init : goal.options-init
options-init c =
    let night = c.args.instance.now in
    let s = c.args.shape in
    record {
      can_next = tt;
      is_finite = tt;
      are = subst (AllByRecursion (IsOption c.args.instance.now c.args.shape)) (sym c.options-options.ensures)
          (are_options night s (λ o. c.shape_options.ensures.members night s o));
      long = length-replicate 60 c.args.unparked;
      small = first_small night s c.args.unparked c.requires.unparked;
      one = first_one night s c.args.unparked c.requires.unparked;
      all = λ least le h. subst (AllByRecursion (CostsAtLeast c.args.instance.now c.args.shape least)) c.options-options.ensures h;
    }

pub options-preserved : goal.options-preserved
options-preserved c =
    let night = c.args.instance.now in
    let s = c.args.shape in
    let h = c.options.invariant in
    let w = c.take_in.ensures in
    let are = subst (AllByRecursion (IsOption c.args.instance.now c.args.shape)) c.in-Some.ensures.steps h.are in
    record {
      can_next = tt;
      is_finite = tt;
      are = are.1;
      long = w.long h.long;
      small = next_small night s c.in-Some.option c.options.costs c.take_in.new.costs w h.small;
      one = next_one night s c.in-Some.option c.options.costs c.take_in.new.costs w are.0 h.one;
      all = λ least le rest. h.all least (λ t. (let a = le t in omega (arith, a, w.less t)))
          (subst (AllByRecursion (CostsAtLeast c.args.instance.now c.args.shape least)) (sym c.in-Some.ensures.steps)
          (head_least night s c.in-Some.option c.options.costs c.take_in.new.costs w h.long least le, rest));
    }

pub returns : goal.returns
returns c =
    let night = c.args.instance.now in
    let s = c.args.shape in
    let h = c.options.invariant in
    costs_are night s c.options.costs h.long h.small h.one
    (h.all (λ t. get_or c.options.costs t 0) (λ t. omega arith) (subst (AllByRecursion (CostsAtLeast c.args.instance.now c.args.shape (λ t. get_or c.options.costs t 0)))
    (sym c.in_default.ensures.steps.0) tt))
    (λ o. c.shape_options.ensures.members night s o)
