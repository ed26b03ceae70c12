use Rattle.std.specs.List.{AllByRecursion}
use Rattle.std.proofs.Common.{◌≡◌, List, sym, subst, ap, ◌∙◌, arith}
use Rattle.std.specs.Prelude.{Option}
use Rattle.shunt_lists.proofs.Members.{all_in, all_from}
use Rattle.shunt_blocks.specs.declared.records.Park.{Park}
use Rattle.shunt_blocks.specs.defs.Shapes.{shape_of}
use Rattle.shunt_blocks.specs.defs.Blocks.{IsOption}
use Rattle.shunt_blocks.specs.defs.Costs.{block_cost}
use Rattle.shunt_choices.specs.defs.Choices.{options_of}
use Rattle.shunt_search.specs.defs.Polish.{NoLess}
use Rattle.shunt_search.proofs.polisher.cheapest_through.Goals as goal

pub options-init : goal.options-init
options-init c =
    let night = c.args.instance.now in
    let b = c.args.block.now in
    let given : c.options-options.result ≡ options_of night (shape_of b) = c.options-options.ensures ∙ ap (options_of night) c.shape_of.ensures in
    record {
      can_next = tt;
      is_finite = tt;
      are = subst (λ (l : List (Option Park)). AllByRecursion (IsOption night (shape_of b)) l) (sym given)
          (all_from (IsOption night (shape_of b)) (options_of night (shape_of b)) (λ o i. (c.shape_options.ensures.members night (shape_of b) o).0 i));
      option = tt;
      cost = c.block_cost-least.ensures.exact ∙ ap (block_cost night) c.with_park.ensures;
      through = c.requires.through;
      all = λ n le h. subst (λ (l : List (Option Park)). AllByRecursion (NoLess night b c.args.others.now n) l) given h;
    }

pub options-preserved-in-Some-cheaper : goal.options-preserved-in-Some-cheaper
options-preserved-in-Some-cheaper c =
    let night = c.args.instance.now in
    let b = c.args.block.now in
    let h = c.options.invariant in
    let w = c.in-Some-cheaper.ensures in
    let are = subst (λ (l : List (Option Park)). AllByRecursion (IsOption night (shape_of b)) l) c.in-Some.ensures.steps h.are in
    record {
      can_next = tt;
      is_finite = tt;
      are = are.1;
      option = are.0;
      cost = w.cost;
      through = w.through;
      all = λ n le rest. h.all n (let less = w.less in omega (arith, le, less))
          (subst (λ (l : List (Option Park)). AllByRecursion (NoLess night b c.args.others.now n) l) (sym c.in-Some.ensures.steps)
          (λ _. (let is = w.cost in omega (arith, le, is)), rest));
    }

pub options-preserved : goal.options-preserved
options-preserved c =
    let night = c.args.instance.now in
    let b = c.args.block.now in
    let h = c.options.invariant in
    let are = subst (λ (l : List (Option Park)). AllByRecursion (IsOption night (shape_of b)) l) c.in-Some.ensures.steps h.are in
    record {
      can_next = tt;
      is_finite = tt;
      are = are.1;
      option = h.option;
      cost = h.cost;
      through = h.through;
      all = λ n le rest. h.all n le
          (subst (λ (l : List (Option Park)). AllByRecursion (NoLess night b c.args.others.now n) l) (sym c.in-Some.ensures.steps)
          (λ runs. (let least = c.in_default-cheaper.ensures.none runs in omega (arith, le, least)), rest));
    }

pub returns-clause-least : goal.returns-clause-least
returns-clause-least c =
    let night = c.args.instance.now in
    let b = c.args.block.now in
    let h = c.options.invariant in
    let all = h.all c.options.least (omega arith) (subst (λ (l : List (Option Park)). AllByRecursion (NoLess night b c.args.others.now c.options.least) l)
    (sym c.in_default.ensures.steps.0) tt) in
    λ option is runs. (
    let i = (c.shape_options.ensures.members night (shape_of b) option).1 is in
    let le = all_in (NoLess night b c.args.others.now c.options.least) (options_of night (shape_of b)) option all i runs in
    let cost = h.cost in omega (arith, le, cost))
