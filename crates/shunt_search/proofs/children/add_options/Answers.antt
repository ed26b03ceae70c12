use Rattle.std.specs.Prelude.{Option}
use Rattle.std.proofs.Common.{◌≡◌, ◌++◌, List, map, ap}
use Rattle.shunt_blocks.specs.declared.records.Block.{Block}
use Rattle.shunt_blocks.specs.declared.records.Park.{Park}
use Rattle.shunt_search.specs.defs.Yards.{choice_of}
use Rattle.shunt_search.proofs.Offered.{with_shape, next_option, last_option, one_more}
use Rattle.shunt_search.proofs.children.add_options.Goals as goal

pub options-init : goal.options-init
options-init c = record {
  can_next = tt;
  is_finite = tt;
  so_far = ap (λ (l : List (Option Park)). map choice_of c.args.blocks.now.items ++ map (with_shape c.args.shape) l) c.options-options.ensures;
  ids = c.requires.ids;
}

pub options-preserved : goal.options-preserved
options-preserved c =
    let h = c.options.invariant in
    let b = c.block_of.result in
    record {
      can_next = tt;
      is_finite = tt;
      so_far = next_option c.args.shape c.in-Some.option _ _ c.options.blocks.items c.push.new.self.items b _ c.in-Some.ensures.steps c.in_ok-push.ensures.items
          (ap choice_of c.block_of.ensures) h.so_far;
      ids = one_more (λ x. x.id ≡ c.args.id) c.options.blocks.items c.push.new.self.items b c.in_ok-push.ensures.items h.ids (ap (λ (x : Block). x.id) c.block_of.ensures);
    }

pub returns-clause-choices : goal.returns-clause-choices
returns-clause-choices c = last_option c.args.shape _ c.options.blocks.items _ c.in_default.ensures.steps.0 c.options.invariant.so_far
