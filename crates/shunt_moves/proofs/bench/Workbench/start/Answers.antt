use Rattle.std.proofs.Common.{◌∙◌, ◌+◌, sym, subst, ap, arith}
use Rattle.shunt_blocks.specs.defs.Lists.{AreInRange}
use Rattle.shunt_moves.proofs.Filled.{top_id, start_stands, started_bench}
use Rattle.shunt_moves.proofs.bench.Workbench.start.Goals as goal

pub overflow_add-greatest_id : goal.overflow_add-greatest_id
overflow_add-greatest_id c =
    let top = top_id c.args.instance.now c.as_slice-blocks.result.now (subst (AreInRange c.args.instance.now) (sym c.as_slice-blocks.ensures) c.requires.blocks) in omega
    (arith, c.greatest_id.ensures)

pub invariant_of-result : goal.invariant_of-result
invariant_of-result c =
    started_bench c.set_next.new.self.night c.set_next.new.self.state c.new.result.items c.new-2.result.items _ _ c.new.ensures.items c.new-2.ensures.items
    (start_stands c.set_next.new.self c.fill.new.present (c.greatest_id.result + 1) c.args.instance.now c.as_slice-blocks.result.now c.set_next.ensures
    (c.fill.ensures.night ∙ c.in_ok-present.ensures.night) c.fill.ensures.blocks
    (ap (λ n. n + 1) c.greatest_id.ensures) (subst (AreInRange c.args.instance.now) (sym c.as_slice-blocks.ensures) c.requires.blocks))
