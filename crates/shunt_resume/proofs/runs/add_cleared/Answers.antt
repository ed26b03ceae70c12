use Rattle.std.proofs.Common.{rules, ◌+◌, ◌<◌, ◌∙◌, arith}
use Rattle.shunt_resume.proofs.Adding.{cleared_next}
use Rattle.shunt_resume.proofs.runs.add_cleared.Goals as goal

pub places-preserved : goal.places-preserved
places-preserved c =
    let b = c.args.block.now in
    let lt : c.places.place < b.p + b.n = search rules in
    let from = c.places.invariant.from in
    record {
      from = omega (arith, from);
      to = omega (arith, lt);
      runs = cleared_next c.args.instance.now b c.places.place (b.p + b.n) c.places.placed.items c.add_unit.new.placed.items lt c.in_ok-add_unit.ensures ∙ c.places.invariant.runs;
    }
