use Rattle.std.specs.Prelude.{pos}
use Rattle.std.proofs.Common.{ap, ◌∙◌}
use Rattle.shunt_recount.specs.declared.visits.Visit.{Visit}
use Rattle.shunt_recount.specs.defs.Visits.{spans_of}
use Rattle.shunt_recount.proofs.Ordered.{ordered, come_there}
use Rattle.shunt_recount.proofs.visits.coming.Goals as goal

pub between-requires-clause-ends : goal.between-requires-clause-ends
between-requires-clause-ends c =
    let d : Visit = record { comes = 0; inside = 0; until = 0; gone = 0; length = 0; gain = pos 0 } in
    let a = c.come_before-from.ensures in
    let b = c.come_before-to.ensures in
    ordered c.args.visits.now c.come_before-from.result c.come_before-to.result c.args.x a.bound a.before a.after b.before b.after d

pub returns : goal.returns
returns c =
    let d : Visit = record { comes = 0; inside = 0; until = 0; gone = 0; length = 0; gain = pos 0 } in
    let a = c.come_before-from.ensures in
    let b = c.come_before-to.ensures in
    ap spans_of c.between.ensures ∙ come_there c.args.visits.now c.come_before-from.result c.come_before-to.result c.args.x a.bound a.before a.after b.before b.after
    (ordered c.args.visits.now c.come_before-from.result c.come_before-to.result c.args.x a.bound a.before a.after b.before b.after d)
