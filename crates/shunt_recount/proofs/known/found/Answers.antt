use Rattle.std.specs.Prelude.{None}
use Rattle.std.proofs.Common.{sym, subst}
use Rattle.std.proofs.lemmas.List.{get_or_default}
use Rattle.shunt_recount.specs.defs.Moments.{IsValue, AreGains}
use Rattle.shunt_recount.proofs.Rowed.{of_row, looked}
use Rattle.shunt_recount.proofs.known.found.Goals as goal

pub returns : goal.returns
returns c = λ m j known rank sum.
    let end = c.args.key.end in
    let room = c.args.key.room in
    let gains = c.deref.result.now in
    let row = subst (AreGains m end room) (sym c.deref.ensures.value)
    (of_row m c.args.known.now c.args.key c.in_ok-k.k c.index.result.now c.index.result.now c.in_ok-k.ensures known c.index.ensures) in
    looked (IsValue m j end room) gains c.args.back c.get.result c.copied.result c.copied.ensures c.get.ensures.lookup.0 c.get.ensures.lookup.1
    (λ d lt. subst (IsValue m j end room) (get_or_default gains c.args.back None d lt) (row c.args.key.top j c.args.back rank sum lt))
