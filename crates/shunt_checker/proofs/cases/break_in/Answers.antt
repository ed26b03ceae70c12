use Rattle.std.proofs.Common.{sym, subst}
use Rattle.shunt_checker.specs.defs.Asked.{HoldsBy}
use Rattle.shunt_checker.specs.defs.Firsts.{Finds}
use Rattle.shunt_checker.specs.defs.Breaks.{IsBreakIn, BreakBefore}
use Rattle.shunt_checker.proofs.Breaks.{broken_in}
use Rattle.shunt_checker.proofs.Kept.{kept, unbroken_in}
use Rattle.shunt_checker.proofs.cases.break_in.Goals as goal

pub returns : goal.returns
returns c =
    let night = c.args.instance.now in
    subst (Finds (IsBreakIn c.args.version night c.args.covered.now c.args.cases.now c.args.k) (BreakBefore night)) (sym c.numbered.ensures)
    (broken_in c.args.version night c.args.covered.now c.args.cases.now c.args.k c.get-case.result.now c.get-case.ensures c.requires.there c.in_ok-found.found
    c.in_ok-found.ensures)

pub returns-then-is_known : goal.returns-then-is_known
returns-then-is_known c =
    let night = c.args.instance.now in
    unbroken_in c.args.version night c.args.covered.now c.args.cases.now c.args.k c.get-case.result.now c.get-case.ensures c.requires.there
    (kept (λ held. held.now) c.args.known c.is_known.result c.get-case.result.now
    (HoldsBy c.args.version night c.args.covered.now) c.is_known.ensures.some c.is_known.ensures.none c.requires.known c.if-is_known.true)
