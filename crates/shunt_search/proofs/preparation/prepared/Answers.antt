use Rattle.std.proofs.Common.{arith}
use Rattle.shunt_search.proofs.preparation.prepared.Goals as goal

pub ready-requires-clause-even : goal.ready-requires-clause-even
ready-requires-clause-even g c = c.requires.even

pub ready-requires-clause-opening : goal.ready-requires-clause-opening
ready-requires-clause-opening g c =
    let opening = c.requires.opening in
    let less = c.in_ok-first.ensures.cheaper in
    let least = c.in_ok-best.ensures.cheaper in
    omega (arith, least, less, opening)

pub ready-requires-clause-small : goal.ready-requires-clause-small
ready-requires-clause-small g c =
    let small = c.requires.small in
    let less = c.in_ok-first.ensures.cheaper in
    let least = c.in_ok-best.ensures.cheaper in
    omega (arith, least, less, small)

pub returns-clause-cheaper : goal.returns-clause-cheaper
returns-clause-cheaper g c =
    let less = c.in_ok-first.ensures.cheaper in
    let least = c.in_ok-best.ensures.cheaper in
    let last = c.in_ok-search.ensures.cheaper in
    omega (arith, last, least, less)
