use Rattle.std.proofs.Common.{rules}
use Rattle.shunt_moves.proofs.Places.{insert_at}
use Rattle.shunt_moves.proofs.present.insert.Goals as goal

pub returns-clause-items : goal.returns-clause-items
returns-clause-items c =
    let is = insert_at c.args.block.now c.deref.result.now c.place_of-place.result c.place_of-place.ensures.bound c.place_of-place.ensures.before c.place_of-place.ensures.after in
    search (rules, is)
