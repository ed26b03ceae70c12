use Rattle.std.proofs.Common.{rules}
use Rattle.shunt_moves.proofs.Places.{remove_at, place_within}
use Rattle.shunt_moves.proofs.present.remove.Goals as goal

pub remove-requires : goal.remove-requires
remove-requires c =
    let within = place_within c.args.block.now c.deref.result.now c.place_of-place.result c.place_of-place.ensures.bound c.place_of-place.ensures.before (search rules) in search
    (rules, within)

pub returns-clause-items : goal.returns-clause-items
returns-clause-items c =
    let is = remove_at c.args.block.now c.deref.result.now c.place_of-place.result (search rules)
    (search rules) c.place_of-place.ensures.before c.place_of-place.ensures.after in search (rules, is)
