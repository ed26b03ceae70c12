use Rattle.std.proofs.Common.{arith}
use Rattle.std.proofs.lemmas.List.FromFn.{map-range_with_len_more}
use Rattle.shunt_matching.specs.defs.Counts.{first_fit_at}
use Rattle.shunt_matching.proofs.ranks.fitted.Goals as goal

pub loop-u-preserved : goal.loop-u-preserved
loop-u-preserved g c =
    let more = map-range_with_len_more (first_fit_at (g.U.Entries.entries c.args.us.now) (g.V.Entries.entries c.args.vs.now) c.args.um.now c.args.vm.now) 0 c.loop-u.u c.loop-u.u
    (omega arith) in
    cc (c.in_ok-push.ensures.items, c.place_of_unit.ensures, c.loop-u.invariant)
