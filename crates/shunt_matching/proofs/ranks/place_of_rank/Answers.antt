use Rattle.std.proofs.Common.{◌≡◌, length, sym, ap, ◌∙◌, arith}
use Rattle.shunt_lists.proofs.Numbers.{found_at, found_none}
use Rattle.shunt_lists.specs.defs.Below.{count_below}
use Rattle.shunt_matching.specs.defs.Counts.{is_of_kind}
use Rattle.shunt_matching.proofs.ranks.place_of_rank.Goals as goal

pub returns-then-earlier-rank : goal.returns-then-earlier-rank
returns-then-earlier-rank g c =
    found_at (length (g.V.Entries.entries c.args.vs.now)) (is_of_kind (g.V.Entries.entries c.args.vs.now) c.args.vm.now c.args.kind) c.loop-v.v c.args.rank 65535
    (omega arith) (sym c.has_kind.ensures ∙ c.if-has_kind.true) (sym c.if-earlier-rank.true ∙ c.loop-v.invariant.counted)

pub returns : goal.returns
returns g c =
    let passes = is_of_kind (g.V.Entries.entries c.args.vs.now) c.args.vm.now c.args.kind in
    let at_end : c.loop-v.v ≡ length (g.V.Entries.entries c.args.vs.now) = omega arith in
    found_none (length (g.V.Entries.entries c.args.vs.now)) passes c.args.rank 65535
    (omega (arith, ap (λ n. count_below n passes) at_end, c.loop-v.invariant.counted, c.loop-v.invariant.below))
