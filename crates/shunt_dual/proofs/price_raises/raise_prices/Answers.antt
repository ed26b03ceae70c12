use Rattle.std.proofs.Common.{ℕ, ◌≡◌, ◌*◌, ◌/◌, ◌%◌, length, ap, ◌∙◌, arith}
use Rattle.shunt_instance.specs.declared.records.Station.{Station}
use Rattle.shunt_dual.proofs.Swept.{one_pair, never_lower, higher_too}
use Rattle.shunt_dual.proofs.price_raises.raise_prices.Goals as goal
use Rattle.shunt_choices.proofs.Trails.{masks_fit}

pub all_demands-requires : goal.all_demands-requires
all_demands-requires c = record { covered = masks_fit c.args.instance.now c.args.path.now c.covered.result.now c.covered.ensures c.requires.path }

pub loop-pair-preserved : goal.loop-pair-preserved
loop-pair-preserved c =
    one_pair c.args.instance.now c.args.path.now.blocks c.args.duals.now c.loop-pair.pair (c.loop-pair.pair / c.arrivals-arrivals.result)
    (c.loop-pair.pair % c.arrivals-arrivals.result) c.loop-pair.best c.in_ok-best-2.best
    (ap (λ (n : ℕ). c.loop-pair.pair / n) c.arrivals-arrivals.ensures.exact) (ap (λ (n : ℕ). c.loop-pair.pair % n) c.arrivals-arrivals.ensures.exact) c.loop-pair.invariant
    c.in_ok-best-2.ensures

pub returns-clause-sum : goal.returns-clause-sum
returns-clause-sum c = never_lower c.args.instance.now c.args.path.now.blocks c.args.duals.now c.loop-pair.pair c.loop-pair.best c.loop-pair.invariant

pub returns-clause-higher : goal.returns-clause-higher
returns-clause-higher c =
    let all : c.len.result * c.arrivals-arrivals.result ≡ length c.args.instance.now.station.tracks * length c.args.instance.now.arrive =
    ap (λ (n : ℕ). n * c.arrivals-arrivals.result) (c.len.ensures ∙ ap (λ (s : Station). length s.tracks) c.station.ensures.exact)
    ∙ ap (λ (n : ℕ). length c.args.instance.now.station.tracks * n) c.arrivals-arrivals.ensures.exact in
    higher_too c.args.instance.now c.args.path.now.blocks c.args.duals.now c.loop-pair.pair c.loop-pair.best (omega (arith, all, c.loop-pair-test.false)) c.loop-pair.invariant
