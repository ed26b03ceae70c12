use Rattle.std.proofs.Common.{◌+◌, ◌*◌, ◌<◌, length, arith}
use Rattle.shunt_proof.specs.declared.records.Version.TheVariants.{Prices}
use Rattle.shunt_checker.specs.defs.Searches.{IsOneOfShape}
use Rattle.shunt_checker.specs.defs.Misses.{IsMissed}
use Rattle.shunt_checker.specs.defs.NodeFaults.{EarlierChoice}
use Rattle.shunt_checker.proofs.Firsts.{all_passed}
use Rattle.shunt_checker.proofs.Options.{number_of, number_within, on_track_by, option_passed, option_found}
use Rattle.shunt_checker.proofs.Looked.{against}
use Rattle.shunt_checker.proofs.missed_choices.missed_option.Goals as goal

pub is_missed-requires-clause-track : goal.is_missed-requires-clause-track
is_missed-requires-clause-track c =
    on_track_by c.args.instance.now.station c.option_at-park.result c.loop-number.number c.option_at-park.ensures
    (let lt = c.loop-number-test.true in let most = c.most_options-number-end.ensures.exact in omega (arith, lt, most))

pub loop-number-preserved : goal.loop-number-preserved
loop-number-preserved c =
    let b = c.args.branch.now in
    option_passed c.args.instance.now (IsMissed Prices c.args.instance.now b.path.now.blocks b.cases.now b.nodes.now b.node b.stated) c.args.shape c.loop-number.number
    c.option_at-park.result c.option_at-park.ensures
    c.loop-number.invariant (against c.in_ok-missed.missed _ c.in_ok-missed.ensures c.if-missed.false)

pub returns-then-missed : goal.returns-then-missed
returns-then-missed c =
    let b = c.args.branch.now in
    option_found c.args.instance.now (IsMissed Prices c.args.instance.now b.path.now.blocks b.cases.now b.nodes.now b.node b.stated) c.args.shape c.loop-number.number
    c.option_at-park.result c.option_at-park.ensures
    c.loop-number.invariant (c.in_ok-missed.ensures.0 c.if-missed.true)

pub returns : goal.returns
returns c =
    let b = c.args.branch.now in
    all_passed (IsOneOfShape (IsMissed Prices c.args.instance.now b.path.now.blocks b.cases.now b.nodes.now b.node b.stated) c.args.shape)
    (EarlierChoice c.args.instance.now) number_of c.loop-number.number
    (λ x h.
    let at : number_of x < 4 * length c.args.instance.now.station.tracks + 1 = number_within c.args.instance.now x.shape x.option h.holds.option in
    let past = c.loop-number-test.false in
    let most = c.most_options-number-end.ensures.exact in
    omega (arith, at, past, most))
    c.loop-number.invariant
