use Rattle.std.proofs.Common.{◌≤◌, ◌∙◌, ap, length, arith}
use Rattle.std.specs.List.{insert}
use Rattle.shunt_timeline.proofs.Places.{put_two}
use Rattle.shunt_timeline.proofs.track.put_pair.Goals as goal

pub returns-clause-events : goal.returns-clause-events
returns-clause-events c =
    let within : c.args.to ≤ length c.args.events.now.items = omega (arith, c.args.events.now.ok.0, c.requires.within) in
    c.put-2.ensures.events ∙ ap (λ l. insert l c.args.from c.args.entry) c.put.ensures.events
    ∙ put_two c.args.from c.args.to c.args.events.now.items c.args.entry c.args.leave c.requires.order within
