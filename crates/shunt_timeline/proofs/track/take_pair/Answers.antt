use Rattle.std.proofs.Common.{◌<◌, ◌∙◌, ap, length, arith}
use Rattle.std.specs.List.{remove}
use Rattle.shunt_timeline.proofs.Places.{take_two}
use Rattle.shunt_timeline.proofs.track.take_pair.Goals as goal

pub returns-clause-events : goal.returns-clause-events
returns-clause-events c =
    let within : c.args.to < length c.args.events.now.items = omega (arith, c.args.events.now.ok.0, c.requires.within) in
    c.remove.ensures.items ∙ ap (λ l. remove l c.args.from) c.remove-leave.ensures.items ∙ take_two c.args.from c.args.to c.args.events.now.items c.requires.order within
