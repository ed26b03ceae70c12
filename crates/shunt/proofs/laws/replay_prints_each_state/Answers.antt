use Rattle.shunt.proofs.TurnLines.{FindingLaws, each_line}
use Rattle.shunt.proofs.laws.replay_prints_each_state.Goals as goal

pub returns : goal.returns
returns c =
    let laws : FindingLaws = record { exactly = c.findings.ensures.exactly; in_order = c.findings.ensures.in_order } in
    each_line laws
