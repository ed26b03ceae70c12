use Rattle.std.proofs.Common.{◌≤◌, arith}
use Rattle.std.proofs.lemmas.List.Elements.{All-weaker}
use Rattle.shunt_picture.specs.defs.Layouts.{end_of}
use Rattle.shunt_picture.proofs.plan_picture.trains_end.Goals as goal

pub returns-clause-arrive : goal.returns-clause-arrive
returns-clause-arrive c =
    let further = c.far_end-2.ensures.least in
    All-weaker (λ t. end_of c.args.from t ≤ c.far_end.result) (λ t. end_of c.args.from t ≤ c.far_end-2.result)
    (λ t le. omega (arith, le, further)) c.args.arrive.now c.far_end.ensures.trains
