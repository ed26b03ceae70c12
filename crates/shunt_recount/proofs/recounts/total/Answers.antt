use mir.Syntax.{w64}
use mir.Val.{to_z, of_z}
use Rattle.std.proofs.Common.{◌≡◌, ◌∙◌, arith}
use Rattle.std.proofs.lemmas.Int.{ints}
use Rattle.shunt_recount.proofs.Totalled.{gains_in, same_sum, all_gains}
use Rattle.shunt_recount.proofs.recounts.total.Goals as goal

pub returns-clause-exact : goal.returns-clause-exact
returns-clause-exact c = λ night path case is.
    let counts = c.args.recount.now.counts.items in
    let seen : to_z w64 (of_z w64 c.args.recount.now.total) ≡ c.args.recount.now.total = omega (arith, ints, is.small.low, is.small.high) in
    (gains_in counts, all_gains night path case counts is.counts, seen ∙ (is.total ∙ same_sum counts))
