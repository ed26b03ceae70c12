use Rattle.std.proofs.Common.{arith, ◌∙◌}
use Rattle.shunt_sheet.proofs.Tests.{last_at}
use Rattle.shunt_sheet.proofs.reader.last_minute.Goals as goal

pub returns : goal.returns
returns c = let ne = c.if-count-eq0.false in c.number.ensures.value ∙ last_at c.args.orders.now _ _ (omega (arith, ne))
