use Rattle.std.proofs.Common.{subst, sym}
use Rattle.shunt_base.specs.declared.duals.Case.{Case}
use Rattle.shunt_checker.specs.defs.Lows.{AreGains}
use Rattle.shunt_checker.proofs.gains.gains_in.Goals as goal
use Rattle.shunt_prices.proofs.Counts.{got, got_is}

pub gains_of-requires-clause-case : goal.gains_of-requires-clause-case
gains_of-requires-clause-case c = got_is c.args.instance.now c.args.cases.now c.args.k c.get.result.now c.get.ensures c.requires.there c.requires.cases

pub returns : goal.returns
returns c = subst (λ (x : Case). AreGains c.args.instance.now x c.args.shape c.gains_of.result)
    (sym (got c.args.cases.now c.args.k c.get.result.now c.get.ensures)) c.gains_of.ensures
