use Rattle.std.proofs.Common.{rules}
use Rattle.std.specs.Cmp.Rules.{comparing}
use Rattle.std.proofs.lemmas.Slice.Eq.{slice_eq-Decides}
use Rattle.shunt_checker.proofs.known.are_same_prices.Goals as goal

pub returns : goal.returns
returns c = slice_eq-Decides (λ a b. search (comparing, rules)) c.args.one.now c.args.other.now c.eq.result c.eq.ensures
