use Rattle.shunt_proof.specs.declared.records.Version.TheVariants.{Prices}
use Rattle.shunt_checker.specs.defs.Firsts.{HoldsNotBelow}
use Rattle.shunt_checker.specs.defs.Searches.{IsOneOfShape}
use Rattle.shunt_checker.specs.defs.Misses.{IsMissed}
use Rattle.shunt_checker.proofs.Options.{number_of}
use Rattle.shunt_checker.proofs.missed_choices.missed_option.Given as goal

abbrev pub invariant-loop-number : goal.invariant-loop-number
invariant-loop-number l = HoldsNotBelow (IsOneOfShape (IsMissed Prices l.fn.instance l.fn.branch.path.now.blocks l.fn.branch.cases.now l.fn.branch.nodes.now l.fn.branch.node
    l.fn.branch.stated) l.fn.shape) number_of l.number
