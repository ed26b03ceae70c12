use Rattle.shunt_proof.specs.declared.records.Version.TheVariants.{Stacks}
use Rattle.shunt_checker.specs.defs.Lows.{offer_of}
use Rattle.shunt_checker.proofs.Looked.{no_option}
use Rattle.shunt_checker.proofs.omissions.is_missed.Goals as goal

pub returns-then-not-is_option : goal.returns-then-not-is_option
returns-then-not-is_option c =
    let b = c.args.branch.now in
    no_option Stacks c.args.instance.now b.path.now.blocks b.cases.now b.nodes.now b.node b.stated
    (offer_of c.args.shape c.args.park) c.is_option.result c.is_option.ensures.fact c.if-not-is_option.true
