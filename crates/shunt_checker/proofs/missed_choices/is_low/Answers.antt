use Rattle.shunt_checker.specs.defs.Lows.{offer_of}
use Rattle.shunt_checker.proofs.Lowness.{by_first, by_either}
use Rattle.shunt_checker.proofs.missed_choices.is_low.Goals as goal

pub returns-then-is_low_in : goal.returns-then-is_low_in
returns-then-is_low_in c =
    let b = c.args.branch.now in
    by_first c.args.instance.now b.path.now.blocks b.cases.now b.stated (offer_of c.args.shape c.args.park) c.is_low_in.result c.is_low_in.ensures c.if-is_low_in.true

pub returns : goal.returns
returns c =
    let b = c.args.branch.now in
    by_either c.args.instance.now b.path.now.blocks b.cases.now b.stated (offer_of c.args.shape c.args.park) c.is_low_in.result c.is_low_in-2.result b.last
    c.requires.branch.cases.few c.requires.branch.last_is
    c.is_low_in.ensures c.if-is_low_in.false c.is_low_in-2.ensures
