use Rattle.std.specs.Prelude.{IsTrue, ◌↔◌, Bool}
use Rattle.std.proofs.lemmas.Result.{IfOk-weaker}
use Rattle.shunt_blocks.specs.defs.Lists.{RunsThrough, placed}
use Rattle.shunt_choices.specs.defs.Choices.{longer_by}
use Rattle.shunt_proof.specs.declared.records.Version.TheVariants.{Prices}
use Rattle.shunt_checker.specs.defs.Lows.{offer_of}
use Rattle.shunt_checker.specs.defs.Misses.{IsMissed}
use Rattle.shunt_checker.proofs.Looked.{no_option, not_low, listed, missed_is}
use Rattle.shunt_checker.proofs.missed_choices.is_missed.Goals as goal

pub returns-then-not-is_option : goal.returns-then-not-is_option
returns-then-not-is_option c =
    let b = c.args.branch.now in
    no_option Prices c.args.instance.now b.path.now.blocks b.cases.now b.nodes.now b.node b.stated
    (offer_of c.args.shape c.args.park) c.is_option.result c.is_option.ensures.fact c.if-not-is_option.true

pub returns-then-not-is_low : goal.returns-then-not-is_low
returns-then-not-is_low c =
    let b = c.args.branch.now in
    not_low Prices c.args.instance.now b.path.now.blocks b.cases.now b.nodes.now b.node b.stated
    (offer_of c.args.shape c.args.park) c.is_low.result c.is_low.ensures c.if-not-is_low.true

pub returns-then-has_child : goal.returns-then-has_child
returns-then-has_child c =
    let b = c.args.branch.now in
    listed Prices c.args.instance.now b.path.now.blocks b.cases.now b.nodes.now b.node b.stated
    (offer_of c.args.shape c.args.park) c.said.result c.said.ensures c.has_child.result c.has_child.ensures c.if-has_child.true

pub returns : goal.returns
returns c =
    let b = c.args.branch.now in
    let night = c.args.instance.now in
    let offer = offer_of c.args.shape c.args.park in
    IfOk-weaker c.goes_through.result
    (λ (t : Bool). IsTrue t ↔ RunsThrough night (placed (longer_by b.path.now.blocks offer)))
    (λ (t : Bool). IsTrue t ↔ IsMissed Prices night b.path.now.blocks b.cases.now b.nodes.now b.node b.stated offer)
    (λ t runs. missed_is Prices night b.path.now.blocks b.cases.now b.nodes.now b.node b.stated offer c.said.result c.said.ensures c.is_option.result c.is_low.result
    c.has_child.result t
    c.is_option.ensures.fact c.if-not-is_option.false c.is_low.ensures c.if-not-is_low.false c.has_child.ensures c.if-has_child.false runs)
    c.goes_through.ensures
