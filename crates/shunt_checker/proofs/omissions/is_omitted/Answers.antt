use Rattle.std.specs.Prelude.{IsTrue, ◌↔◌, Bool}
use Rattle.std.proofs.lemmas.Result.{IfOk-weaker}
use Rattle.shunt_proof.specs.declared.records.Version.TheVariants.{Stacks}
use Rattle.shunt_checker.specs.defs.Lows.{offer_of, IsLowBy}
use Rattle.shunt_checker.specs.defs.Misses.{IsMissed}
use Rattle.shunt_checker.proofs.Looked.{listed}
use Rattle.shunt_checker.proofs.Lonely.{far_off, omitted_is}
use Rattle.shunt_checker.proofs.omissions.is_omitted.Goals as goal

pub returns-then-not-is_near : goal.returns-then-not-is_near
returns-then-not-is_near c =
    let b = c.args.branch.now in
    far_off c.args.instance.now b.path.now.blocks b.cases.now b.nodes.now b.node b.stated (offer_of c.args.shape c.args.park) (c.is_near.ensures c.if-not-is_near.true)

pub returns-then-has_child : goal.returns-then-has_child
returns-then-has_child c =
    let b = c.args.branch.now in
    listed Stacks c.args.instance.now b.path.now.blocks b.cases.now b.nodes.now b.node b.stated
    (offer_of c.args.shape c.args.park) c.said.result c.said.ensures c.has_child.result c.has_child.ensures c.if-has_child.true

pub returns : goal.returns
returns c =
    let b = c.args.branch.now in
    let night = c.args.instance.now in
    let offer = offer_of c.args.shape c.args.park in
    IfOk-weaker c.is_low.result
    (λ (t : Bool). IsTrue t ↔ IsLowBy Stacks night b.path.now.blocks b.cases.now b.stated offer)
    (λ (t : Bool). IsTrue t ↔ IsMissed Stacks night b.path.now.blocks b.cases.now b.nodes.now b.node b.stated offer)
    (λ t low. omitted_is night b.path.now.blocks b.cases.now b.nodes.now b.node b.stated offer c.requires.free.option c.said.result c.said.ensures c.has_child.result
    c.has_child.ensures c.if-has_child.false (c.in_ok-through.ensures.0 c.if-not-through.false) t low)
    c.is_low.ensures
