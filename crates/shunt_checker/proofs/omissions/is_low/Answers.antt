use Rattle.std.specs.Prelude.{IsTrue, ◌↔◌, Bool, Option, cond, is_none}
use Rattle.std.proofs.lemmas.Result.{IfOk-weaker}
use Rattle.shunt_choices.specs.defs.Choices.{longer_by, chosen}
use Rattle.std.proofs.Common.{◌≡◌, ◌+◌, length, subst}
use Rattle.shunt_blocks.specs.declared.records.Park.{Park}
use Rattle.shunt_proof.specs.declared.records.Version.TheVariants.{Stacks}
use Rattle.shunt_checker.specs.defs.Lows.{IsLowIn, IsLowBy}
use Rattle.shunt_checker.proofs.Twofold.{opens_by, opens_zero, opens_end, shut_by, unparked_more}
use Rattle.shunt_checker.proofs.Lonely.{low_last, low_shut, low_first}
use Rattle.shunt_checker.proofs.omissions.is_low.Goals as goal

pub is_low_in-requires-clause-opens : goal.is_low_in-requires-clause-opens
is_low_in-requires-clause-opens c = opens_end c.args.branch.now.cases.now (longer_by c.args.branch.now.path.now.blocks c.args.offer) c.args.branch.now.last
    c.requires.branch.last_is

pub is_low_in-requires-2-clause-opens : goal.is_low_in-requires-2-clause-opens
is_low_in-requires-2-clause-opens c =
    let b = c.args.branch.now in
    let path = b.path.now.blocks in
    opens_zero b.cases.now (longer_by path c.args.offer) (opens_by b.cases.now (longer_by path c.args.offer) c.unparked_with-unparked.result c.has_open_first.result
    (unparked_more path (chosen (length path + 1) c.args.offer) b.unparked c.unparked_with-unparked.result c.requires.branch.unparked
    (subst (λ (o : Option Park). c.unparked_with-unparked.result ≡ b.unparked + cond (is_none o) 1 0) c.park_in.ensures c.unparked_with-unparked.ensures)) c.has_open_first.ensures
    c.if-not-has_open_first.false)

pub returns-then-low : goal.returns-then-low
returns-then-low c =
    let b = c.args.branch.now in
    low_last c.args.instance.now b.path.now.blocks b.cases.now b.stated c.args.offer b.last c.requires.branch.cases.few c.requires.branch.last_is c.in_ok-low.low
    c.in_ok-low.ensures c.if-low.true

pub returns-then-not-has_open_first : goal.returns-then-not-has_open_first
returns-then-not-has_open_first c =
    let b = c.args.branch.now in
    let path = b.path.now.blocks in
    low_shut c.args.instance.now path b.cases.now b.stated c.args.offer b.last c.requires.branch.cases.few c.requires.branch.last_is c.in_ok-low.low c.in_ok-low.ensures
    c.if-low.false
    (shut_by b.cases.now (longer_by path c.args.offer) c.unparked_with-unparked.result c.has_open_first.result
    (unparked_more path (chosen (length path + 1) c.args.offer) b.unparked c.unparked_with-unparked.result c.requires.branch.unparked
    (subst (λ (o : Option Park). c.unparked_with-unparked.result ≡ b.unparked + cond (is_none o) 1 0) c.park_in.ensures c.unparked_with-unparked.ensures)) c.has_open_first.ensures
    c.if-not-has_open_first.true)

pub returns : goal.returns
returns c =
    let b = c.args.branch.now in
    let night = c.args.instance.now in
    let path = b.path.now.blocks in
    IfOk-weaker c.is_low_in-2.result
    (λ (t : Bool). IsTrue t ↔ IsLowIn Stacks night path b.cases.now b.stated 0 c.args.offer)
    (λ (t : Bool). IsTrue t ↔ IsLowBy Stacks night path b.cases.now b.stated c.args.offer)
    (λ t test. low_first night path b.cases.now b.stated c.args.offer b.last c.requires.branch.cases.few c.requires.branch.last_is c.in_ok-low.low c.in_ok-low.ensures
    c.if-low.false t test)
    c.is_low_in-2.ensures
