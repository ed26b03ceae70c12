use Rattle.std.proofs.Common.{◌≡◌, ◌∙◌, true, List, sym, subst, arith}
use Rattle.std.proofs.lemmas.Int.{ints}
use Rattle.std.proofs.lemmas.Bool.{false≢true}
use Rattle.shunt_lists.specs.defs.Members.{In}
use Rattle.shunt_blocks.specs.defs.Shapes.{shape_of}
use Rattle.shunt_stacks.specs.defs.Stacks.{Stack, is_of, stack_of}
use Rattle.shunt_recount.specs.declared.counts.StackCount.{StackCount}
use Rattle.shunt_recount.specs.defs.Offers.{stack_at}
use Rattle.shunt_recount.proofs.Totalled.{count_at}
use Rattle.shunt_recount.proofs.Added.{no_fall, some_fall}
use Rattle.shunt_recount.proofs.falls.fall.Goals as goal

pub returns-in_default-clause-exact : goal.returns-in_default-clause-exact
returns-in_default-clause-exact c =
    let night = c.args.instance.now in
    let path = c.args.path.now.blocks in
    let b = c.args.block.now in
    let case = c.args.case.now in
    no_fall night path b case (stack_of b.park) (λ s e.
    let there = c.stacks_of_stations.ensures.there night (shape_of b) b.park s c.units.ensures.formed c.requires.free.option e in
    let k = count_at night path case s c.args.recount.now.counts.items c.requires.recount.counts there in
    let holds = subst (λ (x : Stack). is_of x b.park ≡ true) k.2 ((c.stacks_of_stations.ensures.own s b.park).1 e) in
    let fails = c.in_default.ensures.none k.0 (subst (λ (ks : List StackCount). In k.0 ks) (sym c.deref.ensures.value) k.1) in
    false≢true (sym fails ∙ holds))

pub gain_with-requires-clause-count : goal.gain_with-requires-clause-count
gain_with-requires-clause-count c =
    let some = c.in-Some.ensures.some in
    c.requires.recount.counts.each c.in-Some.count.now (subst (λ (ks : List StackCount). In c.in-Some.count.now ks) c.deref.ensures.value some.0)

pub gain_with-requires-clause-own : goal.gain_with-requires-clause-own
gain_with-requires-clause-own c = c.in-Some.ensures.some.1

pub lost-requires-clause-before : goal.lost-requires-clause-before
lost-requires-clause-before c =
    let some = c.in-Some.ensures.some in
    let k = c.in-Some.count.now in
    let small = (c.requires.recount.counts.each k (subst (λ (ks : List StackCount). In k ks) c.deref.ensures.value some.0)).small in
    record { low = omega (arith, ints, small.low, small.high); high = omega (arith, ints, small.low, small.high) }

pub returns-clause-exact : goal.returns-clause-exact
returns-clause-exact c =
    let some = c.in-Some.ensures.some in
    let k = c.in-Some.count.now in
    let is = c.requires.recount.counts.each k (subst (λ (ks : List StackCount). In k ks) c.deref.ensures.value some.0) in
    let small = c.in_ok-after.ensures.small in
    let own = (c.stacks_of_stations.ensures.own (stack_at k.end) c.args.block.now.park).0 some.1 in
    let lost = c.lost.ensures in
    some_fall c.args.instance.now c.args.path.now.blocks c.args.block.now c.args.case.now (stack_of c.args.block.now.park)
    (stack_at k.end) k.gain c.in_ok-after.after _ own is.gain c.in_ok-after.ensures.exact
    (omega (arith, ints, is.small.low, is.small.high, small.low, small.high, lost.exact, lost.small.low, lost.small.high))
