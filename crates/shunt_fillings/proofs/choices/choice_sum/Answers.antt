use mir.Syntax.{w64}
use mir.Val.{to_z, of_z}
use Rattle.std.specs.List.{AllZip}
use Rattle.std.proofs.Common.{List, get_or, sym, subst, arith}
use Rattle.std.proofs.lemmas.Int.{ints}
use Rattle.shunt_base.specs.declared.ids.Side.TheVariants.{A}
use Rattle.shunt_base.specs.declared.duals.Case.{Case}
use Rattle.shunt_blocks.specs.defs.Shapes.{shape_of}
use Rattle.shunt_prices.specs.defs.Limits.{case_at}
use Rattle.shunt_stacks.specs.defs.Stacks.{Stack as OneStack, stacks}
use Rattle.shunt_fillings.specs.declared.ends.Stack.{Stack}
use Rattle.shunt_fillings.specs.defs.Pieces.{seen}
use Rattle.shunt_fillings.specs.defs.Prospects.{IsProspect}
use Rattle.shunt_fillings.proofs.Listed.{seen_in, zip_seen, zip_there}
use Rattle.shunt_fillings.proofs.Chosen.{of_none, sum_of_none, sum_of_stack}
use Rattle.shunt_fillings.proofs.choices.choice_sum.Goals as goal
use Rattle.shunt_blocks.proofs.Shapes.{all_within as blocks_within}
use Rattle.shunt_prices.proofs.Counts.{got, got_is}

abbrev no_stack : Stack
no_stack = record { track = record { 0 = 0 }; side = A }

pub gain-own-requires-clause-case : goal.gain-own-requires-clause-case
gain-own-requires-clause-case c = got_is c.args.scene.now.instance.now c.args.cases.now c.args.k c.get.result.now c.get.ensures c.requires.there c.requires.cases

pub index-prospect-requires : goal.index-prospect-requires
index-prospect-requires c =
    let s = c.args.scene.now in
    let R = IsProspect s.instance.now s.path.now.blocks (case_at c.args.cases.now c.args.k) in
    let items = c.args.outlook.now.stacks.items in
    let zip = subst (λ (ks : List OneStack). AllZip R ks items) (sym c.requires.scene.stacks) c.requires.outlook.each in
    let lt = zip_there R s.stacks.now items c.in-Some.s zip c.in-Some.ensures.there in
    omega (arith, lt, c.args.outlook.now.stacks.ok)

pub gain_with-requires-clause-track : goal.gain_with-requires-clause-track
gain_with-requires-clause-track c =
    let s = c.args.scene.now in
    let there = seen_in s.stacks.now c.in-Some.s no_stack (stacks s.instance.now.station) c.in-Some.ensures.there c.requires.scene.stacks in
    ((c.stacks_of_stations.ensures.open_at s.instance.now.station (seen (get_or s.stacks.now c.in-Some.s no_stack))).0 there).0

pub gain_with-requires-clause-prospect : goal.gain_with-requires-clause-prospect
gain_with-requires-clause-prospect c =
    let s = c.args.scene.now in
    let case : Case = case_at c.args.cases.now c.args.k in
    let R = IsProspect s.instance.now s.path.now.blocks case in
    let items = c.args.outlook.now.stacks.items in
    let prospect = c.index-prospect.result.now in
    let stack = seen (get_or s.stacks.now c.in-Some.s no_stack) in
    let zip = subst (λ (ks : List OneStack). AllZip R ks items) (sym c.requires.scene.stacks) c.requires.outlook.each in
    let is = subst (R stack) (sym c.index-prospect.ensures) (zip_seen R s.stacks.now items c.in-Some.s no_stack prospect zip c.in-Some.ensures.there) in
    (case, c.requires.cases.each c.args.k _ c.requires.there, is)

pub gain_with-requires-clause-own : goal.gain_with-requires-clause-own
gain_with-requires-clause-own c = c.in-Some.ensures.of no_stack

pub with_fall-requires-clause-before : goal.with_fall-requires-clause-before
with_fall-requires-clause-before c =
    let s = c.args.scene.now in
    let R = IsProspect s.instance.now s.path.now.blocks (case_at c.args.cases.now c.args.k) in
    let items = c.args.outlook.now.stacks.items in
    let stack = seen (get_or s.stacks.now c.in-Some.s no_stack) in
    let zip = subst (λ (ks : List OneStack). AllZip R ks items) (sym c.requires.scene.stacks) c.requires.outlook.each in
    let is = subst (R stack) (sym c.index-prospect.ensures) (zip_seen R s.stacks.now items c.in-Some.s no_stack c.index-prospect.result.now zip c.in-Some.ensures.there) in
    let small = is.small in
    record { low = omega (arith, ints, small.low, small.high); high = omega (arith, ints, small.low, small.high) }

pub returns-in_default-clause-exact : goal.returns-in_default-clause-exact
returns-in_default-clause-exact c =
    let s = c.args.scene.now in
    let b = c.args.block.now in
    let sum = c.requires.outlook.small in
    let own = c.gain-own.ensures.small in
    let none = of_none s.stacks.now (stacks s.instance.now.station) c.requires.scene.stacks b.park (λ st. c.stacks_of_stations.ensures.own st b.park)
    (λ st e. c.stacks_of_stations.ensures.there s.instance.now (shape_of b) b.park st c.units.ensures.formed c.requires.block.free.option e) c.in_default.ensures.none in
    sum_of_none s.instance.now s.path.now.blocks b c.args.cases.now c.args.k c.get.result.now
    (got c.args.cases.now c.args.k c.get.result.now c.get.ensures) c.args.outlook.now.sum c.requires.outlook.sum c.gain-own.result
    c.gain-own.ensures.exact none _ (omega (arith, ints, sum.low, sum.high, own.low, own.high))

pub returns-in_default-clause-small : goal.returns-in_default-clause-small
returns-in_default-clause-small c =
    let s = c.args.scene.now in
    let b = c.args.block.now in
    let sum = c.requires.outlook.small in
    let own = c.gain-own.ensures.small in
    let none = of_none s.stacks.now (stacks s.instance.now.station) c.requires.scene.stacks b.park (λ st. c.stacks_of_stations.ensures.own st b.park)
    (λ st e. c.stacks_of_stations.ensures.there s.instance.now (shape_of b) b.park st c.units.ensures.formed c.requires.block.free.option e) c.in_default.ensures.none in
    c.sums_fit.ensures.choice s.instance.now s.path.now.blocks b c.args.cases.now c.args.k _ c.units.ensures.formed
    (blocks_within s.instance.now s.path.now.blocks c.requires.scene.each) c.requires.scene.path.apart
    c.requires.block.free c.requires.block.through c.requires.cases c.requires.there
    (sum_of_none s.instance.now s.path.now.blocks b c.args.cases.now c.args.k c.get.result.now
    (got c.args.cases.now c.args.k c.get.result.now c.get.ensures) c.args.outlook.now.sum c.requires.outlook.sum c.gain-own.result
    c.gain-own.ensures.exact none _ (omega (arith, ints, sum.low, sum.high, own.low, own.high)))

pub returns-clause-exact : goal.returns-clause-exact
returns-clause-exact c =
    let s = c.args.scene.now in
    let b = c.args.block.now in
    let case : Case = case_at c.args.cases.now c.args.k in
    let R = IsProspect s.instance.now s.path.now.blocks case in
    let items = c.args.outlook.now.stacks.items in
    let prospect = c.index-prospect.result.now in
    let stack = seen (get_or s.stacks.now c.in-Some.s no_stack) in
    let zip = subst (λ (ks : List OneStack). AllZip R ks items) (sym c.requires.scene.stacks) c.requires.outlook.each in
    let is = subst (R stack) (sym c.index-prospect.ensures) (zip_seen R s.stacks.now items c.in-Some.s no_stack prospect zip c.in-Some.ensures.there) in
    let sum = c.requires.outlook.small in
    let own = c.gain-own.ensures.small in
    let first = is.small in
    let later = c.in_ok-after.ensures.small in
    sum_of_stack s.instance.now s.path.now.blocks b c.args.cases.now c.args.k c.get.result.now
    (got c.args.cases.now c.args.k c.get.result.now c.get.ensures) c.args.outlook.now.sum c.requires.outlook.sum c.gain-own.result
    c.gain-own.ensures.exact stack ((c.stacks_of_stations.ensures.own stack b.park).0 (c.in-Some.ensures.of no_stack)) prospect.gain c.in_ok-after.after is.gain
    (c.in_ok-after.ensures.exact case is)
    (to_z w64 (of_z w64 c.with_fall.result))
    (omega (arith, ints, c.with_fall.ensures, sum.low, sum.high, own.low, own.high, first.low, first.high, later.low, later.high))

pub returns-clause-small : goal.returns-clause-small
returns-clause-small c =
    let s = c.args.scene.now in
    let b = c.args.block.now in
    let case : Case = case_at c.args.cases.now c.args.k in
    let R = IsProspect s.instance.now s.path.now.blocks case in
    let items = c.args.outlook.now.stacks.items in
    let prospect = c.index-prospect.result.now in
    let stack = seen (get_or s.stacks.now c.in-Some.s no_stack) in
    let zip = subst (λ (ks : List OneStack). AllZip R ks items) (sym c.requires.scene.stacks) c.requires.outlook.each in
    let is = subst (R stack) (sym c.index-prospect.ensures) (zip_seen R s.stacks.now items c.in-Some.s no_stack prospect zip c.in-Some.ensures.there) in
    let sum = c.requires.outlook.small in
    let own = c.gain-own.ensures.small in
    let first = is.small in
    let later = c.in_ok-after.ensures.small in
    c.sums_fit.ensures.choice s.instance.now s.path.now.blocks b c.args.cases.now c.args.k (to_z w64 (of_z w64 c.with_fall.result)) c.units.ensures.formed
    (blocks_within s.instance.now s.path.now.blocks c.requires.scene.each)
    c.requires.scene.path.apart c.requires.block.free c.requires.block.through c.requires.cases c.requires.there
    (sum_of_stack s.instance.now s.path.now.blocks b c.args.cases.now c.args.k c.get.result.now
    (got c.args.cases.now c.args.k c.get.result.now c.get.ensures) c.args.outlook.now.sum c.requires.outlook.sum c.gain-own.result
    c.gain-own.ensures.exact stack ((c.stacks_of_stations.ensures.own stack b.park).0 (c.in-Some.ensures.of no_stack)) prospect.gain c.in_ok-after.after is.gain
    (c.in_ok-after.ensures.exact case is)
    (to_z w64 (of_z w64 c.with_fall.result))
    (omega (arith, ints, c.with_fall.ensures, sum.low, sum.high, own.low, own.high, first.low, first.high, later.low, later.high)))
