use mir.Syntax.{w64}
use mir.Val.{to_z, of_z}
use Rattle.std.specs.Prelude.{All, IfSome, Option, Some, filter, not}
use Rattle.std.proofs.Common.{◌≡◌, ◌<◌, ◌∙◌, inl, ℕ, ℤ, List, [], ◌∷◌, ◌++◌, ap, sym, subst, arith}
use Rattle.std.proofs.lemmas.Int.{ints}
use Rattle.shunt_blocks.specs.declared.records.Block.{Block}
use Rattle.shunt_blocks.specs.defs.Shapes.{shape_of, unit_from, IsWithinTrains}
use Rattle.shunt_blocks.specs.defs.Blocks.{IsBlockButId}
use Rattle.shunt_blocks.specs.defs.Lists.{ShareNothing}
use Rattle.shunt_choices.specs.defs.Paths.{Masks}
use Rattle.shunt_choices.proofs.Given.{PlaceLaws}
use Rattle.shunt_prices.specs.defs.Cases.{IsFreeBlock}
use Rattle.shunt_stacks.specs.defs.Fillings.{IsStackGain}
use Rattle.shunt_prices.specs.defs.Prices.{track_length}
use Rattle.shunt_stacks.specs.defs.Spans.{Span, IsSpan, best}
use Rattle.shunt_stacks.specs.defs.Numbers.{shares, apart_of, entry_number, leave_number}
use Rattle.shunt_recount.specs.declared.offers.Offer.{Offer}
use Rattle.shunt_recount.specs.defs.Offers.{stack_at, AreOffersOf, blocks_in}
use Rattle.shunt_recount.specs.defs.Visits.{IsBest}
use Rattle.shunt_recount.specs.defs.Moments.{fixed_of, free_of}
use Rattle.shunt_recount.specs.defs.Places.{IsBeside}
use Rattle.shunt_blocks.proofs.Shapes.{all_within}
use Rattle.shunt_recount.proofs.Read.{fixed_at, free_at, bare_span, own_there, table_beside}
use Rattle.shunt_recount.proofs.Spanned.{offers_within}
use Rattle.shunt_recount.proofs.TakenOffers.{left}
use Rattle.shunt_recount.proofs.Added.{longer_each, longer_apart}
use Rattle.shunt_recount.proofs.falls.gain_with.Goals as goal

pub apart_from-requires-clause-offers : goal.apart_from-requires-clause-offers
apart_from-requires-clause-offers c =
    let night = c.args.instance.now in
    subst (λ (os : List Offer). All (λ o. IsWithinTrains night o.block) os) (sym c.deref.ensures.value)
    (offers_within night c.args.path.now.blocks c.args.case.now (stack_at c.args.count.now.end) c.args.count.now.offers.items c.requires.count.offers)

pub stack_gain-requires-clause-each : goal.stack_gain-requires-clause-each
stack_gain-requires-clause-each c =
    let night = c.args.instance.now in
    let path = c.args.path.now.blocks in
    let b = c.args.block.now in
    let free = subst (λ (m : Masks). IsFreeBlock night m (shape_of b) b.park) c.requires.path.covered c.requires.free in
    let is : c.deref-2.result.now ≡ path ++ b ∷ [] = c.deref-2.ensures.value ∙ (c.in_ok-push.ensures.items
    ∙ ap (λ (l : List Block). l ++ b ∷ []) (c.in_ok-longer.ensures.items ∙ c.blocks-2.ensures)) in
    subst (λ (bs : List Block). All (IsBlockButId night) bs) (sym is) (longer_each night path b free c.requires.each)

pub stack_gain-requires-clause-apart : goal.stack_gain-requires-clause-apart
stack_gain-requires-clause-apart c =
    let night = c.args.instance.now in
    let path = c.args.path.now.blocks in
    let b = c.args.block.now in
    let free = subst (λ (m : Masks). IsFreeBlock night m (shape_of b) b.park) c.requires.path.covered c.requires.free in
    let is : c.deref-2.result.now ≡ path ++ b ∷ [] = c.deref-2.ensures.value ∙ (c.in_ok-push.ensures.items
    ∙ ap (λ (l : List Block). l ++ b ∷ []) (c.in_ok-longer.ensures.items ∙ c.blocks-2.ensures)) in
    let places : PlaceLaws = record { unit_in = c.places.ensures.unit_in; position_in = c.places.ensures.position_in } in
    subst (ShareNothing night) (sym is) (longer_apart night path b free places c.requires.path.apart)

pub stack_gain-requires-clause-offers : goal.stack_gain-requires-clause-offers
stack_gain-requires-clause-offers c =
    let night = c.args.instance.now in
    let path = c.args.path.now.blocks in
    let case = c.args.case.now in
    let stack = stack_at c.args.count.now.end in
    let b = c.args.block.now in
    let os = c.args.count.now.offers.items in
    let free = subst (λ (m : Masks). IsFreeBlock night m (shape_of b) b.park) c.requires.path.covered c.requires.free in
    let is : c.deref-2.result.now ≡ path ++ b ∷ [] = c.deref-2.ensures.value ∙ (c.in_ok-push.ensures.items
    ∙ ap (λ (l : List Block). l ++ b ∷ []) (c.in_ok-longer.ensures.items ∙ c.blocks-2.ensures)) in
    let of = left night b path (path ++ b ∷ []) case stack os c.requires.count.offers
    (c.choices_by_events.ensures.blocks night path (blocks_in os) b case stack c.units.ensures.formed free c.requires.count.offers.free) in
    let there = c.deref-3.ensures.value ∙ (c.in_ok-apart.ensures ∙ ap (λ (l : List Offer). filter (λ o. not (shares night b o.block)) l) c.deref.ensures.value) in (
      case,
      c.requires.case,
      subst (λ (bs : List Block). AreOffersOf night bs case stack c.deref-3.result.now) (sym is)
          (subst (AreOffersOf night (path ++ b ∷ []) case stack) (sym there) of),
    )

pub returns-clause-exact : goal.returns-clause-exact
returns-clause-exact c =
    let night = c.args.instance.now in
    let path = c.args.path.now.blocks in
    let case = c.args.case.now in
    let stack = stack_at c.args.count.now.end in
    let b = c.args.block.now in
    let os = c.args.count.now.offers.items in
    let free = subst (λ (m : Masks). IsFreeBlock night m (shape_of b) b.park) c.requires.path.covered c.requires.free in
    let is : c.deref-2.result.now ≡ path ++ b ∷ [] = c.deref-2.ensures.value ∙ (c.in_ok-push.ensures.items
    ∙ ap (λ (l : List Block). l ++ b ∷ []) (c.in_ok-longer.ensures.items ∙ c.blocks-2.ensures)) in
    let of = left night b path (path ++ b ∷ []) case stack os c.requires.count.offers
    (c.choices_by_events.ensures.blocks night path (blocks_in os) b case stack c.units.ensures.formed free c.requires.count.offers.free) in
    let there = c.deref-3.ensures.value ∙ (c.in_ok-apart.ensures ∙ ap (λ (l : List Offer). filter (λ o. not (shares night b o.block)) l) c.deref.ensures.value) in
    let own = subst (λ (bs : List Block). AreOffersOf night bs case stack c.deref-3.result.now) (sym is) (subst (AreOffersOf night (path ++ b ∷ []) case stack) (sym there) of) in
    let small = c.in_ok-gained.ensures.small in
    let seen : to_z w64 (of_z w64 c.in_ok-gained.gained.gain) ≡ c.in_ok-gained.gained.gain = omega (arith, ints, small.low, small.high) in
    subst (IsStackGain night (path ++ b ∷ []) case stack) (sym seen)
    (subst (λ (bs : List Block). IsStackGain night bs case stack c.in_ok-gained.gained.gain) is (c.in_ok-gained.ensures.exact case own))

pub returns-clause-small : goal.returns-clause-small
returns-clause-small c =
    let small = c.in_ok-gained.ensures.small in
    record { low = omega (arith, ints, small.low, small.high); high = omega (arith, ints, small.low, small.high) }

pub gain_beside-requires : goal.gain_beside-requires
gain_beside-requires c =
    let night = c.args.instance.now in
    let path = c.args.path.now.blocks in
    let case = c.args.case.now in
    let stack = stack_at c.args.count.now.end in
    let b = c.args.block.now in
    let of = c.requires.count.offers in
    let blocks = blocks_in c.args.count.now.offers.items in
    let t = c.requires.count.table in
    let m = c.args.count.now.table.moments in
    let formed = c.units.ensures.formed in
    let numbers = c.gains_by_events.ensures.numbers night formed in
    let places : PlaceLaws = record { unit_in = c.places.ensures.unit_in; position_in = c.places.ensures.position_in } in
    let free = subst (λ (k : Masks). IsFreeBlock night k (shape_of b) b.park) c.requires.path.covered c.requires.free in
    let events = c.gains_by_events.ensures.own night (path ++ b ∷ []) (apart_of night b blocks) case stack 5760000 (entry_number night) (leave_number night) formed
    (longer_each night path b free c.requires.each) (longer_apart night path b free places c.requires.path.apart) numbers
    (c.choices_by_events.ensures.blocks night path blocks b case stack formed free of.free) in
    let span = c.visit_of-own.ensures in
    let first = unit_from night (shape_of b) in
    let within = free.shape.shape.within in
    let inside = c.places.ensures.unit_in night (shape_of b) first within (record { from = omega arith; to = omega (arith, within.n) }) in
    let there : entry_number night first < 5760000 = numbers.entries_in first inside in
    let from = ap (λ (s : Span). s.from) span in
    let end = t.table.end_same in
    let small = c.requires.count.small in
    let gain = c.args.count.now.gain in
    let seen : to_z w64 (of_z w64 gain) ≡ gain = omega (arith, ints, small.low, small.high) in
    record {
      moments = t.table.moments;
      known = t.table.known;
      span = subst IsSpan (sym span) (events.spans (bare_span night b) (inl (own_there night path b stack c.requires.own)));
      bare = ap (λ (s : Span). s.gain) span;
      comes = omega (arith, there, from, end);
      whole = subst (λ (z : ℤ). IsBest (fixed_of m) (free_of m) 0 m.end c.room_on-room.result (Some z)) (sym seen)
          (subst (λ (y : ℕ). IsBest (fixed_of m) (free_of m) 0 y c.room_on-room.result (Some gain)) (sym end)
          (subst (λ (r : ℕ). IsBest (fixed_of m) (free_of m) 0 5760000 r (Some gain)) (sym c.room_on-room.ensures.exact) t.whole));
      small = record { low = omega (arith, ints, small.low, small.high); high = omega (arith, ints, small.low, small.high) };
    }

pub returns-in-Some-clause-exact : goal.returns-in-Some-clause-exact
returns-in-Some-clause-exact c =
    let night = c.args.instance.now in
    let path = c.args.path.now.blocks in
    let case = c.args.case.now in
    let stack = stack_at c.args.count.now.end in
    let b = c.args.block.now in
    let os = c.args.count.now.offers.items in
    let of = c.requires.count.offers in
    let t = c.requires.count.table in
    let table = c.args.count.now.table in
    let m = table.moments in
    let formed = c.units.ensures.formed in
    let numbers = c.gains_by_events.ensures.numbers night formed in
    let places : PlaceLaws = record { unit_in = c.places.ensures.unit_in; position_in = c.places.ensures.position_in } in
    let free = subst (λ (k : Masks). IsFreeBlock night k (shape_of b) b.park) c.requires.path.covered c.requires.free in
    let each = longer_each night path b free c.requires.each in
    let apart = longer_apart night path b free places c.requires.path.apart in
    let left = c.choices_by_events.ensures.blocks night path (blocks_in os) b case stack formed free of.free in
    let events = c.gains_by_events.ensures.own night (path ++ b ∷ []) (apart_of night b (blocks_in os)) case stack 5760000 (entry_number night) (leave_number night) formed each
    apart numbers left in
    let others = fixed_at night stack (path ++ b ∷ []) in
    let more = free_at night case (apart_of night b (blocks_in os)) in
    let beside = table_beside night path b stack case os of table t.table c.requires.own events
    (λ x y out. c.choices_by_events.ensures.agree night path (blocks_in os) b case stack 5760000 (entry_number night) (leave_number night) x y formed numbers of.free free
    c.requires.own out) in
    let z = c.in-Some.gain in
    let first : best m.end others more 0 m.end c.room_on-room.result ≡ Some z =
    subst (λ (o : Option ℤ). IfSome o (λ (y : ℤ). best m.end others more 0 m.end c.room_on-room.result ≡ Some y)) c.in-Some.is
    (c.in_ok-gain.ensures.exact others more (subst (IsBeside (fixed_of m) (free_of m) others more) (sym c.visit_of-own.ensures) beside)) in
    let most : best 5760000 others more 0 5760000 (track_length night stack.track.0) ≡ Some z =
    subst (λ (r : ℕ). best 5760000 others more 0 5760000 r ≡ Some z) c.room_on-room.ensures.exact
    (subst (λ (y : ℕ). best y others more 0 y c.room_on-room.result ≡ Some z) t.table.end_same first) in
    let is = (c.gains_by_events.ensures.gain night (path ++ b ∷ []) (apart_of night b (blocks_in os)) case stack 5760000 (entry_number night) (leave_number night) z formed
    each apart numbers left).0 most in
    let small = c.sums_fit.ensures.gain night (path ++ b ∷ []) case stack z formed (all_within night (path ++ b ∷ []) each) apart c.requires.longer c.requires.case is in
    let seen : to_z w64 (of_z w64 z) ≡ z = omega (arith, ints, small.low, small.high) in
    subst (IsStackGain night (path ++ b ∷ []) case stack) (sym seen) is

pub returns-in-Some-clause-small : goal.returns-in-Some-clause-small
returns-in-Some-clause-small c =
    let night = c.args.instance.now in
    let path = c.args.path.now.blocks in
    let case = c.args.case.now in
    let stack = stack_at c.args.count.now.end in
    let b = c.args.block.now in
    let os = c.args.count.now.offers.items in
    let of = c.requires.count.offers in
    let t = c.requires.count.table in
    let table = c.args.count.now.table in
    let m = table.moments in
    let formed = c.units.ensures.formed in
    let numbers = c.gains_by_events.ensures.numbers night formed in
    let places : PlaceLaws = record { unit_in = c.places.ensures.unit_in; position_in = c.places.ensures.position_in } in
    let free = subst (λ (k : Masks). IsFreeBlock night k (shape_of b) b.park) c.requires.path.covered c.requires.free in
    let each = longer_each night path b free c.requires.each in
    let apart = longer_apart night path b free places c.requires.path.apart in
    let left = c.choices_by_events.ensures.blocks night path (blocks_in os) b case stack formed free of.free in
    let events = c.gains_by_events.ensures.own night (path ++ b ∷ []) (apart_of night b (blocks_in os)) case stack 5760000 (entry_number night) (leave_number night) formed each
    apart numbers left in
    let others = fixed_at night stack (path ++ b ∷ []) in
    let more = free_at night case (apart_of night b (blocks_in os)) in
    let beside = table_beside night path b stack case os of table t.table c.requires.own events
    (λ x y out. c.choices_by_events.ensures.agree night path (blocks_in os) b case stack 5760000 (entry_number night) (leave_number night) x y formed numbers of.free free
    c.requires.own out) in
    let z = c.in-Some.gain in
    let first : best m.end others more 0 m.end c.room_on-room.result ≡ Some z =
    subst (λ (o : Option ℤ). IfSome o (λ (y : ℤ). best m.end others more 0 m.end c.room_on-room.result ≡ Some y)) c.in-Some.is
    (c.in_ok-gain.ensures.exact others more (subst (IsBeside (fixed_of m) (free_of m) others more) (sym c.visit_of-own.ensures) beside)) in
    let most : best 5760000 others more 0 5760000 (track_length night stack.track.0) ≡ Some z =
    subst (λ (r : ℕ). best 5760000 others more 0 5760000 r ≡ Some z) c.room_on-room.ensures.exact
    (subst (λ (y : ℕ). best y others more 0 y c.room_on-room.result ≡ Some z) t.table.end_same first) in
    let is = (c.gains_by_events.ensures.gain night (path ++ b ∷ []) (apart_of night b (blocks_in os)) case stack 5760000 (entry_number night) (leave_number night) z formed
    each apart numbers left).0 most in
    let small = c.sums_fit.ensures.gain night (path ++ b ∷ []) case stack z formed (all_within night (path ++ b ∷ []) each) apart c.requires.longer c.requires.case is in
    record { low = omega (arith, ints, small.low, small.high); high = omega (arith, ints, small.low, small.high) }
