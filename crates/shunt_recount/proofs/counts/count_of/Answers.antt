use mir.Syntax.{w64}
use mir.Val.{to_z, of_z}
use Rattle.std.proofs.Common.{◌≡◌, List, sym, subst, arith}
use Rattle.std.proofs.lemmas.Int.{ints}
use Rattle.shunt_blocks.specs.declared.records.Block.{Block}
use Rattle.shunt_choices.specs.defs.Paths.{Masks}
use Rattle.shunt_choices.specs.defs.Choices.{AreFreeShapes}
use Rattle.shunt_stacks.specs.defs.Fillings.{IsStackGain}
use Rattle.shunt_recount.specs.declared.offers.Offer.{Offer}
use Rattle.shunt_recount.specs.defs.Offers.{stack_at, IsCandidate, AreOffersOf}
use Rattle.shunt_recount.specs.defs.Recounts.{IsStackTable}
use Rattle.shunt_recount.proofs.TakenOffers.{taken}
use Rattle.shunt_recount.proofs.counts.count_of.Goals as goal
use Rattle.shunt_lists.proofs.Members.{to_all as from_members}

pub offers_for-requires-clause-candidates : goal.offers_for-requires-clause-candidates
offers_for-requires-clause-candidates c = from_members (IsCandidate c.args.instance.now c.args.case.now) c.args.candidates.now (λ k i. (c.requires.candidates.2.each k i).0)

pub stack_gain-requires-clause-offers : goal.stack_gain-requires-clause-offers
stack_gain-requires-clause-offers c =
    let night = c.args.instance.now in
    let case = c.args.case.now in
    let stack = stack_at c.args.end in
    let free = subst (λ (m : Masks). AreFreeShapes night m c.requires.candidates.0) c.requires.path.covered c.requires.candidates.1 in
    let of = taken night case stack c.args.path.now.blocks c.requires.candidates.0 c.args.candidates.now c.in_ok-offers.offers.items free c.requires.candidates.2
    c.in_ok-offers.ensures in (
      case,
      c.requires.case,
      subst (λ (bs : List Block). AreOffersOf night bs case stack c.deref.result.now) (sym c.blocks-2.ensures)
          (subst (AreOffersOf night c.args.path.now.blocks case stack) (sym c.deref.ensures.value) of),
    )

pub returns-clause-is : goal.returns-clause-is
returns-clause-is c =
    let night = c.args.instance.now in
    let case = c.args.case.now in
    let stack = stack_at c.args.end in
    let free = subst (λ (m : Masks). AreFreeShapes night m c.requires.candidates.0) c.requires.path.covered c.requires.candidates.1 in
    let of = taken night case stack c.args.path.now.blocks c.requires.candidates.0 c.args.candidates.now c.in_ok-offers.offers.items free c.requires.candidates.2
    c.in_ok-offers.ensures in
    let there = subst (λ (bs : List Block). AreOffersOf night bs case stack c.deref.result.now) (sym c.blocks-2.ensures)
    (subst (AreOffersOf night c.args.path.now.blocks case stack) (sym c.deref.ensures.value) of) in
    let small = c.in_ok-gained.ensures.small in
    let seen : to_z w64 (of_z w64 c.in_ok-gained.gained.gain) ≡ c.in_ok-gained.gained.gain = omega (arith, ints, small.low, small.high) in
    record {
      offers = of;
      gain = subst (IsStackGain night c.args.path.now.blocks case stack) (sym seen)
          (subst (λ (bs : List Block). IsStackGain night bs case stack c.in_ok-gained.gained.gain) c.blocks-2.ensures (c.in_ok-gained.ensures.exact case there));
      small = record { low = omega (arith, ints, small.low, small.high); high = omega (arith, ints, small.low, small.high) };
      table = subst (IsStackTable night c.args.path.now.blocks stack c.in_ok-offers.offers.items c.in_ok-gained.gained.table) (sym seen)
          (subst (λ (bs : List Block). IsStackTable night bs stack c.in_ok-offers.offers.items c.in_ok-gained.gained.table c.in_ok-gained.gained.gain) c.blocks-2.ensures
          (subst (λ (os : List Offer). IsStackTable night c.blocks-2.result.now stack os c.in_ok-gained.gained.table c.in_ok-gained.gained.gain) c.deref.ensures.value
          c.in_ok-gained.ensures.table));
    }
